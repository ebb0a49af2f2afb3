-- The callers' seats at a leaf's tables, over their calls and over meetings.
use Rattle.std.proofs.Common.{◌≡◌, ◌≢◌, ◌⊎◌, inl, inr, ℕ, ◌<◌, List, length, Option, Some, refl, sym, ap, subst, ◌∙◌, length-set}
use Rattle.std.specs.Prelude.{slice_get, slice_set, slice_index_or}
use Rattle.std.proofs.lemmas.Option.{slice_get_read}
use Rattle.leaf_history.specs.Calls.{Call}
use Rattle.leaf_history.specs.History.{LegalFrom}
use Rattle.turnstile.specs.Seats.{AreIds, IsSeatOf, LearnsOthers, SeesAlso}
use Rattle.leaf_table.specs.declared.replies.Reply.{Reply}
use Rattle.leaf_table.specs.declared.replies.Reply.TheVariants as told
use Rattle.leaf_table.specs.Turns.{Shared, is_founded, start_of}
use Rattle.leaf_table.specs.Calls.{SeatView, Answered, SameSeat, base_seen, seen_of}
use Rattle.leaf_steward.specs.Seated.{Seated, AtPlace}
use Rattle.leaf_steward.proofs.Seating.{same_at, set_either, some_same}
use Rattle.leaf_moves.specs.Stage.{Leaf, seated_of, with_seats}
use Rattle.player.specs.Rows.{SeatRow, AreCalled, CallsTable, IsCallersAt}
use Rattle.player.specs.Meeting.{MeetsAt}
use Rattle.leaf_deeds.proofs.Meetings.{IsMetSeat, IsThere, is_there}

-- ---- what stands in a place

-- what is read of a place within a list stands there
pub stands_at : {A : Type 0} (xs : List A) (place : ℕ) (x : A) → place < length xs → x ≡ slice_index_or xs place x → slice_get xs place ≡ Some x
stands_at xs place x within is = slice_get_read xs (length xs) place x refl within is

-- ---- a seat and its table

-- the same seats but for one are callers' seats still
pub called_with : (x : SeatRow) (table : ℕ) (t : Shared) (c : SeatView) → AreCalled x → slice_get x.tables table ≡ Some t → IsCallersAt t c
    → AreCalled (record { tables = x.tables; seats = slice_set x.seats table (Some c) })
called_with x table t c are at here = record {
  count = length-set x.seats table (Some c) ∙ are.count;
  each = λ place u v there seat. by place u v there (set_either x.seats table place (Some c) (Some v) seat);
}
  where
    by : (place : ℕ) (u : Shared) (v : SeatView) → slice_get x.tables place ≡ Some u → ((place ≡ table) × (Some v ≡ Some c)) ⊎ ((place ≢ table) × (slice_get x.seats place ≡ Some (Some v))) → IsCallersAt u v
    by place u v there (inl h) =
        let is : t ≡ u = same_at x.tables table t u at (subst (λ (n : ℕ). slice_get x.tables n ≡ Some u) h.0 there) in
        subst (λ (s : SeatView). IsCallersAt u s) (sym (some_same v c h.1)) (subst (λ (s : Shared). IsCallersAt s c) is here)
    by place u v there (inr h) = are.each place u v there h.1

-- ---- calls

-- what a seat has seen is legal, behind a call too
legal_after : (t : Shared) (v : SeatView) (c : Call) (reply : Reply) (w : SeatView) → LegalFrom (is_founded (base_seen t)) (start_of (base_seen t)) (seen_of v) → Answered (base_seen t) v c reply w
    → LegalFrom (is_founded (base_seen t)) (start_of (base_seen t)) (seen_of w)
legal_after t v c (told.Added number kept late) w legal answered = answered.2.legal
legal_after t v c (told.Removed number rows) w legal answered = answered.2.legal
legal_after t v c (told.Groups number gs) w legal answered = answered.2.legal
legal_after t v c (told.Shut number) w legal answered = answered.2.legal
legal_after t v c (told.Full number) w legal answered = answered.2.legal
legal_after t v c (told.NoMemory number) w legal answered = answered.2.legal
legal_after t v c told.Worn w legal answered = subst (λ (s : SeatView). LegalFrom (is_founded (base_seen t)) (start_of (base_seen t)) (seen_of s)) (sym answered.1) legal

pub callers_after : (t : Shared) (v : SeatView) (c : Call) (reply : Reply) (w : SeatView) → IsCallersAt t v → IsSeatOf w t.site → SameSeat v w → Answered (base_seen t) v c reply w → IsCallersAt t w
callers_after t v c reply w is seat same answered = record {
  seat = seat;
  caller = subst (λ (n : ℕ). 0 < n) (sym same.id) is.caller;
  legal = legal_after t v c reply w is.legal answered;
}

-- the seat v at the table t
module _ (x : SeatRow) (table : ℕ) (t : Shared) (v : SeatView) (are : AreCalled x) (at : slice_get x.tables table ≡ Some t) (was : slice_get x.seats table ≡ Some (Some v)) where
  pub is_called : IsCallersAt t v
  is_called = are.each table t v at was

  pub called_on : (c : Call) (reply : Reply) (w : SeatView) → IsSeatOf w t.site → SameSeat v w → Answered (base_seen t) v c reply w
      → AreCalled (record { tables = x.tables; seats = slice_set x.seats table (Some w) })
  called_on c reply w seats same answered = called_with x table t w are at (callers_after t v c reply w is_called seats same answered)

  pub calls : (c : Call) (reply : Reply) (w : SeatView) → Answered (base_seen t) v c reply w → CallsTable table c x reply (record { tables = x.tables; seats = slice_set x.seats table (Some w) })
  calls c reply w answered = record { shared = t; before = v; after = w; at = at; was = was; answered = answered; now = refl }

-- ---- meetings

-- the seat in that place is a seat of the leaf's table
pub meets_legal : (y : Seated) (seats : List (Option SeatView)) (table : ℕ) (c : SeatView) → AreCalled (record { tables = y.tables; seats = seats }) → slice_get seats table ≡ Some (Some c)
    → AtPlace (λ t v. IsSeatOf c t.site × LegalFrom (is_founded (base_seen t)) (start_of (base_seen t)) (seen_of c)) y table
meets_legal y seats table c are read = λ t v at seat. let here : IsCallersAt t c = are.each table t c at read in (here.seat, here.legal)

module _ (seats : List (Option SeatView)) (leaf : Leaf) (table : ℕ) (c c' : SeatView) (are : AreCalled (record { tables = (seated_of leaf).tables; seats = seats }))
    (count : length (seated_of leaf).seats ≡ length (seated_of leaf).tables) (within : table < length (seated_of leaf).tables) (the_seat : slice_get seats table ≡ Some (Some c))
    (met : AtPlace (IsMetSeat c c') (seated_of leaf) table) where
  there : IsThere (seated_of leaf) table
  there = is_there (seated_of leaf) table within count

  pub called_met : AreCalled (record { tables = (seated_of leaf).tables; seats = slice_set seats table (Some c') })
  called_met =
      let seat = met there.shared there.seat there.at there.was in
      let before : IsCallersAt there.shared c = are.each table there.shared c there.at the_seat in
      called_with (record { tables = (seated_of leaf).tables; seats = seats }) table there.shared c' are there.at
      (record { seat = seat.0; caller = subst (λ (n : ℕ). 0 < n) (sym (ap (λ (s : SeatView). s.id) seat.1.view)) before.caller; legal = seat.3 })

  pub meets_at : (leaf' : Leaf) → AreIds c'.seen
      → AtPlace (λ t v. (w : SeatView) × (leaf' ≡ with_seats leaf (slice_set (seated_of leaf).seats table w)) × SeesAlso v c w × LearnsOthers v w) (seated_of leaf) table
      → MeetsAt table leaf seats leaf' (slice_set seats table (Some c'))
  meets_at leaf' ids learns =
      let seat = met there.shared there.seat there.at there.was in
      let learned = learns there.shared there.seat there.at there.was in
      record {
        steward = there.seat;
        caller = Some c;
        steward_then = learned.0;
        caller_then = Some c';
        was = there.was;
        was_caller = the_seat;
        meets = record { steward = learned.2; caller = seat.1; steward_learns = learned.3; caller_learns = seat.2; ids = ids };
        leaf_is = learned.1;
        callers_are = refl;
      }
