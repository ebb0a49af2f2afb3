-- Meetings of the steward's seats and the callers'.
use Rattle.std.proofs.Common.{◌≡◌, ℕ, ◌<◌, List, length, Some, sym, ap, subst, arith}
use Rattle.std.specs.Prelude.{slice_get, slice_set, Option}
use Rattle.leaf_model.specs.declared.writes.Write.{Write}
use Rattle.row_records.specs.Records.{LogRecord}
use Rattle.berth_face.specs.Berth.{Meaning}
use Rattle.leaf_history.specs.History.{LegalFrom}
use Rattle.turnstile.specs.Seats.{IsSeatOf, LearnsOthers, SeesAlso}
use Rattle.leaf_table.specs.Turns.{Shared, is_founded, start_of}
use Rattle.leaf_table.specs.Calls.{SeatView, base_seen, seen_of}
use Rattle.crash_moments.specs.Left.{NamedStates}
use Rattle.crash_states.specs.Standing.{Rests, Runs}
use Rattle.leaf_steward.specs.Seated.{Seated, AreFounded, AtPlace, watched_by, with_seat}
use Rattle.leaf_steward.proofs.Seating.{some_at}
use Rattle.leaf_machine.specs.States.{Serving, Shutting}
use Rattle.leaf_moves.specs.Stage.{IsDown, IsUp, IsPreparing, LeafStands, with_seats}
use Rattle.leaf_deeds.specs.declared.leaf.OneLeaf.{OneLeaf}
use Rattle.leaf_deeds.specs.declared.leaf.OneLeaf.TheVariants as one
use Rattle.leaf_deeds.specs.Held.{leaf_state, berth_of, seats_of}

-- what a seat brings to a meeting
abbrev pub IsLegalSeat : SeatView → Shared → Type 0
IsLegalSeat c t = IsSeatOf c t.site × LegalFrom (is_founded (base_seen t)) (start_of (base_seen t)) (seen_of c)

-- it has seen a legal history
abbrev pub IsLegal : Shared → SeatView → Type 0
IsLegal t w = LegalFrom (is_founded (base_seen t)) (start_of (base_seen t)) (seen_of w)

-- some table and some seat are in that place
pub record IsThere (x : Seated) (table : ℕ) : Type 0 where
  pub shared : Shared
  pub seat : SeatView
  pub at : slice_get x.tables table ≡ Some shared
  pub was : slice_get x.seats table ≡ Some seat

pub is_there : (x : Seated) (table : ℕ) → table < length x.tables → length x.seats ≡ length x.tables → IsThere x table
is_there x table within count =
    let t = some_at x.tables table within in
    let v = some_at x.seats table (omega (arith, within, count)) in
    record { shared = t.0; seat = v.0; at = t.1; was = v.1 }

module _ {B : Type 0} (meaning : B → Meaning) where
  -- what a meeting makes of a leaf
  pub record LeafMet (self then : OneLeaf B) (table : ℕ) (c : SeatView) : Type 0 where
    pub learns : AtPlace (λ t v. (w : SeatView) × (leaf_state then ≡ with_seats (leaf_state self) (slice_set (seats_of self).seats table w)) × SeesAlso v c w × LearnsOthers v w) (seats_of self) table
    pub berth : berth_of then ≡ berth_of self
    pub stands : (base : NamedStates) → AreFounded (seats_of self) → LeafStands base (leaf_state self) (meaning (berth_of self)) → LeafStands base (leaf_state then) (meaning (berth_of then))

  pub down_met : (self then : OneLeaf B) (x y : Seated × B) (table : ℕ) (c : SeatView) → self ≡ one.Down x → then ≡ one.Down y
      → table < length (seats_of self).tables → length (seats_of self).seats ≡ length (seats_of self).tables
      → AtPlace (λ t v. (w : SeatView) × (y ≡ (with_seat x.0 table w, x.1)) × SeesAlso v c w × LearnsOthers v w × IsLegal t w) x.0 table
      → ((others : NamedStates) (least : List ℕ → List Write) (next : Option LogRecord) → AreFounded x.0 → Rests (watched_by x.0) others least next (meaning x.1)
      → Rests (watched_by y.0) others least next (meaning y.1))
      → LeafMet self then table c
  down_met self then x y table c was is within count learns rests =
      subst (λ (l : OneLeaf B). LeafMet l then table c) (sym was) (subst (λ (l : OneLeaf B). LeafMet (one.Down x) l table c) (sym is) here)
    where
      there : IsThere x.0 table
      there = is_there x.0 table (subst (λ (l : OneLeaf B). table < length (seats_of l).tables) was within)
          (subst (λ (l : OneLeaf B). length (seats_of l).seats ≡ length (seats_of l).tables) was count)

      here : LeafMet (one.Down x) (one.Down y) table c
      here = record {
        learns = λ t v at seat. let w = learns t v at seat in (w.0, ap (λ (z : Seated × B). IsDown z.0) w.1, w.2, w.3);
        berth = ap (λ (z : Seated × B). z.1) (learns there.shared there.seat there.at there.was).1;
        stands = λ base founded stands. (stands.0, stands.1, rests base stands.0 stands.1 founded stands.2);
      }

  pub up_met : (self then : OneLeaf B) (x y : Serving × B) (table : ℕ) (c : SeatView) → self ≡ one.Up x → then ≡ one.Up y
      → table < length (seats_of self).tables → length (seats_of self).seats ≡ length (seats_of self).tables
      → AtPlace (λ t v. (w : SeatView) × (y ≡ (record { seated = with_seat x.0.seated table w; owing = x.0.owing }, x.1)) × SeesAlso v c w × LearnsOthers v w × IsLegal t w) x.0.seated table
      → ((writes : List ℕ → List Write) → AreFounded x.0.seated → Runs (watched_by x.0.seated) x.0.owing.owner x.0.owing.log writes (meaning x.1)
      → Runs (watched_by y.0.seated) y.0.owing.owner y.0.owing.log writes (meaning y.1))
      → LeafMet self then table c
  up_met self then x y table c was is within count learns runs =
      subst (λ (l : OneLeaf B). LeafMet l then table c) (sym was) (subst (λ (l : OneLeaf B). LeafMet (one.Up x) l table c) (sym is) here)
    where
      there : IsThere x.0.seated table
      there = is_there x.0.seated table (subst (λ (l : OneLeaf B). table < length (seats_of l).tables) was within)
          (subst (λ (l : OneLeaf B). length (seats_of l).seats ≡ length (seats_of l).tables) was count)

      here : LeafMet (one.Up x) (one.Up y) table c
      here = record {
        learns = λ t v at seat. let w = learns t v at seat in (w.0, ap (λ (z : Serving × B). IsUp z.0) w.1, w.2, w.3);
        berth = ap (λ (z : Serving × B). z.1) (learns there.shared there.seat there.at there.was).1;
        stands = λ base founded stands. (stands.0, runs stands.0 founded stands.1);
      }

  pub preparing_met : (self then : OneLeaf B) (x y : Shutting × B) (table : ℕ) (c : SeatView) → self ≡ one.Preparing x → then ≡ one.Preparing y
      → table < length (seats_of self).tables → length (seats_of self).seats ≡ length (seats_of self).tables
      → AtPlace (λ t v. (w : SeatView)
      × (y ≡ (record { serving = record { seated = with_seat x.0.serving.seated table w; owing = x.0.serving.owing }; closed = x.0.closed; waits = x.0.waits }, x.1)) × SeesAlso v c w × LearnsOthers v w × IsLegal t w)
      x.0.serving.seated table
      → ((writes : List ℕ → List Write) → AreFounded x.0.serving.seated → Runs (watched_by x.0.serving.seated) x.0.serving.owing.owner x.0.serving.owing.log writes (meaning x.1)
      → Runs (watched_by y.0.serving.seated) y.0.serving.owing.owner y.0.serving.owing.log writes (meaning y.1))
      → LeafMet self then table c
  preparing_met self then x y table c was is within count learns runs =
      subst (λ (l : OneLeaf B). LeafMet l then table c) (sym was) (subst (λ (l : OneLeaf B). LeafMet (one.Preparing x) l table c) (sym is) here)
    where
      there : IsThere x.0.serving.seated table
      there = is_there x.0.serving.seated table (subst (λ (l : OneLeaf B). table < length (seats_of l).tables) was within)
          (subst (λ (l : OneLeaf B). length (seats_of l).seats ≡ length (seats_of l).tables) was count)

      here : LeafMet (one.Preparing x) (one.Preparing y) table c
      here = record {
        learns = λ t v at seat. let w = learns t v at seat in (w.0, ap (λ (z : Shutting × B). IsPreparing z.0) w.1, w.2, w.3);
        berth = ap (λ (z : Shutting × B). z.1) (learns there.shared there.seat there.at there.was).1;
        stands = λ base founded stands. (stands.0, runs stands.0 founded stands.1);
      }

-- what holds of the table and the seat in that place of a leaf holds of another that it is
pub at_place : {B : Type 0} (P : Shared → SeatView → Type 0) (self other : OneLeaf B) (table : ℕ) → self ≡ other → AtPlace P (seats_of self) table → AtPlace P (seats_of other) table
at_place P self other table is at = subst (λ (l : OneLeaf _). AtPlace P (seats_of l) table) is at

-- the caller's seat behind a meeting
abbrev pub IsMetSeat : SeatView → SeatView → Shared → SeatView → Type 0
IsMetSeat c c' t v = IsSeatOf c' t.site × SeesAlso c v c' × LearnsOthers c c' × LegalFrom (is_founded (base_seen t)) (start_of (base_seen t)) (seen_of c')

pub met_seat : {B : Type 0} (self other : OneLeaf B) (table : ℕ) (c c' now : SeatView) → self ≡ other → now ≡ c' → AtPlace (IsMetSeat c c') (seats_of other) table → AtPlace (IsMetSeat c now) (seats_of self) table
met_seat self other table c c' now is same at = at_place (IsMetSeat c now) other self table (sym is) (subst (λ (d : SeatView). AtPlace (IsMetSeat c d) (seats_of other) table) (sym same) at)
