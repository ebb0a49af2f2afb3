-- Of shut tables that are founded: each comes to at most a column for each row and each cell that its writes add, and
-- the spare ones, entry by entry.
use Rattle.std.proofs.Common.{◌≡◌, ℕ, zero, suc, ◌+◌, ◌≤◌, true, List, [], ◌∷◌, ◌++◌, length, Option, Some, None, refl, sym, ap, subst, ◌∙◌, arith, le_trans}
use Rattle.std.specs.Prelude.{slice_get, Result}
use Rattle.std.proofs.lemmas.List.{length-append}
use Rattle.std.proofs.lemmas.Option.{none-some, same_Some, slice_get_within}
use Rattle.row_records.specs.Records.{LogRecord}
use Rattle.berth_face.specs.Berth.{Meaning}
use Rattle.leaf_history.specs.Calls as call
use Rattle.leaf_history.specs.Replies as reply
use Rattle.table_state.specs.Tables.{Store, Table, Takes, added_count, bare, columns_most}
use Rattle.leaf_table.specs.Turns.{HasFewColumns, Shared, is_founded}
use Rattle.leaf_table.specs.Calls.{Made, SeatView, SeesShut, base_seen, state_before, state_seen}
use Rattle.leaf_words.specs.declared.note.Note.{Note}
use Rattle.leaf_steward.specs.Seated.{Seated, AreSeated, with_seat}
use Rattle.leaf_steward.specs.Making.{ShutsAt}
use Rattle.leaf_steward.specs.Owing.{Owing, Brings, SettlesOwed}
use Rattle.leaf_steward.specs.Owing as owing
use Rattle.leaf_steward.proofs.Seating.{each_with}
use Rattle.leaf_machine.specs.States.{Shutting, IsShutting}
use Rattle.leaf_machine.specs.Shut.{AreFewShut, AreNoMore}
use Rattle.leaf_machine.proofs.PrepEntries.{Stays, flushed_stays, same_spare, shut_spare, shut_writes}
use Rattle.leaf_machine.proofs.PrepHolds.{Holds, holds_of}
use Rattle.leaf_machine.proofs.PrepPlaces.{push_get, push_last}
use Rattle.leaf_machine.proofs.PrepShuts.{holds_then, sits_then}

-- what is said of the table in one place
abbrev FewAt : List ℕ → ℕ → Shared → SeatView → Type 0
FewAt columns place t v = is_founded (base_seen t) ≡ true → (n : ℕ) → slice_get columns place ≡ Some n
    → n ≤ (state_seen (base_seen t) v).spare + added_count (state_seen (base_seen t) v).writes

-- ---- no table is shut

pub none_few : (x : Seated) (columns : List ℕ) → columns ≡ [] → AreFewShut x columns
none_few x columns none = subst (AreFewShut x) (sym none) (λ place t v at was founded n found. absurd (none-some n found))

-- ---- no table comes to more columns than before

-- where there is a number now, there was one before
less_at : (now before : List ℕ) (place n : ℕ) → AreNoMore now before → slice_get now place ≡ Some n → (m : ℕ) × (slice_get before place ≡ Some m) × (n ≤ m)
less_at [] before place n less at = absurd (none-some n at)
less_at (k ∷ now) [] place n less at = absurd less
less_at (k ∷ now) (m ∷ before) zero n less at = (m, refl, subst (λ (i : ℕ). i ≤ m) (same_Some k n at) less.0)
less_at (k ∷ now) (m ∷ before) (suc place) n less at = less_at now before place n less.1 at

pub less_length : (now before : List ℕ) → AreNoMore now before → length now ≡ length before
less_length [] [] less = refl
less_length [] (m ∷ before) less = absurd less
less_length (k ∷ now) [] less = absurd less
less_length (k ∷ now) (m ∷ before) less = let rest = less_length now before less.1 in omega (arith, rest)

pub less_few : (x : Seated) (now before : List ℕ) → AreNoMore now before → AreFewShut x before → AreFewShut x now
less_few x now before less few = λ place t v at was founded n found.
    let old = less_at now before place n less found in
    le_trans old.2 (few place t v at was founded old.0 old.1)

-- ---- a seat goes on

pub stays_few : (closed : List Table) (columns : List ℕ) (x : Seated) → Holds closed x → length columns ≡ length closed → (place : ℕ) (t : Shared) (v w : SeatView) → slice_get x.tables place ≡ Some t → slice_get x.seats place ≡ Some v
    → Stays t v w → AreFewShut x columns → AreFewShut (with_seat x place w) columns
stays_few closed columns x holds count place t v w at was stays few =
    each_with (FewAt columns) (FewAt columns) x place t w at (λ i u s apart is. is)
    (λ founded n found.
    let before = few place t v at was founded n found in
    let shut : SeesShut t v = (holds.closed_are place t v at was (omega (arith, slice_get_within columns place n found, count))).shut in
    omega (arith, before, ap added_count (stays.writes shut), same_spare t v w)) few

-- ---- what is owed is settled, or is not

pub settled_few : (x : Shutting) (m : Meaning) → IsShutting x m → AreSeated x.serving.seated → (columns : List ℕ) → length columns ≡ length x.closed → AreFewShut x.serving.seated columns
    → {T E : Type 0} (clock : ℕ) (before : List Note) (result : Result T E) (y : Seated) (o : Owing) (after : List Note)
    → SettlesOwed clock x.serving.seated x.serving.owing before result y o after → AreFewShut y columns
settled_few x m is sits columns count few clock before result y o after (owing.nothing none good same_seats same notes) = subst (λ (s : Seated). AreFewShut s columns) (sym same_seats) few
settled_few x m is sits columns count few clock before result y o after (owing.done r number owes good one notes settled) =
    subst (λ (s : Seated). AreFewShut s columns) (sym one.now)
    (stays_few x.closed columns x.serving.seated (holds_of x m is) count x.serving.owing.owner one.table one.before one.after one.at one.was
    (flushed_stays one.table one.before one.after clock x.serving.owing.count (sits.each x.serving.owing.owner one.table one.before one.at one.was) one.made) few)
settled_few x m is sits columns count few clock before result y o after (owing.failed r owes bad same_seats notes owed owner times) = subst (λ (s : Seated). AreFewShut s columns) (sym same_seats) few

-- ---- the next table is shut

module _ (columns : List ℕ) (x : Seated) (place : ℕ) (t : Shared) (v w : SeatView) (clock n : ℕ) (c : Table) (next : place ≡ length columns) (at : slice_get x.tables place ≡ Some t)
    (was : slice_get x.seats place ≡ Some v) (made : Made (base_seen t) clock v call.Shut (reply.Counted n) w)
    (fits : HasFewColumns (is_founded (base_seen t)) (state_before (base_seen t) v made.between).spare (state_before (base_seen t) v made.between).writes c) where
  abbrev most : ℕ
  most = columns_most c.store

  here_few : FewAt (columns ++ most ∷ []) place t w
  here_few founded k found =
      let last : slice_get (columns ++ most ∷ []) (length columns) ≡ Some k = subst (λ (i : ℕ). slice_get (columns ++ most ∷ []) i ≡ Some k) next found in
      let known = fits founded in
      omega (arith, known, push_last columns most k last, ap added_count (shut_writes t v w clock n made), shut_spare t v w clock n made)

  shut_few : AreFewShut x columns → AreFewShut (with_seat x place w) (columns ++ most ∷ [])
  shut_few few =
      each_with (FewAt columns) (FewAt (columns ++ most ∷ [])) x place t w at
      (λ i u s apart is founded k found. is founded k (push_get columns most i k found (λ same. apart (same ∙ sym next)))) here_few few

module _ (x : Shutting) (m : Meaning) (is : IsShutting x m) (sits : AreSeated x.serving.seated) (none : x.serving.owing.log.owed ≡ None) (place number : ℕ) (next : place ≡ length x.closed)
    (t t' : Table) (pending : Option LogRecord) (y : Seated) (shut : ShutsAt m.clock x.serving.seated place number t.writes t y) (takes : Takes t pending t')
    (columns : List ℕ) (count : length columns ≡ length x.closed) (few : AreFewShut x.serving.seated columns) where
  abbrev with_next : List ℕ
  with_next = columns ++ columns_most t'.store ∷ []

  pub count_next : length with_next ≡ length (x.closed ++ bare t' ∷ [])
  count_next = omega (arith, length-append columns (columns_most t'.store ∷ []), length-append x.closed (bare t' ∷ []), count)

  few_then : AreFewShut y with_next
  few_then =
      subst (λ (s : Seated). AreFewShut s with_next) (sym shut.now)
      (subst (λ (s : Store). AreFewShut (with_seat x.serving.seated place shut.after) (columns ++ columns_most s ∷ [])) (sym (ap (λ (c : Table). c.store) takes.1))
      (shut_few columns x.serving.seated place shut.table shut.before shut.after m.clock t.writes t (next ∙ sym count) shut.at shut.was shut.made shut.columns few))

  pub brought_few : {T E : Type 0} (clock : ℕ) (z : Seated) (o : Owing) (result : Result T E) (mid new : List Note)
      → Brings clock y x.serving.owing place t.writes pending mid result z o new → AreFewShut z with_next
  brought_few clock z o result mid new (owing.done n good then notes owed) =
      subst (λ (s : Seated). AreFewShut s with_next) (sym then.now)
      (stays_few (x.closed ++ bare t' ∷ []) with_next y (holds_then x m is sits none place number next t t' pending y shut takes) count_next place then.table then.before then.after then.at then.was
      (flushed_stays then.table then.before then.after clock t.writes ((sits_then x m is sits none place number next t t' pending y shut takes).each place then.table then.before then.at then.was) then.made) few_then)
  brought_few clock z o result mid new (owing.failed r owes bad same notes owed owner times) = subst (λ (s : Seated). AreFewShut s with_next) (sym same) few_then
