-- What holds of the tables of a leaf that shuts them, entry by entry.
use Rattle.std.proofs.Common.{◌≡◌, ℕ, ◌+◌, ◌<◌, ◌≤◌, List, [], ◌∷◌, ◌++◌, length, Option, Some, None, refl, sym, subst, ◌∙◌, arith}
use Rattle.std.specs.Prelude.{◌≢◌, slice_get, IfSome}
use Rattle.std.proofs.lemmas.List.{length-append}
use Rattle.std.proofs.lemmas.Option.{slice_get_within}
use Rattle.row_records.specs.Records.{LogRecord}
use Rattle.berth_face.specs.Berth.{Meaning}
use Rattle.leaf_history.specs.Calls as call
use Rattle.leaf_history.specs.Replies as reply
use Rattle.leaf_history.specs.History.{HistoryState, contents_held, untaken}
use Rattle.leaf_model.specs.declared.writes.Write.{Write}
use Rattle.table_state.specs.Tables.{Table}
use Rattle.leaf_table.specs.Turns.{Shared, record_for}
use Rattle.leaf_table.specs.Calls.{Made, SeatView, base_seen, name_of, state_before, state_seen, SeesOpen}
use Rattle.leaf_steward.specs.Seated.{Seated, AreSeated, AtEach, AtPlace, Spares, with_seat}
use Rattle.leaf_machine.specs.States.{Shutting, IsShutAndTaken, IsContent, IsShutting}
use Rattle.leaf_steward.proofs.Seating.{at_new, each_with, spares_less}
use Rattle.leaf_machine.proofs.PrepEntries.{Stays, flushed_stays, shut_closed, shut_content, shut_taken}
use Rattle.leaf_machine.proofs.PrepPlaces.{push_get, push_last}

-- the first tables are shut, and their content is at hand; the others are open
pub record Holds (closed : List Table) (x : Seated) : Type 0 where
  pub few : length closed ≤ length x.tables
  pub opened : AtEach (λ place t v. length closed ≤ place → SeesOpen t v) x
  pub closed_are : AtEach (λ place t v. place < length closed → IsShutAndTaken (state_seen (base_seen t) v)) x
  pub contents : AtEach (λ place t v. (c : Table) → slice_get closed place ≡ Some c → IsContent (state_seen (base_seen t) v) c) x
  pub spares : AtEach (λ place t v. length closed ≤ place → Spares 3 t v) x
  pub spares_closed : AtEach (λ place t v. place < length closed → Spares 1 t v) x

pub holds_of : (x : Shutting) (m : Meaning) → IsShutting x m → Holds x.closed x.serving.seated
holds_of x m is = record {
  few = is.few;
  opened = is.opened;
  closed_are = is.closed_are;
  contents = is.contents;
  spares = is.spares;
  spares_closed = is.spares_closed;
}

-- ---- a seat goes on

pub stays_holds : (closed : List Table) (x : Seated) → Holds closed x → (place : ℕ) (t : Shared) (v w : SeatView) → slice_get x.tables place ≡ Some t → slice_get x.seats place ≡ Some v
    → (length closed ≤ place → SeesOpen t w × Spares 3 t w) → (place < length closed → Stays t v w × Spares 1 t w) → Holds closed (with_seat x place w)
stays_holds closed x holds place t v w at was past before = record {
  few = holds.few;
  opened = each_with (λ i u s. length closed ≤ i → SeesOpen u s) (λ i u s. length closed ≤ i → SeesOpen u s) x place t w at (λ i u s apart is. is) (λ later. (past later).0) holds.opened;
  closed_are = each_with (λ i u s. i < length closed → IsShutAndTaken (state_seen (base_seen u) s)) (λ i u s. i < length closed → IsShutAndTaken (state_seen (base_seen u) s)) x place t w at
      (λ i u s apart is. is) (λ lower. (before lower).0.closed (holds.closed_are place t v at was lower)) holds.closed_are;
  contents = each_with (λ i u s. (c : Table) → slice_get closed i ≡ Some c → IsContent (state_seen (base_seen u) s) c) (λ i u s. (c : Table) → slice_get closed i ≡ Some c → IsContent (state_seen (base_seen u) s) c)
      x place t w at (λ i u s apart is. is)
      (λ c found.
      let lower : place < length closed = slice_get_within closed place c found in
      (before lower).0.content c (holds.closed_are place t v at was lower).shut (holds.contents place t v at was c found)) holds.contents;
  spares = each_with (λ i u s. length closed ≤ i → Spares 3 u s) (λ i u s. length closed ≤ i → Spares 3 u s) x place t w at (λ i u s apart is. is) (λ later. (past later).1) holds.spares;
  spares_closed = each_with (λ i u s. i < length closed → Spares 1 u s) (λ i u s. i < length closed → Spares 1 u s) x place t w at (λ i u s apart is. is) (λ lower. (before lower).1) holds.spares_closed;
}

-- a table is noted as flushed, whose seat has room for one entry more
pub flushed_holds : (closed : List Table) (x : Seated) → Holds closed x → AreSeated x → (place : ℕ) (t : Shared) (v w : SeatView) (clock n : ℕ) → slice_get x.tables place ≡ Some t → slice_get x.seats place ≡ Some v
    → Made (base_seen t) clock v (call.Flushed n) reply.Noted w → (length closed ≤ place → Spares 4 t v) → (place < length closed → Spares 2 t v) → Holds closed (with_seat x place w)
flushed_holds closed x holds sits place t v w clock n at was made four two =
    let stays : Stays t v w = flushed_stays t v w clock n (sits.each place t v at was) made in
    stays_holds closed x holds place t v w at was
    (λ past. (stays.opened (holds.opened place t v at was past), spares_less t clock 3 v w (call.Flushed n) reply.Noted made (four past)))
    (λ before. (stays, spares_less t clock 1 v w (call.Flushed n) reply.Noted made (two before)))

-- ---- the next table is shut

module _ (closed : List Table) (x : Seated) (holds : Holds closed x) (place : ℕ) (t : Shared) (v w : SeatView) (clock n : ℕ) (c : Table)
    (next : place ≡ length closed) (at : slice_get x.tables place ≡ Some t) (was : slice_get x.seats place ≡ Some v) (made : Made (base_seen t) clock v call.Shut (reply.Counted n) w)
    (contents : c.contents ≡ contents_held (state_before (base_seen t) v made.between)) (writes : c.writes ≡ n) where
  size : length (closed ++ c ∷ []) ≡ length closed + 1
  size = length-append closed (c ∷ [])

  here_content : (d : Table) → slice_get (closed ++ c ∷ []) place ≡ Some d → IsContent (state_seen (base_seen t) w) d
  here_content d found =
      let last : slice_get (closed ++ c ∷ []) (length closed) ≡ Some d = subst (λ (k : ℕ). slice_get (closed ++ c ∷ []) k ≡ Some d) next found in
      subst (λ (e : Table). IsContent (state_seen (base_seen t) w) e) (push_last closed c d last) (shut_content t v w clock n made c contents writes)

  pub shut_holds : Holds (closed ++ c ∷ []) (with_seat x place w)
  shut_holds = record {
    few = omega (arith, size, slice_get_within x.tables place t at, next);
    opened = each_with (λ i u s. length closed ≤ i → SeesOpen u s) (λ i u s. length (closed ++ c ∷ []) ≤ i → SeesOpen u s) x place t w at
        (λ i u s apart is past. is (omega (arith, past, size))) (λ past. absurd (omega (arith, past, size, next))) holds.opened;
    closed_are = each_with (λ i u s. i < length closed → IsShutAndTaken (state_seen (base_seen u) s)) (λ i u s. i < length (closed ++ c ∷ []) → IsShutAndTaken (state_seen (base_seen u) s)) x place t w at
        (λ i u s apart is before. is (earlier i apart before)) (λ before. shut_closed t v w clock n made) holds.closed_are;
    contents = each_with (λ i u s. (d : Table) → slice_get closed i ≡ Some d → IsContent (state_seen (base_seen u) s) d)
        (λ i u s. (d : Table) → slice_get (closed ++ c ∷ []) i ≡ Some d → IsContent (state_seen (base_seen u) s) d) x place t w at
        (λ i u s apart is d found. is d (push_get closed c i d found (λ same. apart (same ∙ sym next)))) here_content holds.contents;
    spares = each_with (λ i u s. length closed ≤ i → Spares 3 u s) (λ i u s. length (closed ++ c ∷ []) ≤ i → Spares 3 u s) x place t w at
        (λ i u s apart is past. is (omega (arith, past, size))) (λ past. absurd (omega (arith, past, size, next))) holds.spares;
    spares_closed = each_with (λ i u s. i < length closed → Spares 1 u s) (λ i u s. i < length (closed ++ c ∷ []) → Spares 1 u s) x place t w at
        (λ i u s apart is before. is (earlier i apart before)) (λ before. omega (arith, two)) holds.spares_closed;
  }
    where
      earlier : (i : ℕ) → i ≢ place → i < length (closed ++ c ∷ []) → i < length closed
      earlier i apart before = omega (arith, apart, before, size, next)

      two : Spares 2 t w
      two = spares_less t clock 2 v w call.Shut (reply.Counted n) made (holds.spares place t v at was (omega (arith, next)))

  pub shut_room : AtPlace (Spares 2) (with_seat x place w) place
  shut_room = at_new (Spares 2) x place t v w at was (spares_less t clock 2 v w call.Shut (reply.Counted n) made (holds.spares place t v at was (omega (arith, next))))

  pub shut_count : AtPlace (λ u s. n ≤ (state_seen (base_seen u) s).taken) (with_seat x place w) place
  shut_count = at_new (λ u s. n ≤ (state_seen (base_seen u) s).taken) x place t v w at was (omega (arith, shut_taken t v w clock n made))

-- the record of what was not taken has the table's name
record_named : (name : List ℕ) (writes : List Write) → IfSome (record_for name writes) (λ (r : LogRecord). name ≡ r.name)
record_named name [] = tt
record_named name (w ∷ writes) = refl

named_each : (o : Option LogRecord) (x : Seated) (place : ℕ) (t : Shared) (v : SeatView) → slice_get x.tables place ≡ Some t → slice_get x.seats place ≡ Some v
    → IfSome o (λ (r : LogRecord). name_of t ≡ r.name) → (w : SeatView) → IfSome o (λ (r : LogRecord). AtPlace (λ u s. name_of u ≡ r.name) (with_seat x place w) place)
named_each None x place t v at was named w = tt
named_each (Some r) x place t v at was named w = at_new (λ u s. name_of u ≡ r.name) x place t v w at was named

-- the record is of the table that was taken or shut
pub shut_named : (x : Seated) (place : ℕ) (t : Shared) (v w : SeatView) (o : Option LogRecord) (s : HistoryState) → slice_get x.tables place ≡ Some t → slice_get x.seats place ≡ Some v
    → o ≡ record_for (name_of t) (untaken s) → IfSome o (λ (r : LogRecord). AtPlace (λ u s. name_of u ≡ r.name) (with_seat x place w) place)
shut_named x place t v w o s at was is =
    named_each o x place t v at was (subst (λ (p : Option LogRecord). IfSome p (λ (r : LogRecord). name_of t ≡ r.name)) (sym is) (record_named (name_of t) (untaken s))) w
