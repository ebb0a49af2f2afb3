-- The steward passes its tables one after another.
use Rattle.std.proofs.Common.{◌≡◌, ◌≢◌, ℕ, zero, suc, ◌+◌, ◌<◌, ◌≤◌, List, [], ◌∷◌, ◌++◌, length, take, drop, Some, slice_get, refl, sym, ap, ◌∙◌, subst, arith, le_refl, length-take, length-drop}
use Rattle.std.proofs.lemmas.Option.{slice_get_within}
use Rattle.table_state.specs.Tables.{Table}
use Rattle.leaf_table.specs.Turns.{Shared}
use Rattle.leaf_table.specs.Calls.{SeatView, base_seen, SeesOpen, SeesShut}
use Rattle.leaf_table.proofs.Knowing.{shut_after_shut}
use Rattle.leaf_words.specs.declared.note.Note.{Note}
use Rattle.leaf_words.specs.declared.note.What.{What}
use Rattle.leaf_words.specs.declared.note.What.TheVariants.{Opened, Closed}
use Rattle.leaf_steward.specs.Seated.{Seated, AtEach, AtPlace, Spares, with_seat}
use Rattle.leaf_steward.specs.Making.{Makes, OneEntry, EachNoted, OpenedNotes, ShutsAt}
use Rattle.leaf_steward.proofs.Seating.{each_with, same_at, set_get, set_other}
use Rattle.leaf_steward.proofs.Keeping.{makes_join, makes_one}

pub makes_none : (clock : ℕ) (x : Seated) (notes : List Note) → notes ≡ [] → Makes clock clock x notes x
makes_none clock x notes is = Makes.none clock clock x notes x (le_refl clock) is refl

-- one more table is noted
pub noted_push : (P : What → Type 0) (first count : ℕ) (notes : List Note) (note : Note) → EachNoted P first count notes → note.table ≡ first + count → P note.what → EachNoted P first (suc count) (notes ++ note ∷ [])
noted_push P first count [] note e at p = (0, ap suc e, omega (arith, at, e), p, refl)
noted_push P first count (n ∷ ns) note e at p =
    let fewer = e.1 in
    (suc e.0, ap suc fewer, e.2, e.3, noted_push P (suc first) e.0 ns note e.4 (omega (arith, at, fewer)) p)

pub noted_length : (P : What → Type 0) (first count : ℕ) (notes : List Note) → EachNoted P first count notes → length notes ≡ count
noted_length P first count [] e = sym e
noted_length P first count (n ∷ ns) e = ap suc (noted_length P (suc first) e.0 ns e.4) ∙ sym e.1

-- one more table is noted as opened
pub opened_push : (first : ℕ) (done : List Table) (t : Table) (notes : List Note) (note : Note) → OpenedNotes first done notes → note.table ≡ first + length done → note.what ≡ Opened t.writes
    → OpenedNotes first (done ++ t ∷ []) (notes ++ note ∷ [])
opened_push first [] t notes note o at is = rw o (omega (arith, at), is, refl)
opened_push first (d ∷ ds) t [] note o at is = absurd o
opened_push first (d ∷ ds) t (n ∷ ns) note o at is = (o.0, o.1, opened_push (suc first) ds t ns note o.2 (omega (arith, at)) is)

pub opened_length : (first : ℕ) (done : List Table) (notes : List Note) → OpenedNotes first done notes → length notes ≡ length done
opened_length first [] notes o = ap (λ (l : List Note). length l) o
opened_length first (d ∷ ds) [] o = absurd o
opened_length first (d ∷ ds) (n ∷ ns) o = ap suc (opened_length (suc first) ds ns o.2)

-- The tables from the first to the place were passed, each with an entry at that clock, and this is what their seats
-- know now. The others' seats are as they were.
pub record Passed (Done : Shared → SeatView → Type 0) (clock first : ℕ) (x : Seated) (place : ℕ) (notes : List Note) (y : Seated) : Type 0 where
  pub tables : y.tables ≡ x.tables
  pub made : Makes clock clock x notes y
  pub done : AtEach (λ p t v. first ≤ p → p < place → Done t v) y
  pub before : (p : ℕ) → p < first → slice_get y.seats p ≡ slice_get x.seats p
  pub to_come : (p : ℕ) → place ≤ p → slice_get y.seats p ≡ slice_get x.seats p

pub passed_none : (Done : Shared → SeatView → Type 0) (clock first : ℕ) (x : Seated) (notes : List Note) → notes ≡ [] → Passed Done clock first x first notes x
passed_none Done clock first x notes is = record {
  tables = refl;
  made = makes_none clock x notes is;
  done = λ p t v table seat from below. absurd (omega (arith, from, below));
  before = λ p below. refl;
  to_come = λ p above. refl;
}

-- one more is passed
pub passed_more : (Done : Shared → SeatView → Type 0) (clock first : ℕ) (x : Seated) (place next : ℕ) (notes after : List Note) (y z : Seated) (note : Note) → Passed Done clock first x place notes y → first ≤ place → next ≡ place + 1
    → note.table ≡ place → OneEntry clock y note z → AtPlace Done z place → after ≡ notes ++ note ∷ [] → Passed Done clock first x next after z
passed_more Done clock first x place next notes after y z note h from then at one here is =
    let now : z ≡ with_seat y place one.after = subst (λ n. z ≡ with_seat y n one.after) at one.now in
    let table : slice_get y.tables place ≡ Some one.table = subst (λ n. slice_get y.tables n ≡ Some one.table) at one.at in
    let was : slice_get y.seats place ≡ Some one.before = subst (λ n. slice_get y.seats n ≡ Some one.before) at one.was in
    let same : (p : ℕ) → p ≢ place → slice_get z.seats p ≡ slice_get y.seats p = λ p apart. ap (λ (s : Seated). slice_get s.seats p) now ∙ set_other y.seats place p one.after apart in
    let done_here : Done one.table one.after = here one.table one.after (ap (λ (s : Seated). slice_get s.tables place) now ∙ table) (ap (λ (s : Seated). slice_get s.seats place) now ∙ set_get y.seats place one.before one.after was) in
    record {
      tables = ap (λ (s : Seated). s.tables) now ∙ h.tables;
      made = subst (λ (l : List Note). Makes clock clock x l z) (sym is) (makes_join clock clock clock x y z notes (note ∷ []) h.made (makes_one clock clock clock y note z (le_refl clock) (le_refl clock) one));
      done = subst (AtEach (λ p t v. first ≤ p → p < next → Done t v)) (sym now)
          (each_with (λ p t v. first ≤ p → p < place → Done t v) (λ p t v. first ≤ p → p < next → Done t v) y place one.table one.after table
          (λ p t v apart d low high. d low (omega (arith, apart, then, high))) (λ low high. done_here) h.done);
      before = λ p below. same p (λ e. omega (arith, e, below, from)) ∙ h.before p below;
      to_come = λ p above. same p (λ e. omega (arith, e, above, then)) ∙ h.to_come p (omega (arith, above, then));
    }

-- what held of each table and seat at the start still holds of those to come
pub still : (Done : Shared → SeatView → Type 0) (P : ℕ → Shared → SeatView → Type 0) (clock first : ℕ) (x : Seated) (place : ℕ) (notes : List Note) (y : Seated) → Passed Done clock first x place notes y → AtEach P x → AtPlace (P place) y place
still Done P clock first x place notes y h each = λ t v table seat. each place t v (ap (λ (ts : List Shared). slice_get ts place) (sym h.tables) ∙ table) (sym (h.to_come place (le_refl place)) ∙ seat)

-- all were passed
pub passed_all : (Done : Shared → SeatView → Type 0) (clock first : ℕ) (x : Seated) (place : ℕ) (notes : List Note) (y : Seated) → Passed Done clock first x place notes y → length x.tables ≤ place → AtEach (λ p t v. first ≤ p → Done t v) y
passed_all Done clock first x place notes y h all = λ p t v table seat from.
    h.done p t v table seat from (omega (arith, slice_get_within y.tables p t table, ap (λ (ts : List Shared). length ts) h.tables, all))

-- a shut as an entry
pub shut_entry : (clock : ℕ) (x : Seated) (place number n : ℕ) (t : Table) (y : Seated) → ShutsAt clock x place number n t y → OneEntry clock x (record { table = place; number = number; what = Closed n }) y
shut_entry clock x place number n t y h = record { table = h.table; before = h.before; after = h.after; at = h.at; was = h.was; number = h.counted; made = h.made; now = h.now }

pub shut_there : (clock : ℕ) (x : Seated) (place number n : ℕ) (t : Table) (y : Seated) → ShutsAt clock x place number n t y → AtPlace SeesShut y place
shut_there clock x place number n t y h = λ u v table seat.
    let same_table : h.table ≡ u = same_at x.tables place h.table u h.at (ap (λ (s : Seated). slice_get s.tables place) (sym h.now) ∙ table) in
    let same_seat : h.after ≡ v = same_at y.seats place h.after v (ap (λ (s : Seated). slice_get s.seats place) h.now ∙ set_get x.seats place h.before h.after h.was) seat in
    subst (λ (s : SeatView). SeesShut u s) same_seat (subst (λ (s : Shared). SeesShut s h.after) same_table (shut_after_shut (base_seen h.table) clock n h.before h.after h.made))

-- each table from the first to the place is noted so
abbrev pub IsNoted : (What → Type 0) → ℕ → ℕ → List Note → Type 0
IsNoted P first place notes = (count : ℕ) × (first + count ≡ place) × EachNoted P first count notes

pub noted_none : (P : What → Type 0) (first : ℕ) (notes : List Note) → notes ≡ [] → IsNoted P first first notes
noted_none P first notes is = subst (IsNoted P first first) (sym is) (0, omega arith, refl)

pub noted_more : (P : What → Type 0) (first place next : ℕ) (notes after : List Note) (note : Note) → IsNoted P first place notes → next ≡ place + 1 → note.table ≡ place → P note.what → after ≡ notes ++ note ∷ [] → IsNoted P first next after
noted_more P first place next notes after note h then at p is =
    let sum = h.1 in
    subst (IsNoted P first next) (sym is) (suc h.0, omega (arith, sum, then), noted_push P first h.0 notes note h.2 (at ∙ sym sum) p)

-- there is room for one note more
pub notes_fit : (P : What → Type 0) (first place : ℕ) (notes : List Note) → IsNoted P first place notes → place < 32 → length notes < 32
notes_fit P first place notes h few = let sum = h.1 in omega (arith, sum, few, noted_length P first h.0 notes h.2)

-- open, and with room for a thousand entries
abbrev pub IsRunning : Shared → SeatView → Type 0
IsRunning t v = SeesOpen t v × Spares 1000 t v

-- the next of a list is taken off
pub record Next {A : Type 0} (all rest : List A) (k : ℕ) (t : A) : Type 0 where
  pub within : k < length all
  pub at : slice_get all k ≡ Some t
  pub left : rest ≡ drop (k + 1) all
  pub taken : take (k + 1) all ≡ take k all ++ t ∷ []

pub pop_next : {A : Type 0} (all before rest : List A) (k : ℕ) (t : A) → before ≡ drop k all → before ≡ t ∷ rest → Next all rest k t
pop_next {A} all before rest k t from is = next_of all rest k t (sym from ∙ is)
  where
    none : List A
    none = []

    no_more : (rest : List A) (t : A) → none ≡ t ∷ rest → ⊥
    no_more rest t e = cc

    next_of : (all rest : List A) (k : ℕ) (t : A) → drop k all ≡ t ∷ rest → Next all rest k t
    next_of [] rest zero t e = absurd (no_more rest t e)
    next_of [] rest (suc k) t e = absurd (no_more rest t e)
    next_of (x ∷ all) rest zero t e = record { within = omega arith; at = cc; left = cc; taken = cc }
    next_of (x ∷ all) rest (suc k) t e = let n = next_of all rest k t e in let next : suc k + 1 ≡ suc (k + 1) = omega arith in record {
      within = omega (arith, n.within);
      at = n.at;
      left = rw next n.left;
      taken = rw next (ap (λ (l : List A). x ∷ l) n.taken);
    }

pub none_left : (all rest : List Table) (k : ℕ) → rest ≡ drop k all → rest ≡ [] → length all ≤ k
none_left all rest k from is = omega (arith, length-drop k all, ap (λ (l : List Table). length l) (sym from ∙ is))

pub opened_more : (all : List Table) (k : ℕ) (t : Table) (notes after : List Note) (note : Note) → OpenedNotes 0 (take k all) notes → k < length all → take (k + 1) all ≡ take k all ++ t ∷ [] → note.table ≡ k → note.what ≡ Opened t.writes
    → after ≡ notes ++ note ∷ [] → OpenedNotes 0 (take (k + 1) all) after
opened_more all k t notes after note o within taken at what is =
    let size : k ≡ 0 + length (take k all) = omega (arith, length-take k all, within) in
    rw (taken, is) (opened_push 0 (take k all) t notes note o (at ∙ size) what)

pub opened_fit : (all : List Table) (k : ℕ) (notes : List Note) → OpenedNotes 0 (take k all) notes → length all < 32 → length notes < 32
opened_fit all k notes o few = omega (arith, opened_length 0 (take k all) notes o, length-take k all, few)
