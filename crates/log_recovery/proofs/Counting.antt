-- How many columns the tables have at most, while a log is read.
use Rattle.std.proofs.Common.{◌≡◌, ℕ, zero, suc, ◌+◌, ◌<◌, ◌≤◌, inl, inr, cond, List, [], ◌∷◌, ◌++◌, length, map, get_or, set, slice_get, Some, option_map, refl, sym, ap, subst, ◌∙◌, arith}
use Rattle.std.specs.Str.{bytes_eq}
use Rattle.std.proofs.lemmas.Bool.{cases_eq}
use Rattle.std.proofs.lemmas.List.{map-set, length-map}
use Rattle.std.proofs.lemmas.Option.{get_or_from_slice_get, slice_get-map, slice_get_read}
use Rattle.leaf_model.specs.declared.writes.Write.{Write}
use Rattle.row_records.specs.Records.{LogRecord}
use Rattle.table_state.specs.Tables.{Table, added_by, added_count, columns_most}
use Rattle.disk_backup.specs.Logs.{writes_of}
use Rattle.disk_backup.specs.State.{LogState}
use Rattle.log_recovery.specs.Recovery.{AreFew, IsRecovered, recovered_tables}
use Rattle.log_recovery.proofs.Applying.{only_by, writes_here}
use Rattle.log_recovery.proofs.Places.{StandsAt}

abbrev most : Table → ℕ
most t = columns_most t.store

-- ---- the rows and cells of many writes

pub added_append : (a b : List Write) → added_count (a ++ b) ≡ added_count a + added_count b
added_append [] b = omega arith
added_append (w ∷ a) b = omega (arith, added_append a b)

-- one write of those that are left
pub replayed_few : (all rest left : List Write) (w : Write) (from mid now : ℕ) → mid + added_count left ≤ from + added_count all → left ≡ w ∷ rest → now ≤ mid + added_by w → now + added_count rest ≤ from + added_count all
replayed_few all rest left w from mid now so_far is few = omega (arith, so_far, few, ap added_count is)

-- ---- a place of a list that was set

some_is : (x y : ℕ) → Some x ≡ Some y → x ≡ y
some_is x y e = cc

get_of_set : (xs : List ℕ) (i y n : ℕ) → slice_get (set xs i y) i ≡ Some n → (y ≡ n) × (i < length xs)
get_of_set [] i y n at = absurd cc
get_of_set (x ∷ xs) zero y n at = (some_is y n at, omega arith)
get_of_set (x ∷ xs) (suc i) y n at = let more = get_of_set xs i y n at in (more.0, omega (arith, more.1))

get_beside_set : (xs : List ℕ) (i j y : ℕ) → (i ≡ j → ⊥) → slice_get (set xs i y) j ≡ slice_get xs j
get_beside_set [] i j y apart = refl
get_beside_set (x ∷ xs) zero zero y apart = absurd (apart refl)
get_beside_set (x ∷ xs) zero (suc j) y apart = refl
get_beside_set (x ∷ xs) (suc i) zero y apart = refl
get_beside_set (x ∷ xs) (suc i) (suc j) y apart = get_beside_set xs i j y (λ e. apart (ap suc e))

-- ---- one record more

module _ (records : List LogRecord) (r : LogRecord) where
  abbrev more : List LogRecord
  more = records ++ r ∷ []

  added_here : added_count (writes_of r.name more) ≡ added_count (writes_of r.name records) + added_count r.writes
  added_here = ap added_count (writes_here records r) ∙ added_append (writes_of r.name records) r.writes

  added_more : (name : List ℕ) → added_count (writes_of name records) ≤ added_count (writes_of name more)
  added_more name =
      let last = cond (bytes_eq name r.name) r.writes [] in
      omega (arith, ap added_count (only_by records r name (bytes_eq name r.name) refl), added_append (writes_of name records) last)

  few_set : (names : List (List ℕ)) (i : ℕ) → StandsAt r.name names i → (columns : List ℕ) (had now : ℕ) → (i < length columns → slice_get columns i ≡ Some had) → now ≤ had + added_count r.writes
      → AreFew names records columns → AreFew names more (set columns i now)
  few_set names i at columns had now read few so_far place name n named there = elim (cases_eq i place) [
    | inl same ↦
        let here = get_of_set columns i now n (subst (λ (k : ℕ). slice_get (set columns i now) k ≡ Some n) (sym same) there) in
        let named_here : slice_get names i ≡ Some name = subst (λ (k : ℕ). slice_get names k ≡ Some name) (sym same) named in
        let is : r.name ≡ name = sym at.there ∙ get_or_from_slice_get names i name [] named_here in
        let before : had ≤ added_count (writes_of name records) = so_far i name had named_here (read here.1) in
        let count = ap (λ (m : List ℕ). added_count (writes_of m records)) is in
        let after = ap (λ (m : List ℕ). added_count (writes_of m more)) is in
        omega (arith, few, before, count, after, added_here, here.0)
    | inr apart ↦
        let before = so_far place name n named (sym (get_beside_set columns i place now apart) ∙ there) in
        omega (arith, before, added_more name)
  ]

  pub few_more : (names : List (List ℕ)) (i : ℕ) → StandsAt r.name names i → (items : List Table) (had now : Table) → had ≡ get_or items i had → most now ≤ most had + added_count r.writes
      → AreFew names records (map most items) → AreFew names more (map most (set items i now))
  few_more names i at items had now read few so_far =
      let had_at : i < length (map most items) → slice_get (map most items) i ≡ Some (most had) =
      λ short. slice_get-map most items i ∙ ap (option_map most) (slice_get_read items (length items) i had refl (omega (arith, short, length-map items most)) read) in
      subst (AreFew names more) (sym (map-set most items i now)) (few_set names i at (map most items) (most had) (most now) had_at few so_far)

-- ---- tables that had no write

pub few_none : (names : List (List ℕ)) → AreFew names [] (map most (recovered_tables names []))
few_none [] place name n named at = absurd cc
few_none (m ∷ names) zero name n named at = omega (arith, some_is 0 n at)
few_none (m ∷ names) (suc place) name n named at = few_none names place name n named at

pub few_empty : (names : List (List ℕ)) (items : List Table) → items ≡ recovered_tables names [] → AreFew names [] (map most items)
few_empty names items is = subst (λ (ts : List Table). AreFew names [] (map most ts)) (sym is) (few_none names)

-- ---- a log that was read to its end

-- the log of a disk gave tables with so many columns
abbrev pub IsTold : List (List ℕ) → List ℕ → List Table → List ℕ → LogState → Type 0
IsTold names disk tables columns log = (x : IsRecovered names disk tables log) × AreFew names x.records columns

pub told_as : (names : List (List ℕ)) {disk now : List ℕ} {tables ts : List Table} {columns cs : List ℕ} (log : LogState) → disk ≡ now → tables ≡ ts → columns ≡ cs → IsTold names disk tables columns log → IsTold names now ts cs log
told_as names {disk} {now} {tables} {ts} {columns} {cs} log same are few told =
    subst (λ (d : List ℕ). IsTold names d ts cs log) same (subst (λ (l : List Table). IsTold names disk l cs log) are (subst (λ (l : List ℕ). IsTold names disk tables l log) few told))
