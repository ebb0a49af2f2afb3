-- Rows at the front of some bytes, and the bytes that were written before.
use Rattle.std.proofs.Common.{◌≡◌, ℕ, ◌-◌, ◌*◌, ◌/◌, ◌≤◌, ◌<◌, List, [], ◌∷◌, ◌++◌, length, drop, Option, Some, None, refl, sym, ap, ◌∙◌, length-append, arith}
use Rattle.std.specs.List.{AllByRecursion}
use Rattle.std.proofs.lemmas.List.{drop_at}
use Rattle.std.proofs.lemmas.List.Concat.{flat_map-cons}
use Rattle.row_model.specs.declared.rows.Row.{Row}
use Rattle.row_model.specs.Values.{IsRow}
use Rattle.leaf_model.specs.Bytes.{row_bytes, rows_bytes, IsBytes}
use Rattle.row_records.specs.Bytes.{StandsInFront}
use Rattle.leaf_model.specs.Reading.{rows_at}
use Rattle.leaf_model.proofs.Fields.{some_is}
use Rattle.leaf_model.proofs.ReadRows.{rows_take, rows_again}

-- a row takes ten bytes at least
row_size : (row : Row) → 10 ≤ length (row_bytes row)
row_size row = omega arith

pub rows_size : (rows : List Row) → 10 * length rows ≤ length (rows_bytes rows)
rows_size [] = omega arith
rows_size (row ∷ rows) = omega (arith, ap length (flat_map-cons row_bytes row rows), length-append (row_bytes row) (rows_bytes rows), rows_size rows, row_size row)

pub too_many : (count : ℕ) (bytes : List ℕ) (rows : List Row) (rest : List ℕ) → length rows ≡ count → bytes ≡ rows_bytes rows ++ rest → length bytes / 10 < count → ⊥
too_many count bytes rows rest n e lt = omega (arith, n, lt, rows_size rows, ap length e, length-append (rows_bytes rows) rest)

-- so few bytes are not so many rows
pub too_few : (count : ℕ) (bytes : List ℕ) → IsBytes bytes → length bytes / 10 < count → rows_at count bytes ≡ None
too_few count bytes fits lt = by (rows_at count bytes) refl
  where
    by : (read : Option (List Row × List ℕ)) → rows_at count bytes ≡ read → read ≡ None
    by None e = refl
    by (Some x) e = let read = rows_take count bytes x fits e in absurd (too_many count bytes x.0 x.1 read.1 read.0.parts lt)

pub front_parts : (count : ℕ) (bytes : List ℕ) (rows : List Row) (rest : List ℕ) → IsBytes bytes → rows_at count bytes ≡ Some (rows, rest) → bytes ≡ rows_bytes rows ++ rest
front_parts count bytes rows rest fits e = (rows_take count bytes (rows, rest) fits e).0.parts

pub in_front : (count : ℕ) (bytes : List ℕ) (rows : List Row) (rest : List ℕ) (taken : ℕ) → IsBytes bytes → rows_at count bytes ≡ Some (rows, rest) → taken ≡ length bytes - length rest → StandsInFront count bytes rows taken
in_front count bytes rows rest taken fits e size =
    let read = rows_take count bytes (rows, rest) fits e in
    let whole : taken ≡ length (rows_bytes rows) = omega (arith, size, ap length read.0.parts, length-append (rows_bytes rows) rest) in
    record {
      each = read.2;
      count_is = read.1;
      taken_is = whole;
      begins = read.0.parts ∙ ap (λ (w : List ℕ). rows_bytes rows ++ w) (sym (ap (drop taken) read.0.parts ∙ drop_at (rows_bytes rows) rest taken (sym whole)));
    }

pub front_again : (count : ℕ) (bytes : List ℕ) (rows : List Row) (rest : List ℕ) → AllByRecursion IsRow rows → length rows ≡ count → bytes ≡ rows_bytes rows ++ rest → rows_at count bytes ≡ Some (rows, rest)
front_again count bytes rows rest fits n e = ap (rows_at count) e ∙ ap (λ (k : ℕ). rows_at k (rows_bytes rows ++ rest)) (sym n) ∙ rows_again rows rest fits

-- rows and what follows them
abbrev pub rows_and_rest : List Row → List ℕ → List Row × List ℕ
rows_and_rest rows rest = (rows, rest)

-- what was read is what stands in front
pub same_front : (count : ℕ) (bytes : List ℕ) (rows others : List Row) (rest more : List ℕ) → rows_at count bytes ≡ Some (others, more) → AllByRecursion IsRow rows → length rows ≡ count → bytes ≡ rows_bytes rows ++ rest
    → (others ≡ rows) × (length bytes - length more ≡ length (rows_bytes rows))
same_front count bytes rows others rest more read fits n e =
    let both = some_is (rows_and_rest others more) (rows_and_rest rows rest) (sym read ∙ front_again count bytes rows rest fits n e) in
    (ap (λ (x : List Row × List ℕ). x.0) both, omega (arith, ap length e, length-append (rows_bytes rows) rest, ap (λ (x : List Row × List ℕ). length x.1) both))

none_and_some : {A : Type 0} (read : Option A) (x : A) → read ≡ None → read ≡ Some x → ⊥
none_and_some None x none some = cc
none_and_some (Some y) x none some = cc

-- where nothing was read, no such rows stand in front
pub no_front : (count : ℕ) (bytes : List ℕ) (rows : List Row) (rest : List ℕ) → rows_at count bytes ≡ None → AllByRecursion IsRow rows → length rows ≡ count → bytes ≡ rows_bytes rows ++ rest → ⊥
no_front count bytes rows rest none fits n e = none_and_some (rows_at count bytes) (rows, rest) none (front_again count bytes rows rest fits n e)
