-- Packed rows whose bytes were put together, or cut out of others.
use Rattle.std.proofs.Common.{◌≡◌, ℕ, ℤ, Option, true, ◌+◌, ◌-◌, ◌<◌, ◌≤◌, List, [], ◌∷◌, ◌++◌, length, take, Some, refl, sym, ap, subst, ◌∙◌, length-append, arith}
use Rattle.std.specs.Prelude.{IsSome, int_le}
use Rattle.std.proofs.lemmas.List.{take_at}
use Rattle.row_model.specs.declared.rows.Row.{Row}
use Rattle.row_model.specs.Values.{IsRow}
use Rattle.leaf_model.specs.Bytes.{rows_bytes, IsBytes}
use Rattle.leaf_model.specs.Reading.{row_at, rows_at}
use Rattle.leaf_model.specs.Packed.{packed_rows, AreFrom, IsPacked}
use Rattle.leaf_model.specs.Fronts.{front_of}
use Rattle.leaf_model.proofs.LentLaws.{rows_done, rows_open}
use Rattle.leaf_model.proofs.ReadRows.{rows_take}
use Rattle.leaf_model.proofs.PackedLaws.{few_rows, more_packed}

-- no more rows than bytes
pub packed_few : (count : ℕ) (bytes : List ℕ) (rows : List Row) → IsPacked count bytes rows → count ≤ length bytes
packed_few count bytes rows p = omega (arith, p.counted, few_rows rows, ap length p.spelled)

-- a row more
pub row_more : (count : ℕ) (bytes now : List ℕ) (rows : List Row) (row : Row) → IsPacked count bytes rows → IsRow row → now ≡ bytes ++ rows_bytes (row ∷ []) → IsPacked (count + 1) now (rows ++ row ∷ [])
row_more count bytes now rows row p fit e = more_packed count 1 bytes now rows (row ∷ []) p (fit, tt) e refl

-- the rows of others
pub rows_more : (count more : ℕ) (bytes others now : List ℕ) (rows theirs : List Row) → IsPacked count bytes rows → IsPacked more others theirs → now ≡ bytes ++ others → IsPacked (count + more) now (rows ++ theirs)
rows_more count more bytes others now rows theirs p q e = more_packed count more bytes now rows theirs p q.rows_fit (e ∙ ap (λ (w : List ℕ). bytes ++ w) q.spelled) (sym q.counted)

cut_off : (bytes front rest : List ℕ) → bytes ≡ front ++ rest → length bytes - length rest ≡ length front
cut_off bytes front rest e = omega (arith, ap length e, length-append front rest)

-- what follows is no longer than all
pub rest_shorter : (count : ℕ) (bytes rest : List ℕ) → IsBytes bytes → rows_at count bytes ≡ Some (packed_rows count bytes, rest) → length rest ≤ length bytes
rest_shorter count bytes rest fits e =
    let t = rows_take count bytes (packed_rows count bytes, rest) fits e in
    omega (arith, ap length t.0.parts, length-append (rows_bytes (packed_rows count bytes)) rest)

-- rows at the front of others' bytes, cut off
pub cut_packed : (count : ℕ) (bytes rest own : List ℕ) → IsBytes bytes → rows_at count bytes ≡ Some (packed_rows count bytes, rest) → own ≡ take (length bytes - length rest) bytes → IsPacked count own (packed_rows count bytes)
cut_packed count bytes rest own fits e is =
    let rows = packed_rows count bytes in
    let t = rows_take count bytes (rows, rest) fits e in
    record {
      spelled = is ∙ ap (λ (n : ℕ). take n bytes) (cut_off bytes (rows_bytes rows) rest t.0.parts) ∙ ap (take (length (rows_bytes rows))) t.0.parts ∙ take_at (rows_bytes rows) rest (length (rows_bytes rows)) refl;
      counted = t.1;
      rows_fit = t.2;
    }

-- ---- rows none of which is below a horizon

from_row : (horizon : ℤ) (row : Row) (others : List Row) → int_le horizon row.time ≡ true → AreFrom horizon others → AreFrom horizon (row ∷ others)
from_row horizon row others le same = rw le (ap (λ (w : List Row). row ∷ w) same)

pub from_pass : (horizon : ℤ) (count i : ℕ) (rest : List ℕ) (row : Row) (after : List ℕ) → i < count → row_at rest ≡ Some (row, after) → IsSome (rows_at (count - i) rest) → int_le horizon row.time ≡ true
    → AreFrom horizon (packed_rows (count - (i + 1)) after) → AreFrom horizon (packed_rows (count - i) rest)
from_pass horizon count i rest row after lt e some le all =
    let opened = rows_open (count - i) rest row after (omega (arith, lt)) some e in
    let less : count - (i + 1) ≡ count - i - 1 = omega (arith, lt) in
    subst (AreFrom horizon) (sym opened.front) (from_row horizon row (packed_rows (count - i - 1) after) le (subst (λ (n : ℕ). AreFrom horizon (packed_rows n after)) less all))

pub from_none : (horizon : ℤ) (count i : ℕ) (rest : List ℕ) → count ≤ i → AreFrom horizon (packed_rows (count - i) rest)
from_none horizon count i rest le = subst (AreFrom horizon) (sym (ap (λ (r : Option (List Row × List ℕ)). front_of r) (rows_done count i rest le))) refl
