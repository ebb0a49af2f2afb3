-- The rows of the tests are rows.
use Rattle.std.proofs.Common.{◌≡◌, ◌≤◌, ◌≤ℤ◌, ◌++◌, ℕ, ℤ, pos, List, [], ◌∷◌, length, refl, ap, arith, rules, codes, IsUtf8, slice_index}
use Rattle.std.specs.Prelude.{FitsSigned}
use Rattle.std.specs.Int.{w64}
use Rattle.std.specs.List.Sorted.{IsStrictlySortedBy}
use Rattle.row_model.specs.declared.rows.Cell.{Cell}
use Rattle.row_model.specs.declared.rows.Value.TheVariants.{Int, Text}
use Rattle.row_model.specs.Values.{IsCellName, IsRow}

code_name : IsUtf8 (codes "code")
code_name = search rules

host_name : IsUtf8 (codes "host")
host_name = search rules

is_code : IsCellName (codes "code")
is_code = record { text = code_name; some = omega arith; short = omega arith; other = λ e. let bad : 99 ≡ 116 = ap (λ l. slice_index l 0) e in absurd (omega (arith, bad)) }

is_host : IsCellName (codes "host")
is_host = record { text = host_name; some = omega arith; short = omega arith; other = λ e. let bad : 104 ≡ 116 = ap (λ l. slice_index l 0) e in absurd (omega (arith, bad)) }

-- a row of two cells, which were pushed one behind the other
pub row_fits : (time given code : ℤ) (host : List ℕ) (first second : Cell) (none one both cells : List Cell) → given ≡ time → pos 0 ≤ℤ time → FitsSigned w64 time → FitsSigned w64 code → IsUtf8 host → length host ≤ 65535
    → (first.name ≡ codes "code") × (first.value ≡ Int code) → (second.name ≡ codes "host") × (second.value ≡ Text host) → none ≡ [] → one ≡ none ++ first ∷ [] → both ≡ one ++ second ∷ [] → cells ≡ both
    → IsRow (record { time = given; cells = cells })
unfolding IsStrictlySortedBy
row_fits time given code host first second none one both cells same low within fits utf8 short is_first is_second is_none is_one is_both all = rw (all, is_both, is_one, is_none, same) (record {
  time = (low, within);
  few = omega arith;
  cells = (record { name = rw is_first.0 is_code; value = rw is_first.1 fits }, (record { name = rw is_second.0 is_host; value = rw is_second.1 (utf8, short) }, tt));
  ascending = rw (is_first.0, is_second.0) ((refl, tt), (tt, tt));
})
