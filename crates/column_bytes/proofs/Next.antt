-- The first place that has something, told of another test that answers the same.
use Rattle.std.proofs.Common.{◌≡◌, ℕ, ◌<◌, Bool, List, length, Option, Some, None, is_some, sym, subst, ◌∙◌, arith}
use Rattle.bit_columns.specs.Bits.{BitString, PackedCodes}
use Rattle.column_bytes.specs.declared.form.Form.{Form}
use Rattle.column_bytes.specs.Cells.{cell_at, coded_of, is_there}
use Rattle.column_bytes.specs.Next.{HasNone, TellsFirst}
use Rattle.column_bytes.proofs.Parts.{cell_is_there, length-codes}

none_as : (has also : ℕ → Bool) (from to : ℕ) → ((i : ℕ) → i < to → has i ≡ also i) → HasNone has from to → HasNone also from to
none_as has also from to same none i behind before = sym (same i before) ∙ none i behind before

first_as : (has also : ℕ → Bool) (from to : ℕ) (found : Option ℕ) → ((i : ℕ) → i < to → has i ≡ also i) → TellsFirst has from to found → TellsFirst also from to found
first_as has also from to None same none = none_as has also from to same none
first_as has also from to (Some p) same first =
    let inside = first.inside in
    record {
      behind = first.behind;
      inside = inside;
      there = sym (same p inside) ∙ first.there;
      between = none_as has also from p (λ i before. same i (omega (arith, before, inside))) first.between;
    }

-- what the presence bits tell is told of the cells
pub first_cell : (form : Form) (n : ℕ) (presence : Option BitString) (packed : PackedCodes) (extra : List ℕ) (from : ℕ) (found : Option ℕ) → TellsFirst (is_there presence) from n found
    → TellsFirst (λ i. is_some (cell_at (coded_of form n presence packed extra) i)) from (length (coded_of form n presence packed extra).codes) found
first_cell form n presence packed extra from found first =
    let coded = coded_of form n presence packed extra in
    subst (λ (to : ℕ). TellsFirst (λ i. is_some (cell_at coded i)) from to found) (sym (length-codes packed.bytes packed.width n))
    (first_as (is_there presence) (λ i. is_some (cell_at coded i)) from n found (cell_is_there form n presence packed extra) first)
