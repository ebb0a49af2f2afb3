use Rattle.std.proofs.Common.{◌≡◌, List, ℕ, ℤ, Bool, IfOk, length, map, is_some, sym, ap, subst, ◌∙◌}
use Rattle.std.proofs.lemmas.List.{length-map}
use Rattle.leaf_model.specs.Lent.{each_value}
use Rattle.column_bytes.specs.Coding.{AreIntegers}
use Rattle.column_bytes.specs.Column.{HasCells}
use Rattle.column_bytes.proofs.Lent.{there_same}
use Rattle.column_bytes.proofs.integers.encode_integers.Goals as goal

pub returns-clause-cells : goal.returns-clause-cells
returns-clause-cells c =
    let cells = c.args.cells.now in
    let marks : c.deref-2.result.now ≡ map is_some cells = c.deref-2.ensures.value ∙ c.in_ok-present.ensures in
    let are : AreIntegers (each_value cells) c.deref.result.now = subst (AreIntegers (each_value cells)) (sym c.deref.ensures.value) c.in_ok-integers.ensures in
    subst (λ (n : ℕ). IfOk c.integer_column.result (λ bytes. HasCells bytes.items n (each_value cells))) (ap (λ (l : List Bool). length l) marks ∙ length-map cells is_some)
    (c.integer_column.ensures.cells (each_value cells) (sym (there_same cells) ∙ sym marks) are)
