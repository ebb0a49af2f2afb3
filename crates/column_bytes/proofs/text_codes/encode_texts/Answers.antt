use Rattle.std.proofs.Common.{◌≡◌, List, ℕ, Bool, IfOk, length, map, is_some, sym, ap, subst, ◌∙◌}
use Rattle.std.proofs.lemmas.List.{length-map}
use Rattle.leaf_model.specs.Lent.{each_value}
use Rattle.column_bytes.specs.Cells.{Entries}
use Rattle.column_bytes.specs.Coding.{IsCoding}
use Rattle.column_bytes.specs.Column.{HasCells}
use Rattle.column_bytes.proofs.Lent.{there_same}
use Rattle.column_bytes.proofs.text_codes.encode_texts.Goals as goal

pub returns-clause-cells : goal.returns-clause-cells
returns-clause-cells c =
    let cells = c.args.cells.now in
    let marks : c.deref-2.result.now ≡ map is_some cells = c.deref-2.ensures.value ∙ c.in_ok-present.ensures in
    let coding : IsCoding (each_value cells) c.deref.result.now (Entries c.cell_codes.new.set)
    = subst (λ (list : List ℕ). IsCoding (each_value cells) list (Entries c.cell_codes.new.set)) (sym c.deref.ensures.value) c.in_ok-codes.ensures.coding in
    subst (λ (n : ℕ). IfOk c.text_column.result (λ bytes. HasCells bytes.items n (each_value cells))) (ap (λ (l : List Bool). length l) marks ∙ length-map cells is_some)
    (c.text_column.ensures.cells (each_value cells) (sym (there_same cells) ∙ sym marks) coding)
