use Rattle.std.proofs.Common.{◌≡◌, length, Option, None, IfSome, option_map, sym, subst, ◌∙◌, arith}
use Rattle.leaf_model.specs.declared.lent_cells.LentValue.{LentValue}
use Rattle.std.proofs.lemmas.List.{get_or_default}
use Rattle.leaf_model.specs.Lent.{lent_value}
use Rattle.column_bytes.specs.Coding.{IsOfKind}
use Rattle.column_bytes.specs.declared.kind.Kind.TheVariants.{Ints}
use Rattle.column_bytes.proofs.Lent.{kind_here, length-values, value_here}
use Rattle.column_bytes.proofs.integers.integers_of.Goals as goal

pub integer_or-last-requires : goal.integer_or-last-requires
integer_or-last-requires c =
    let cells = c.args.cells.now in let i = c.loop-cell.cell-index in
    let here = c.cell-item.is ∙ get_or_default cells i c.cell-item.result None c.loop-cell-test.true in
    subst (λ (cell : Option LentValue). IfSome (option_map lent_value cell) (IsOfKind Ints)) (sym here) (kind_here Ints cells i c.loop-cell-test.true c.requires)

pub returns : goal.returns
returns c =
    let cells = c.args.cells.now in
    let past : c.loop-cell.cell-index ≡ length cells = omega (arith, c.loop-cell-test.false, c.loop-cell.auto.cell-index-end) in
    record {
      same = omega (arith, c.loop-cell.integers.ok, c.loop-cell.invariant.same, past, length-values cells);
      each = λ i value within e. c.loop-cell.invariant.each i value (omega (arith, within, past, length-values cells)) (value_here cells i (omega (arith, within, length-values cells)) ∙ e);
    }
