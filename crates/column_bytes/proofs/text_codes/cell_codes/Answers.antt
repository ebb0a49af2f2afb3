use Rattle.std.proofs.Common.{◌≡◌, length, Option, None, IfSome, option_map, sym, ap, subst, ◌∙◌, arith}
use Rattle.leaf_model.specs.declared.lent_cells.LentValue.{LentValue}
use Rattle.std.proofs.lemmas.List.{get_or_default, length_push}
use Rattle.leaf_model.specs.Lent.{each_value, lent_value}
use Rattle.column_bytes.specs.Coding.{IsOfKind}
use Rattle.column_bytes.specs.declared.kind.Kind.TheVariants.{Texts}
use Rattle.column_bytes.proofs.Lent.{kind_here, length-values, value_here}
use Rattle.column_bytes.proofs.Distinct.{coded_more}
use Rattle.column_bytes.proofs.text_codes.cell_codes.Goals as goal

pub code_or-requires : goal.code_or-requires
code_or-requires c =
    let cells = c.args.cells.now in let i = c.loop-cell.cell-index in
    let here = c.cell-item.is ∙ get_or_default cells i c.cell-item.result None c.loop-cell-test.true in
    subst (λ (cell : Option LentValue). IfSome (option_map lent_value cell) (IsOfKind Texts)) (sym here) (kind_here Texts cells i c.loop-cell-test.true c.requires.kind)

pub loop-cell-preserved : goal.loop-cell-preserved
loop-cell-preserved c =
    let cells = c.args.cells.now in let i = c.loop-cell.cell-index in
    let codes = c.loop-cell.codes.items in
    let found = c.in_ok-last.ensures in
    let here = c.cell-item.is ∙ get_or_default cells i c.cell-item.result None c.loop-cell-test.true in
    let was = c.loop-cell.invariant in
    record {
      texts = found.texts was.texts;
      few = omega (arith, found.grows, was.few);
      same = omega (arith, ap length c.in_ok-push.ensures.items, length_push codes c.in_ok-last.last, was.same);
      each = coded_more (each_value cells) codes c.push.new.self.items c.loop-cell.set c.code_or.new.set i c.in_ok-last.last was.same c.in_ok-push.ensures.items found.kept
          (λ value e. found.code value (ap (option_map lent_value) here ∙ value_here cells i c.loop-cell-test.true ∙ e)) was.each;
    }

pub returns-clause-coding : goal.returns-clause-coding
returns-clause-coding c =
    let cells = c.args.cells.now in
    let past : c.loop-cell.cell-index ≡ length cells = omega (arith, c.loop-cell-test.false, c.loop-cell.auto.cell-index-end) in
    record {
      same = omega (arith, c.loop-cell.invariant.same, past, length-values cells);
      each = λ i value within e.
          let found = c.loop-cell.invariant.each i (omega (arith, within, past, length-values cells)) value e in
          (sym found.1, found.0);
    }
