use Rattle.std.proofs.Common.{◌≡◌, ℕ, List, [], length, slice_index, Option, None, IfSome, option_map, sym, ap, subst, ◌∙◌, arith}
use Rattle.leaf_model.specs.declared.lent_cells.LentValue.{LentValue}
use Rattle.std.proofs.lemmas.List.{get_or_default, get_or-map, length_push, length-map}
use Rattle.row_model.specs.Values.{bytes_in}
use Rattle.row_model.specs.declared.rows.Value.TheVariants as values
use Rattle.leaf_model.specs.Lent.{each_value, lent_value}
use Rattle.column_bytes.specs.Coding.{IsOfKind}
use Rattle.dictionaries.specs.Dictionary.{texts_by}
use Rattle.dictionaries.specs.Sets.{AreSetCodes}
use Rattle.column_bytes.specs.declared.kind.Kind.TheVariants as kinds
use Rattle.column_bytes.proofs.Lent.{kind_here, length-values, value_here}
use Rattle.column_bytes.proofs.SetCoding.{codes_none, set_coded_more}
use Rattle.column_bytes.proofs.set_codes.cell_codes.Goals as goal

pub loop-cell-init : goal.loop-cell-init
loop-cell-init c = record {
  held = subst (λ (texts : List (List ℕ)). AreSetCodes texts c.args.sets.now) (sym c.requires.no_texts) (subst (AreSetCodes []) (sym c.requires.no_sets) codes_none);
  few = omega (arith, ap length c.requires.no_sets);
  few_texts = omega (arith, ap length c.requires.no_texts);
  bytes = omega (arith, ap bytes_in c.requires.no_texts);
  same = ap length c.in_ok-codes.ensures.items;
  each = λ k h value e. absurd (omega arith);
}

pub code_or-requires-clause-kind : goal.code_or-requires-clause-kind
code_or-requires-clause-kind c =
    let cells = c.args.cells.now in let i = c.loop-cell.cell-index in
    let here = c.cell-item.is ∙ get_or_default cells i c.cell-item.result None c.loop-cell-test.true in
    subst (λ (cell : Option LentValue). IfSome (option_map lent_value cell) (IsOfKind kinds.Sets)) (sym here) (kind_here kinds.Sets cells i c.loop-cell-test.true c.requires.kind)

pub loop-cell-preserved : goal.loop-cell-preserved
loop-cell-preserved c =
    let cells = c.args.cells.now in let i = c.loop-cell.cell-index in
    let codes = c.loop-cell.codes.items in
    let found = c.in_ok-last.ensures in
    let here = c.cell-item.is ∙ get_or_default cells i c.cell-item.result None c.loop-cell-test.true in
    let was = c.loop-cell.invariant in
    record {
      held = found.held was.held;
      few = omega (arith, found.grows, was.few);
      few_texts = omega (arith, found.few, was.few_texts);
      bytes = omega (arith, found.bytes, was.bytes);
      same = omega (arith, ap length c.in_ok-push.ensures.items, length_push codes c.in_ok-last.last, was.same);
      each = set_coded_more (each_value cells) codes c.push.new.self.items c.loop-cell.texts c.code_or.new.texts c.loop-cell.sets c.code_or.new.sets i c.in_ok-last.last
          was.same c.in_ok-push.ensures.items found.kept found.sets was.held.numbers
          (λ value e. found.code value (ap (option_map lent_value) here ∙ value_here cells i c.loop-cell-test.true ∙ e)) was.each;
    }

pub returns-clause-coding : goal.returns-clause-coding
returns-clause-coding c =
    let cells = c.args.cells.now in let texts = c.loop-cell.texts in let sets = c.loop-cell.sets in
    let past : c.loop-cell.cell-index ≡ length cells = omega (arith, c.loop-cell-test.false, c.loop-cell.auto.cell-index-end) in
    record {
      same = omega (arith, c.loop-cell.invariant.same, past, length-values cells);
      each = λ i value within e.
          let found = c.loop-cell.invariant.each i (omega (arith, within, past, length-values cells)) value e in
          let code = slice_index c.loop-cell.codes.items i in
          (ap values.Set (get_or-map (texts_by texts) sets code [] [] found.0) ∙ sym found.1, omega (arith, found.0, length-map sets (texts_by texts)));
    }
