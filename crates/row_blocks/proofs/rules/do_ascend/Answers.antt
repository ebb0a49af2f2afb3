use Rattle.std.proofs.Common.{refl, sym, ap, ◌∙◌, arith}
use Rattle.std.specs.Ordering.{is_lt}
use Rattle.row_blocks.specs.Headings.{heading, heading_cmp}
use Rattle.row_blocks.proofs.Adjacent.{one_before, sorted_by}
use Rattle.row_blocks.proofs.Order.{heading_total}
use Rattle.row_blocks.proofs.rules.do_ascend.Goals as goal

pub returns : goal.returns
returns c = (λ yes. sorted_by heading_cmp heading c.args.columns.now heading_total (λ k within. c.loop-i.invariant k (omega (arith, c.loop-i-test.false, within))), λ sorted. refl)

pub returns-then-not-is_lt : goal.returns-then-not-is_lt
returns-then-not-is_lt c = (
  λ f. absurd cc,
  λ sorted.
      let less = one_before heading_cmp heading c.args.columns.now c.loop-i.i c.index-columns-i.result c.index-columns-i-in-loop-i.result
      c.loop-i.auto.i c.loop-i-test.true c.index-columns-i.is c.index-columns-i-in-loop-i.is sorted in
      sym c.if-not-is_lt.true ∙ c.is_lt.ensures ∙ ap is_lt (c.compare_columns.ensures ∙ less),
)
