use Rattle.std.proofs.Common.{◌<◌, List, length, ℤ, sym, subst}
use Rattle.time_range.specs.Ranges.{IsRangeOf}
use Rattle.row_blocks.proofs.Accepted.{AreParts, block_is, parts_are, range_is, some_times}
use Rattle.row_blocks.proofs.accepting.range_of_parts.Goals as goal
use Rattle.row_blocks.proofs.accepting.range_of_parts.Goals.{else-do_ascend-via-then-do_ascend+in_ok-fit_rows+else-branch, else-do_ascend-via-else-do_ascend}

pub range_of-requires : goal.range_of-requires
range_of-requires c =
    let timed = rw c.in-Some.is at c.in_ok-times.ensures in
    subst (λ (l : List ℤ). 0 < length l) (sym c.deref-then-branch.ensures.value) (some_times c.args.rows c.args.first.now c.in-Some.times.items timed.0 timed.1)

pub returns-then-branch : goal.returns-then-branch
returns-then-branch c =
    let rows = c.args.rows in let first = c.args.first.now in let others = c.args.others.now in
    let timed = rw c.in-Some.is at c.in_ok-times.ensures in
    let seen = rw c.in-Some-2.is at c.in_ok-views.ensures in
    let parts : AreParts rows first others = record { timed = timed.0; each = seen.0; ascend = c.do_ascend.ensures.0 c.if-do_ascend.true; fit = c.in_ok-fit_rows.ensures.0 c.if-branch.true } in (
      block_is rows first others c.in-Some-2.views.items parts seen.1,
      range_is rows first others c.in-Some.times.items c.range_of.result timed.0 timed.1
          (subst (λ (l : List ℤ). IsRangeOf l c.range_of.result) c.deref-then-branch.ensures.value c.range_of.ensures),
    )

pub returns : goal.returns
returns c =
    let rows = c.args.rows in let first = c.args.first.now in let others = c.args.others.now in
    elim c.else-do_ascend.branch [
      | else-do_ascend-via-then-do_ascend+in_ok-fit_rows+else-branch w ↦ λ is. let yes = w.in_ok-fit_rows.ensures.1 (parts_are rows first others is).fit in let none = w.if-branch.false in absurd cc
      | else-do_ascend-via-else-do_ascend w ↦ λ is. let yes = c.do_ascend.ensures.1 (parts_are rows first others is).ascend in let none = w.if-do_ascend.false in absurd cc
    ]
