use Rattle.std.proofs.Common.{sym, ◌∙◌, arith}
use Rattle.standing_query.proofs.Cut.{all_stay, late_cut}
use Rattle.standing_query.proofs.late.without_late.Goals as goal

pub returns-then-late-eq0 : goal.returns-then-late-eq0
returns-then-late-eq0 c = λ h count. sym (all_stay h c.args.rows.items (omega (arith, count, c.if-late-eq0.true)))

pub returns : goal.returns
returns c = λ h count.
    c.retain_from.ensures.rows
    ∙ late_cut c.args.rows.items c.in_ok-times.times.items h c.index.result.now c.args.late (rw c.as_slice.ensures.value at c.in_ok-times.ensures.same) c.in_ok-times.ensures.sorted
    (omega (arith, c.in_ok-times.ensures.count)) count c.index.ensures
