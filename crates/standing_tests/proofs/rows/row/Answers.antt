use Rattle.std.proofs.Common.{rules}
use Rattle.standing_tests.proofs.Fitting.{row_fits}
use Rattle.standing_tests.proofs.rows.row.Goals as goal

pub returns : goal.returns
returns c =
    row_fits c.args.time _ _ c.in_ok-host.host c.in_ok-cell.field-0 c.in_ok-cell-2.field-0 c.new-cells.result.items c.push.new.self.items c.push-2.new.self.items c.of.result (search rules) (search rules) c.ranges.time (search rules) c.in_ok-host.ensures.utf8 c.in_ok-host.ensures.short
    c.in_ok-cell.ensures c.in_ok-cell-2.ensures c.new-cells.ensures.items c.in_ok-push.ensures.items c.in_ok-push-2.ensures.items c.of.ensures
