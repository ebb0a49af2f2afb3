use Rattle.std.proofs.Common.{◌≡◌, ap, length, arith}
use Rattle.soak.specs.Soak.{rows_between}
use Rattle.soak.proofs.Drawn.{rows_count}
use Rattle.soak.proofs.draw.Draw.rows.Goals as goal

pub of-requires : goal.of-requires
of-requires c =
    let count : length c.in_ok-rows.rows ≡ length (rows_between c.args.self.now.seed c.args.self.now.next c.args.end) = ap length c.in_ok-rows.ensures.exact in
    omega (arith, count, rows_count c.args.self.now.seed c.args.self.now.next c.args.end, c.requires.few)
