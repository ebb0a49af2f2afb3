use Rattle.std.proofs.Common.{◌≤◌, length, None, arith}
use Rattle.std.proofs.lemmas.Bool.Decides.{nat_tests}
use Rattle.play.proofs.Short.{soak_done, soak_short}
use Rattle.play.proofs.Soaked.{soak_enough}
use Rattle.play.proofs.soaking.play_soak.Goals as goal

pub play_items-requires-clause-enough : goal.play_items-requires-clause-enough
play_items-requires-clause-enough g c κs within =
    let enough : 8 ≤ length c.args.berths.now.items = grind (arith, nat_tests, c.len.ensures, c.if-len-lt-LEAVES.false) in
    soak_enough c.in-Ok.script c.args.seed c.args.rows (length c.args.berths.now.items) c.in-Ok.ensures.exact enough

pub returns-clause-short : goal.returns-clause-short
returns-clause-short g c =
    let enough : 8 ≤ length c.args.berths.now.items = grind (arith, nat_tests, c.len.ensures, c.if-len-lt-LEAVES.false) in
    soak_short g.N.Bases.base g.B.Berth.meaning None None _ _ c.args.berths.now.items c.play_items.new.berths.items _ _ c.in-Ok.script c.args.seed c.args.rows c.in-Ok.ensures.exact enough c.play_items.result c.play_items.ensures.short

pub returns-clause-done : goal.returns-clause-done
returns-clause-done g c = λ done.
    let enough : 8 ≤ length c.args.berths.now.items = grind (arith, nat_tests, c.len.ensures, c.if-len-lt-LEAVES.false) in
    soak_done g.N.Bases.base g.B.Berth.meaning None None _ _ c.args.berths.now.items c.play_items.new.berths.items _ _ c.in-Ok.script c.args.seed c.args.rows c.in-Ok.ensures.exact enough (c.play_items.ensures.done done)
