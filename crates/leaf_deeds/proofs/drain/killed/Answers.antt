use Rattle.std.proofs.Common.{sym, subst}
use Rattle.leaf_steward.specs.Making.{Makes}
use Rattle.leaf_deeds.proofs.Drained.{kills}
use Rattle.leaf_deeds.proofs.drain.killed.Goals as goal

pub returns-clause-killed : goal.returns-clause-killed
returns-clause-killed g c =
    let meaning = g.B.Berth.meaning in
    let x = c.args.leaf.0 in
    let clock = (meaning c.args.leaf.1).clock in
    let notes = c.kill.new.notes in
    let says = c.kill.ensures in
    let made = subst (λ b. Makes clock (meaning b).clock x.serving.seated notes c.kill.result.0) (sym says.berth) says.made in
    kills x (meaning c.args.leaf.1) (meaning c.kill.result.1) c.kill.result.0 notes says.each made says.crash
