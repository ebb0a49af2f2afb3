use Rattle.std.proofs.Common.{subst}
use Rattle.leaf_steward.specs.Making.{OneEntry}
use Rattle.leaf_steward.specs.Owing.{Owing, flushed_note}
use Rattle.leaf_steward.proofs.Bringing.{noted}
use Rattle.leaf_steward.proofs.log.StewardLog.note.Goals as goal

pub returns-clause-runs : goal.returns-clause-runs
returns-clause-runs g c = λ writes founded none runs.
    let x = c.args.seats.now in
    let o : Owing = c.args.self.now in
    let m = g.B.Berth.meaning c.args.berth.now in
    noted x c.flushed.new.self o c.flushed.ensures.0 writes m c.sits.ensures founded none
    (subst (λ (s : Owing). OneEntry m.clock x (flushed_note s c.flushed.ensures.0) c.flushed.new.self) c.self.view_is c.flushed.ensures.1)
    c.requires.taken runs
