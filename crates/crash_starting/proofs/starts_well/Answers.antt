use Rattle.crash_starting.proofs.Ready.{ready_rests}
use Rattle.crash_starting.proofs.Starting.{openable, opens}
use Rattle.crash_starting.proofs.starts_well.Goals as goal

pub returns-clause-ready : goal.returns-clause-ready
returns-clause-ready g c = λ base ws ready new.
    let law = (g.met.B.Berth g.world.𝓛 g.world.𝓜 g.world.𝓡 ((λ s x. x), (λ x. x), (λ x. x), λ x. x)) in
    ready_rests base ws (g.B.Berth.meaning c.args.berth.now) ready
    (record {
      reads = law.stands c.args.berth.now ready.tells;
      regions = λ p left. law.keeps_region c.args.berth.now p ready.tells left;
    })
    new

pub returns-clause-found : goal.returns-clause-found
returns-clause-found g c =
    let meaning = g.B.Berth.meaning c.args.berth.now in
    record {
      openable = λ ws log writes. openable ws log writes meaning;
      opens = λ ws next owner log writes. opens ws next owner log writes meaning;
    }
