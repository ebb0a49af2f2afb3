use Rattle.std.proofs.Common.{[]}
use Rattle.crash_starting.proofs.Ready.{ready_rests}
use Rattle.leaf_machine.proofs.DownBegins.{none_new}
use Rattle.leaf_machine.proofs.laws.begins_where_ready.Goals as goal

pub returns : goal.returns
returns g c = λ base ready.
    let law = (g.met.B.Berth g.world.𝓛 g.world.𝓜 g.world.𝓡 ((λ s x. x), (λ x. x), (λ x. x), λ x. x)) in
    let berth = c.args.berth.now in (
      ready.tells,
      ready_rests base [] (g.B.Berth.meaning berth) ready (record { reads = law.stands berth ready.tells; regions = λ p left. law.keeps_region berth p ready.tells left }) (none_new base),
    )
