use Rattle.play_again.proofs.Begun.{base_empty}
use Rattle.play_again.proofs.over.has_empty_base.Goals as goal

pub returns : goal.returns
returns g c = λ opened.
    let law = (g.met.B.Berth g.world.𝓛 g.world.𝓜 g.world.𝓡 ((λ s x. x), (λ x. x), (λ x. x), λ x. x)) in
    let berth = c.args.berth.now in
    base_empty (g.B.Berth.meaning berth) opened (law.stands berth opened.tells)
