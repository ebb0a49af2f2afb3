use Rattle.play_again.proofs.Begun.{base_opened}
use Rattle.play_again.proofs.over.has_base_where_opened.Goals as goal

pub returns : goal.returns
returns g c = λ tables p left opened.
    let law = (g.met.B.Berth g.world.𝓛 g.world.𝓜 g.world.𝓡 ((λ s x. x), (λ x. x), (λ x. x), λ x. x)) in
    let berth = c.args.berth.now in
    base_opened tables p (g.B.Berth.meaning berth) left opened (law.stands berth opened.tells)
