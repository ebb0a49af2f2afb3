use Rattle.play_again.proofs.Begun.{base_crashed}
use Rattle.play_again.proofs.over.has_base_after_crash.Goals as goal

pub returns : goal.returns
returns g c = λ from t p since after before left opened.
    let law = (g.met.B.Berth g.world.𝓛 g.world.𝓜 g.world.𝓡 ((λ s x. x), (λ x. x), (λ x. x), λ x. x)) in
    let berth = c.args.berth.now in
    base_crashed from t p (g.A.Berth.meaning c.args.crashed.now) (g.B.Berth.meaning berth) since after before left opened (law.stands berth opened.tells)
