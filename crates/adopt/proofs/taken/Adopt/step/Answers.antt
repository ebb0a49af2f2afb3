use Rattle.region_head.proofs.Moments.{closed_start, short_start}
use Rattle.adopt.proofs.Room.{in_room}
use Rattle.adopt.proofs.Taking.{begins_inside}
use Rattle.adopt.proofs.taken.Adopt.step.Goals as goal

pub returns-then-is_empty-clause-moments : goal.returns-then-is_empty-clause-moments
returns-then-is_empty-clause-moments g c =
    λ told closed.
    let laws = g.met.B.Berth g.world.𝓛 g.world.𝓜 g.world.𝓡 ((λ s x. x), (λ x. x), (λ x. x), λ x. x) in
    closed_start (g.B.Berth.meaning c.args.berth.now) closed (λ p left. laws.keeps_region c.args.berth.now p told left)

pub returns-then-is_empty-clause-inside : goal.returns-then-is_empty-clause-inside
returns-then-is_empty-clause-inside g c =
    λ region told adopting.
    let a = g.B.Berth.meaning c.args.berth.now in
    let laws = g.met.B.Berth g.world.𝓛 g.world.𝓜 g.world.𝓡 ((λ s x. x), (λ x. x), (λ x. x), λ x. x) in
    in_room c.args.self a a (begins_inside region a.held.region c.args.self adopting) (short_start a (λ r stands. (laws.region_now c.args.berth.now r told).0 stands))
