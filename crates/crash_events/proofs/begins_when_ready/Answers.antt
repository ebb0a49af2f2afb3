use Rattle.crash_events.proofs.Names.{leaf_begins}
use Rattle.crash_events.proofs.begins_when_ready.Goals as goal

pub returns : goal.returns
returns g c = record {
  begins = λ reads base own ready distinct.
      let law = (g.met.B.Berth g.world.𝓛 g.world.𝓜 g.world.𝓡 ((λ s x. x), (λ x. x), (λ x. x), λ x. x)) in
      leaf_begins reads (g.B.Berth.meaning c.args.berth.now) base own ready
      (record {
        stands = law.stands c.args.berth.now ready.tells;
        region = λ p left. law.keeps_region c.args.berth.now p ready.tells left;
      })
      distinct;
}
