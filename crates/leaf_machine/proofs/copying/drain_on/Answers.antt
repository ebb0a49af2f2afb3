use Rattle.std.specs.Prelude.{IsTrue}
use Rattle.std.proofs.Common.{sym, subst}
use Rattle.leaf_machine.proofs.copying.drain_on.Goals as goal

pub returns : goal.returns
returns g c =
    let law = (g.met.B.Berth g.world.𝓛 g.world.𝓜 g.world.𝓡 ((λ s x. x), (λ x. x), (λ x. x), λ x. x)) in
    let made = c.step.ensures in
    let b = c.step.new.berth in
    record {
      image = made.image;
      laid = made.layout;
      step = made.step;
      told = made.told;
      room = made.room;
      failed = made.failed;
      moments = made.moments;
      inside = made.inside;
      begun = made.begun;
      stands = λ told.
          let tells : IsTrue (g.B.Berth.meaning b).tells = subst IsTrue (sym made.time.tells) told in
          record { reads = law.stands b tells; regions = λ p left. law.keeps_region b p tells left };
      time = made.time;
      cause = made.cause;
      reads = made.reads;
    }
