use Rattle.std.specs.Prelude.{IsTrue}
use Rattle.std.proofs.Common.{sym, subst}
use Rattle.leaf_machine.proofs.start.open_on.Goals as goal

pub returns : goal.returns
returns g c =
    let law = (g.met.B.Berth g.world.𝓛 g.world.𝓜 g.world.𝓡 ((λ s x. x), (λ x. x), (λ x. x), λ x. x)) in
    let opens = c.open_tables.ensures in
    let b = c.open_tables.new.berth in
    record {
      one = opens.one;
      fresh = opens.fresh;
      room = opens.room;
      told = opens.told;
      way = opens.way;
      refused = opens.refused;
      exact = opens.exact;
      sound = opens.sound;
      made = λ told.
          let tells : IsTrue (g.B.Berth.meaning b).tells = subst IsTrue (sym opens.time.tells) told in
          record {
            passes = opens.time;
            stands = record { reads = law.stands b tells; regions = λ p left. law.keeps_region b p tells left };
            moments = opens.moments told;
            disks = opens.disks told;
            held = opens.held told;
          };
      durable = opens.durable;
      named = opens.named;
      time = opens.time;
      region_cause = opens.region_cause;
      disk_cause = opens.disk_cause;
      reads = opens.reads;
    }
