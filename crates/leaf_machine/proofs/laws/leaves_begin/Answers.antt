use Rattle.berth_face.specs.Berth.{Meaning}
use Rattle.leaf_machine.proofs.LeaveRests.{rests_begin}
use Rattle.leaf_machine.proofs.LeaveRuns.{runs_begin}
use Rattle.leaf_machine.proofs.laws.leaves_begin.Goals as goal

pub returns : goal.returns
returns g c =
    let m : Meaning = g.B.Berth.meaning c.args.berth.now in
    record {
      rests = λ ws others least next tells rests. rests_begin ws others least next m rests tells;
      runs = λ ws others owner log writes tells sound runs. runs_begin ws others owner log writes m runs tells sound;
    }
