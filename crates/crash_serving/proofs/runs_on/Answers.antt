use Rattle.berth_face.specs.Berth.{Meaning}
use Rattle.crash_serving.proofs.Running.{flushes, kills}
use Rattle.crash_serving.proofs.runs_on.Goals as goal

pub returns : goal.returns
returns g c =
    let m : Meaning = g.B.Berth.meaning c.args.berth.now in
    record {
      flushed = λ ws place owner n w w' log writes runs at few e. flushes ws place owner n w w' log writes m runs at few e;
      killed = λ ws ws' owner log writes runs all. kills ws ws' owner log writes m runs all;
    }
