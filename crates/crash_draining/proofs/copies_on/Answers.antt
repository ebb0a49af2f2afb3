use Rattle.crash_draining.proofs.Copying.{given_up, handed}
use Rattle.crash_draining.proofs.copies_on.Goals as goal

pub returns : goal.returns
returns g c =
    let m = g.B.Berth.meaning c.args.berth.now in
    record {
      killed = λ ws drain writes copies. given_up ws drain writes m copies;
      handed = λ ws ws' image writes holds all. handed ws ws' image writes m holds all;
    }
