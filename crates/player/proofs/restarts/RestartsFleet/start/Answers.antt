use Rattle.std.proofs.Common.{[], ◌∷◌, ◌++◌, refl, ap}
use Rattle.rollover_driver.specs.Calls.{Starts}
use Rattle.player.specs.Restarts as restart
use Rattle.player.proofs.restarts.RestartsFleet.start.Goals as goal

pub returns-clause-goes : goal.returns-clause-goes
returns-clause-goes g c = λ first calls stood.
    let was = c.args.self.now in
    let then = c.restart in
    let now = then.new.self in
    let done = then.ensures.done in
    restart.started (calls ++ Starts c.args.leaf then.result.started ∷ []) now.leaves now.lines now.heads.items now.draining calls was.leaves was.lines was.heads.items was.draining c.args.leaf then.result done.0
    stood done.1 done.2 (ap (λ q. q.items) then.ensures.spot.0) then.ensures.spot.1 refl
