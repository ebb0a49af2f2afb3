use Rattle.std.proofs.Common.{[], ◌∷◌, ◌++◌, refl, ap, ◌∙◌}
use Rattle.std.specs.Option.{option_to_list}
use Rattle.rollover_driver.specs.Calls.{Drains}
use Rattle.player.specs.Restarts as restart
use Rattle.player.proofs.restarts.RestartsFleet.drain.Goals as goal

pub returns-clause-goes : goal.returns-clause-goes
returns-clause-goes g c = λ first calls stood.
    let was = c.args.self.now in
    let head = c.next_head-head in
    let then = c.restart in
    let now = then.new.self in
    let done = then.ensures.done in
    restart.drained (calls ++ Drains c.args.leaf then.result.drained ∷ []) now.leaves now.lines now.heads.items now.draining calls was.leaves was.lines was.heads.items was.draining c.args.leaf then.result done.0
    (option_to_list head.result) stood done.1 done.2 head.ensures.head (ap (λ q. q.items) then.ensures.spot.0 ∙ head.ensures.heads) (then.ensures.spot.1 ∙ head.ensures.draining) refl
