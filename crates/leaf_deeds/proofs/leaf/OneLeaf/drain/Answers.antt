use Rattle.std.proofs.Common.{subst}
use Rattle.leaf_moves.specs.Stage.{IsPreparing}
use Rattle.leaf_deeds.specs.Held.{berth_of, leaf_state}
use Rattle.leaf_deeds.specs.Moves.{Drains}
use Rattle.leaf_deeds.proofs.Joined.{up_drained}
use Rattle.leaf_deeds.proofs.Moved.{drain_not_up}
use Rattle.leaf_deeds.proofs.leaf.OneLeaf.drain.Goals as goal

pub returns-in-Down-clause-drains : goal.returns-in-Down-clause-drains
returns-in-Down-clause-drains g c = rw c.in-Down.is (drain_not_up c.in-Down.down.0 (g.B.Berth.meaning c.in-Down.down.1) c.args.stop c.args.notes.now c.requires)

-- a leaf that is up begins to shut its tables
pub returns-in-Up-clause-drains : goal.returns-in-Up-clause-drains
returns-in-Up-clause-drains g c =
    let meaning = g.B.Berth.meaning in
    let x = c.in-Up.up in
    let m' = meaning (berth_of c.drain.result.0) in
    let then = leaf_state c.drain.result.0 in
    rw c.in-Up.is (up_drained x.0 (meaning x.1) m' c.args.stop c.drain.new.notes then c.drain.result.1 (
    subst (λ p. Drains (meaning p.1) m' (IsPreparing p.0) c.args.stop c.drain.new.notes c.drain.result.1 then) c.prepare.ensures c.drain.ensures.drains
    ))

-- one that shuts them goes on
pub returns-in-Preparing-clause-drains : goal.returns-in-Preparing-clause-drains
returns-in-Preparing-clause-drains g c = rw c.in-Preparing.is c.drain-in-Preparing.ensures.drains
