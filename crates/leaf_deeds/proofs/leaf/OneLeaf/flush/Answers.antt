use Rattle.std.proofs.Common.{refl}
use Rattle.leaf_moves.specs.Steps.{FlushMoves}
use Rattle.leaf_deeds.specs.Held.{berth_of, leaf_state}
use Rattle.leaf_deeds.proofs.Carrying.{makes_keeps}
use Rattle.leaf_deeds.proofs.Moved.{carries_still, runs_carried}
use Rattle.leaf_deeds.proofs.leaf.OneLeaf.flush.Goals as goal

pub returns-in-Down-clause-carries : goal.returns-in-Down-clause-carries
returns-in-Down-clause-carries g c = carries_still (leaf_state c.args.self.now) (g.B.Berth.meaning (berth_of c.args.self.now)) c.args.notes.now c.requires.notes

pub returns-in-Preparing-clause-carries : goal.returns-in-Preparing-clause-carries
returns-in-Preparing-clause-carries g c = carries_still (leaf_state c.args.self.now) (g.B.Berth.meaning (berth_of c.args.self.now)) c.args.notes.now c.requires.notes

pub returns-in-Up-clause-moves : goal.returns-in-Up-clause-moves
returns-in-Up-clause-moves g c = rw c.in-Up.is (FlushMoves.flushed c.in-Up.up.0 c.flush.new.self.0 c.flush.result refl c.flush.ensures.flushes c.flush.ensures.region c.ending_of_flush.ensures refl)

pub returns-in-Up-clause-carries : goal.returns-in-Up-clause-carries
returns-in-Up-clause-carries g c =
    rw c.in-Up.is (runs_carried c.in-Up.up.0 c.flush.new.self.0 c.flush.new.notes (g.B.Berth.meaning c.in-Up.up.1) (g.B.Berth.meaning c.flush.new.self.1) c.flush.ensures.made c.flush.ensures.crash)

pub returns-in-Up-clause-keeps : goal.returns-in-Up-clause-keeps
returns-in-Up-clause-keeps g c = rw c.in-Up.is (makes_keeps _ _ c.in-Up.up.0.seated c.flush.new.notes c.flush.new.self.0.seated c.flush.ensures.made)
