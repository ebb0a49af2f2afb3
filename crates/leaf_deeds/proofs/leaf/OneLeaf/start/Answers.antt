use Rattle.std.proofs.Common.{refl}
use Rattle.leaf_moves.specs.Stage.{IsPreparing, IsUp}
use Rattle.leaf_moves.specs.Steps.{StartMoves}
use Rattle.leaf_deeds.proofs.Moved.{carries_still, from_memory, refusal_carries, refusal_read, start_carries, start_refused}
use Rattle.leaf_deeds.proofs.leaf.OneLeaf.start.Goals as goal

pub returns-in-Up-clause-carries : goal.returns-in-Up-clause-carries
returns-in-Up-clause-carries g c = rw c.in-Up.is (carries_still (IsUp c.in-Up.up.0) (g.B.Berth.meaning c.in-Up.up.1) c.args.notes.now c.requires)

pub returns-in-Preparing-clause-carries : goal.returns-in-Preparing-clause-carries
returns-in-Preparing-clause-carries g c = rw c.in-Preparing.is (carries_still (IsPreparing c.in-Preparing.leaf.0) (g.B.Berth.meaning c.in-Preparing.leaf.1) c.args.notes.now c.requires)

pub returns-in-Ok-clause-moves : goal.returns-in-Ok-clause-moves
returns-in-Ok-clause-moves g c =
    let came = c.in-Ok.ensures in
    rw c.in-Down.is (
    StartMoves.opened c.in-Down.down.0 c.in-Ok.up.0 c.in-Ok.way refl came.start.3 came.start.4 (λ tells. record { came = came.came tells; way_is = came.way tells; exact = came.exact tells }) refl refl
    )

pub returns-in-Ok-clause-carries : goal.returns-in-Ok-clause-carries
returns-in-Ok-clause-carries g c =
    rw c.in-Down.is (start_carries c.in-Down.down.0 c.in-Ok.up.0 c.start.new.notes (g.B.Berth.meaning c.in-Down.down.1) (g.B.Berth.meaning c.in-Ok.up.1) c.in-Ok.ensures.made c.in-Ok.ensures.crash)

pub returns-in-Ok-clause-reads : goal.returns-in-Ok-clause-reads
returns-in-Ok-clause-reads g c = rw c.in-Down.is (λ none. c.in-Ok.ensures.reads (from_memory c.in-Ok.way none))

pub returns-in-Err-clause-moves : goal.returns-in-Err-clause-moves
returns-in-Err-clause-moves g c =
    let was = c.in-Err.ensures in
    rw c.in-Down.is (
    start_refused g.B.Berth.meaning c.in-Down.down c.in-Err.down c.in-Err.fault c.start.new.notes c.ending_of.result was.start was.refused was.exact was.disk was.crash c.ending_of.ensures
    )

pub returns-in-Err-clause-carries : goal.returns-in-Err-clause-carries
returns-in-Err-clause-carries g c =
    rw c.in-Down.is (refusal_carries g.B.Berth.meaning c.in-Down.down c.in-Err.down c.in-Err.fault c.start.new.notes c.in-Err.ensures.made c.in-Err.ensures.crash)

pub returns-in-Err-clause-reads : goal.returns-in-Err-clause-reads
returns-in-Err-clause-reads g c = refusal_read c.in-Err.fault c.ending_of.result c.ending_of.ensures
