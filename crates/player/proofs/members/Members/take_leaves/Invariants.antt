use Rattle.std.proofs.Common.{length}
use Rattle.std.specs.Prelude.{vec_len}
use Rattle.player.specs.Crew.{SameSeats}
use Rattle.player.specs.Members.{AreMembers, SameFleet, holds_in}
use Rattle.player.specs.Returning.{LeavesBack}
use Rattle.player.proofs.Returned.{IsFront}
use Rattle.player.proofs.members.Members.take_leaves.Given as goal

-- the leaves behind those that are left came back
abbrev pub invariant-loop-slot : goal.invariant-loop-slot
invariant-loop-slot g l = record {
  members : AreMembers l.self;
  same : SameFleet l.fn.self l.self;
  back : LeavesBack g.B.Berth.meaning (length l.leaves.items) l.fn.leaves.items (holds_in l.fn.self) (holds_in l.self);
  seats : SameSeats (holds_in l.fn.self) (holds_in l.self);
  front : IsFront l.fn.leaves.items l.leaves.items;
}

abbrev pub decreases-loop-slot : goal.decreases-loop-slot
decreases-loop-slot g l = vec_len l.leaves
