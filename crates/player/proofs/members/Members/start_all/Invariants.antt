use Rattle.player.specs.Members.{AreMembers, SameFleet}
use Rattle.player.specs.Commands.{StartsFirst}
use Rattle.player.proofs.members.Members.start_all.Given as goal

-- the leaves before the number were started
abbrev pub invariant-loop-number : goal.invariant-loop-number
invariant-loop-number g l = record {
  members : AreMembers l.self;
  same : SameFleet l.fn.self l.self;
  starts : StartsFirst g.B.Berth.meaning l.number l.fn.self l.lines l.self;
}
