use Rattle.std.proofs.Common.{ℕ}
use Rattle.player.specs.Crew.{Spares, StillHas}
use Rattle.player.specs.Members.{AreMembers, SameFleet, holds_in}
use Rattle.player.specs.Lending.{MeetLeaves}
use Rattle.player.proofs.members.Members.meet_all.Given as goal

-- the seats of the leaves before the number have met
abbrev pub invariant-loop-number : goal.invariant-loop-number
invariant-loop-number g l = record {
  members : AreMembers l.self;
  same : SameFleet l.fn.self l.self;
  met : MeetLeaves g.B.Berth.meaning l.number (holds_in l.fn.self) (holds_in l.self);
  still : StillHas (holds_in l.fn.self) (holds_in l.self);
  spares : (table n : ℕ) → Spares (holds_in l.fn.self) table n → Spares (holds_in l.self) table n;
}
