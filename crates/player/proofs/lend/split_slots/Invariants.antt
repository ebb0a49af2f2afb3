use Rattle.std.proofs.Common.{◌≤◌, length}
use Rattle.std.specs.Prelude.{vec_capacity}
use Rattle.player.specs.Crew.{is_set}
use Rattle.player.specs.Lending.{SlotsSplit}
use Rattle.player.proofs.lend.split_slots.Given as goal

-- the slots before the number were taken over where they are marked
abbrev pub invariant-loop-number : goal.invariant-loop-number
invariant-loop-number g l = record {
  splits : SlotsSplit l.number (is_set l.marks) l.fn.slots.items l.off.items l.slots.items;
  room : length l.marks ≤ vec_capacity l.off;
}
