use Rattle.std.proofs.Common.{take}
use Rattle.block_scan.specs.Slots.{AreLaid, lists_in, slot_at, slots_in}
use Rattle.block_scan.proofs.laying.lay_out.Given as goal

abbrev pub invariant-loop-place : goal.invariant-loop-place
invariant-loop-place l = AreLaid (slot_at l.slots) (slots_in l.slots) (take l.place-index l.places) (lists_in l.lists.items)
