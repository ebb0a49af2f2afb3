use Rattle.slot_groups.proofs.Splits.{class_of, split_by}
use Rattle.slot_groups.proofs.InSlots.{by_slot}
use Rattle.slot_groups.proofs.laws.slots.Goals as goal

pub returns-clause-sorted : goal.returns-clause-sorted
returns-clause-sorted c = split_by

pub returns-clause-slots : goal.returns-clause-slots
returns-clause-slots c = by_slot

pub returns-clause-class : goal.returns-clause-class
returns-clause-class c = class_of
