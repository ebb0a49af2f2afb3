use Rattle.std.proofs.Common.{rules}
use Rattle.leaf_words.specs.declared.note.What.TheVariants as what
use Rattle.leaf_table.specs.Calls.{SeesShut}
use Rattle.leaf_steward.proofs.Seating.{sits_at, there, there_now, steward_at, seated_after, enters}
use Rattle.leaf_steward.proofs.seats.Seats.hand.Goals as goal

pub done-number-requires-clause-seat : goal.done-number-requires-clause-seat
done-number-requires-clause-seat g c κs within = (sits_at c.self.view_is c.self.invariant _ c.index-self-place.result _ c.requires.table c.index_mut.ensures.value).seated.seat

pub done-number-requires-clause-steward : goal.done-number-requires-clause-steward
done-number-requires-clause-steward g c κs within = steward_at (sits_at c.self.view_is c.self.invariant _ c.index-self-place.result _ c.requires.table c.index_mut.ensures.value) c.self.view_is c.requires.spares

pub done-number-requires-clause-shut : goal.done-number-requires-clause-shut
done-number-requires-clause-shut g c κs within = there SeesShut (sits_at c.self.view_is c.self.invariant _ c.index-self-place.result _ c.requires.table c.index_mut.ensures.value) c.self.view_is c.requires.shut

pub invariant_of-self : goal.invariant_of-self
invariant_of-self g c = seated_after (sits_at c.self.view_is c.self.invariant _ c.index-self-place.result _ c.requires.table c.index_mut.ensures.value) c.self.invariant c.done-number.ensures.made

pub returns-clause-entry : goal.returns-clause-entry
returns-clause-entry g c = (
  c.done-number.result,
  enters (sits_at c.self.view_is c.self.invariant _ c.index-self-place.result _ c.requires.table c.index_mut.ensures.value) c.self.view_is _ _ what.Handed c.done-number.new.steward c.done-number.ensures.number c.done-number.ensures.made,
  search rules,
)

pub returns-clause-shut : goal.returns-clause-shut
returns-clause-shut g c = there_now SeesShut (sits_at c.self.view_is c.self.invariant _ c.index-self-place.result _ c.requires.table c.index_mut.ensures.value) c.done-number.new.steward c.done-number.ensures.shut
