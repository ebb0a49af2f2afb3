use Rattle.std.proofs.Common.{◌≤◌, rules}
use Rattle.leaf_table.specs.Calls.{base_seen, state_seen}
use Rattle.leaf_words.specs.declared.note.What.TheVariants as what
use Rattle.leaf_steward.proofs.Seating.{sits_at, there, steward_at, seated_after, enters}
use Rattle.leaf_steward.proofs.seats.Seats.flushed.Goals as goal

pub flushed-number-requires-clause-seat : goal.flushed-number-requires-clause-seat
flushed-number-requires-clause-seat g c κs within = (sits_at c.self.view_is c.self.invariant _ c.index-self-place.result _ c.requires.table c.index_mut.ensures.value).seated.seat

pub flushed-number-requires-clause-steward : goal.flushed-number-requires-clause-steward
flushed-number-requires-clause-steward g c κs within = steward_at (sits_at c.self.view_is c.self.invariant _ c.index-self-place.result _ c.requires.table c.index_mut.ensures.value) c.self.view_is c.requires.spares

pub flushed-number-requires-clause-taken : goal.flushed-number-requires-clause-taken
flushed-number-requires-clause-taken g c κs within = there (λ t v. c.args.writes ≤ (state_seen (base_seen t) v).taken) (sits_at c.self.view_is c.self.invariant _ c.index-self-place.result _ c.requires.table c.index_mut.ensures.value) c.self.view_is c.requires.taken

pub invariant_of-self : goal.invariant_of-self
invariant_of-self g c = seated_after (sits_at c.self.view_is c.self.invariant _ c.index-self-place.result _ c.requires.table c.index_mut.ensures.value) c.self.invariant c.flushed-number.ensures.made

pub returns : goal.returns
returns g c = (
  c.flushed-number.result,
  enters (sits_at c.self.view_is c.self.invariant _ c.index-self-place.result _ c.requires.table c.index_mut.ensures.value) c.self.view_is _ _ (what.Flushed c.args.writes) c.flushed-number.new.steward c.flushed-number.ensures.number c.flushed-number.ensures.made,
  search rules,
)
