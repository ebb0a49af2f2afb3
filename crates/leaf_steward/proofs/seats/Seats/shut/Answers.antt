use Rattle.std.proofs.Common.{rules}
use Rattle.leaf_table.specs.Calls.{SeesOpen}
use Rattle.leaf_steward.proofs.Seating.{sits_at, there, steward_at, seated_after, shuts}
use Rattle.leaf_steward.proofs.seats.Seats.shut.Goals as goal

pub shut-number-requires-clause-seat : goal.shut-number-requires-clause-seat
shut-number-requires-clause-seat g c κs within = (sits_at c.self.view_is c.self.invariant _ c.index-self-place.result _ c.requires.table c.index_mut.ensures.value).seated.seat

pub shut-number-requires-clause-steward : goal.shut-number-requires-clause-steward
shut-number-requires-clause-steward g c κs within = steward_at (sits_at c.self.view_is c.self.invariant _ c.index-self-place.result _ c.requires.table c.index_mut.ensures.value) c.self.view_is c.requires.spares

pub shut-number-requires-clause-open : goal.shut-number-requires-clause-open
shut-number-requires-clause-open g c κs within = there SeesOpen (sits_at c.self.view_is c.self.invariant _ c.index-self-place.result _ c.requires.table c.index_mut.ensures.value) c.self.view_is c.requires.open_

pub invariant_of-self : goal.invariant_of-self
invariant_of-self g c = seated_after (sits_at c.self.view_is c.self.invariant _ c.index-self-place.result _ c.requires.table c.index_mut.ensures.value) c.self.invariant c.shut-number.ensures.closed.made

pub returns : goal.returns
returns g c =
    let closed = c.shut-number.result in (
      closed.number,
      shuts (sits_at c.self.view_is c.self.invariant _ c.index-self-place.result _ c.requires.table c.index_mut.ensures.value) c.self.view_is _ closed c.shut-number.new.steward c.shut-number.ensures.closed,
      search rules,
    )
