use Rattle.std.proofs.Common.{refl, rules}
use Rattle.leaf_table.specs.Calls.{SeesOpen}
use Rattle.leaf_steward.proofs.Seating.{sits_at, there, steward_at, seated_after, takes, worn_at, same_with}
use Rattle.leaf_steward.proofs.seats.Seats.take.Goals as goal

pub take-requires-clause-seat : goal.take-requires-clause-seat
take-requires-clause-seat g c κs within = (sits_at c.self.view_is c.self.invariant _ c.index-self-place.result _ c.requires.table c.index_mut.ensures.value).seated.seat

pub take-requires-clause-steward : goal.take-requires-clause-steward
take-requires-clause-steward g c κs within = steward_at (sits_at c.self.view_is c.self.invariant _ c.index-self-place.result _ c.requires.table c.index_mut.ensures.value) c.self.view_is c.requires.spares

pub take-requires-clause-open : goal.take-requires-clause-open
take-requires-clause-open g c κs within = there SeesOpen (sits_at c.self.view_is c.self.invariant _ c.index-self-place.result _ c.requires.table c.index_mut.ensures.value) c.self.view_is c.requires.open_

pub returns-in_default-clause-worn : goal.returns-in_default-clause-worn
returns-in_default-clause-worn g c =
    let h = sits_at c.self.view_is c.self.invariant _ c.index-self-place.result _ c.requires.table c.index_mut.ensures.value in
    (worn_at h c.self.view_is c.in_default.ensures.made.0, same_with h c.self.view_is c.take.new.steward c.in_default.ensures.made.1, refl)

pub invariant_of-self-2 : goal.invariant_of-self-2
invariant_of-self-2 g c = seated_after (sits_at c.self.view_is c.self.invariant _ c.index-self-place.result _ c.requires.table c.index_mut.ensures.value) c.self.invariant c.in-Took.ensures.made.2

pub returns-clause-took : goal.returns-clause-took
returns-clause-took g c =
    let made = c.in-Took.ensures.made in
    let h = sits_at c.self.view_is c.self.invariant _ c.index-self-place.result _ c.requires.table c.index_mut.ensures.value in
    (c.in-Took.number, takes h c.self.view_is _ c.in-Took.number c.in-Took.writes c.in-Took.pending c.take.new.steward made.0 made.1 made.2 made.3, search rules)
