use Rattle.leaf_steward.proofs.Seating.{sits_at, there, meets, met_seat, met_seated}
use Rattle.leaf_steward.proofs.seats.Seats.meet.Goals as goal

pub meet-requires : goal.meet-requires
meet-requires c =
    let h = sits_at c.self.view_is c.self.invariant _ c.index-self-place.result _ c.requires.table c.index_mut.ensures.value in
    record { seats = (h.seated.seat, (there _ h c.self.view_is c.requires.seat).0) }

pub invariant_of-self : goal.invariant_of-self
invariant_of-self c = met_seated (sits_at c.self.view_is c.self.invariant _ c.index-self-place.result _ c.requires.table c.index_mut.ensures.value) c.self.view_is c.self.invariant c.args.seat.now c.meet.new.a c.requires.seat c.meet.ensures.a

pub returns-clause-learns : goal.returns-clause-learns
returns-clause-learns c = meets (sits_at c.self.view_is c.self.invariant _ c.index-self-place.result _ c.requires.table c.index_mut.ensures.value) c.self.view_is c.args.seat.now c.meet.new.a c.requires.seat c.meet.ensures.a c.meet.ensures.others.0

pub returns-clause-seat : goal.returns-clause-seat
returns-clause-seat c = met_seat (sits_at c.self.view_is c.self.invariant _ c.index-self-place.result _ c.requires.table c.index_mut.ensures.value) c.self.view_is c.args.seat.now c.meet.new.b c.requires.seat c.meet.ensures.seats.1 c.meet.ensures.b c.meet.ensures.others.1
