use Rattle.leaf_deeds.specs.declared.leaf.OneLeaf.TheVariants as one
use Rattle.leaf_deeds.proofs.Meetings.{IsLegalSeat, LeafMet, at_place, down_met, met_seat, preparing_met, up_met}
use Rattle.leaf_deeds.proofs.leaf.OneLeaf.meet.Given.{Over}
use Rattle.leaf_deeds.proofs.leaf.OneLeaf.meet.Goals as goal
use Rattle.leaf_deeds.proofs.leaf.OneLeaf.meet.Goals.{in-Down, in-Up, in-Preparing}

pub meet-met-requires-clause-seat : goal.meet-met-requires-clause-seat
meet-met-requires-clause-seat g c κs within = at_place (λ t v. IsLegalSeat c.args.seat.now t) c.args.self.now (one.Down c.in-Down.leaf) c.args.table c.in-Down.is c.requires.seat

pub meet-met-requires-in-Up-clause-seat : goal.meet-met-requires-in-Up-clause-seat
meet-met-requires-in-Up-clause-seat g c κs within = at_place (λ t v. IsLegalSeat c.args.seat.now t) c.args.self.now (one.Up c.in-Up.leaf) c.args.table c.in-Up.is c.requires.seat

pub meet-met-requires-in-Preparing-clause-seat : goal.meet-met-requires-in-Preparing-clause-seat
meet-met-requires-in-Preparing-clause-seat g c κs within =
    at_place (λ t v. IsLegalSeat c.args.seat.now t) c.args.self.now (one.Preparing c.in-Preparing.leaf) c.args.table c.in-Preparing.is c.requires.seat

met : (g : Over) (c : goal.In-Ok g) → LeafMet g.B.Berth.meaning c.args.self.now c.match-self.self c.args.table c.args.seat.now
met g c = elim c.match-self.branch [
  | in-Down w ↦
      down_met g.B.Berth.meaning c.args.self.now c.match-self.self w.in-Down.leaf w.meet-met.new.self c.args.table c.args.seat.now w.in-Down.is w.self-is c.requires.table c.requires.seats
      w.meet-met.ensures.learns w.meet-met.ensures.rests
  | in-Up w ↦
      up_met g.B.Berth.meaning c.args.self.now c.match-self.self w.in-Up.leaf w.meet-met-in-Up.new.self c.args.table c.args.seat.now w.in-Up.is w.self-is c.requires.table c.requires.seats
      w.meet-met-in-Up.ensures.learns w.meet-met-in-Up.ensures.runs
  | in-Preparing w ↦
      let then = w.meet-met-in-Preparing in
      preparing_met g.B.Berth.meaning c.args.self.now c.match-self.self w.in-Preparing.leaf then.new.self c.args.table c.args.seat.now w.in-Preparing.is w.self-is c.requires.table c.requires.seats
      then.ensures.learns then.ensures.runs
]

pub returns-clause-learns : goal.returns-clause-learns
returns-clause-learns g c = (met g c).learns

pub returns-clause-seat : goal.returns-clause-seat
returns-clause-seat g c = elim c.match-self.branch [
  | in-Down w ↦ met_seat c.args.self.now (one.Down w.in-Down.leaf) c.args.table c.args.seat.now w.meet-met.new.seat c.match-self.seat w.in-Down.is w.seat-is w.meet-met.ensures.seat
  | in-Up w ↦
      met_seat c.args.self.now (one.Up w.in-Up.leaf) c.args.table c.args.seat.now w.meet-met-in-Up.new.seat c.match-self.seat w.in-Up.is w.seat-is w.meet-met-in-Up.ensures.seat
  | in-Preparing w ↦
      let then = w.meet-met-in-Preparing in
      met_seat c.args.self.now (one.Preparing w.in-Preparing.leaf) c.args.table c.args.seat.now then.new.seat c.match-self.seat w.in-Preparing.is w.seat-is then.ensures.seat
]

pub returns-clause-berth : goal.returns-clause-berth
returns-clause-berth g c = (met g c).berth

pub returns-clause-stands : goal.returns-clause-stands
returns-clause-stands g c = (met g c).stands
