use Rattle.std.proofs.Common.{◌≡◌, ◌<◌, length, subst, sym, ap}
use Rattle.leaf_history.specs.History.{LegalFrom}
use Rattle.turnstile.specs.Seats.{IsSeatOf, LearnsOthers, SeesAlso}
use Rattle.leaf_table.specs.Turns.{is_founded, start_of}
use Rattle.leaf_table.specs.Calls.{SeatView, base_seen, seen_of}
use Rattle.crash_states.specs.Standing.{Rests}
use Rattle.leaf_steward.specs.Seated.{Seated, AreFounded, AtPlace, watched_by, with_seat}
use Rattle.leaf_steward.proofs.Keeping.{founded_as}
use Rattle.leaf_machine.proofs.Meeting.{Meets, meets_in, met_tables, met_shut, met_rest}
use Rattle.leaf_machine.proofs.down.Down.meet.Goals as goal

pub meet-requires-clause-seat : goal.meet-requires-clause-seat
meet-requires-clause-seat g c =
    subst (λ s. AtPlace (λ t v. IsSeatOf c.args.seat.now t.site × LegalFrom (is_founded (base_seen t)) (start_of (base_seen t)) (seen_of c.args.seat.now)) s.0 c.args.table) (sym c.self.view_is) c.requires.seat

pub invariant_of-self : goal.invariant_of-self
invariant_of-self g c =
    let met : Meets c.self.inside.seats c.meet.new.self c.args.table =
    meets_in c.self.inside.seats c.meet.new.self c.args.table c.args.seat.now c.sits.ensures (subst (λ s. c.args.table < length s.0.tables) (sym c.self.view_is) c.requires.table) c.meet.ensures.learns in
    let m = g.B.Berth.meaning c.self.inside.berth in
    let down = c.self.invariant in
    record {
      shut = met_shut c.self.inside.seats c.meet.new.self c.args.table met c.sits.ensures down.shut;
      stands = λ founded.
          let before : AreFounded c.self.inside.seats = founded_as c.meet.new.self c.self.inside.seats (sym (met_tables c.self.inside.seats c.meet.new.self c.args.table met c.sits.ensures)) founded in
          let told = down.stands before in
          (told.0, (told.1.0, told.1.1, told.1.2, met_rest c.self.inside.seats c.meet.new.self c.args.table met c.sits.ensures before told.1.0 told.1.1 told.1.2 m told.1.3));
    }

pub returns-clause-learns : goal.returns-clause-learns
returns-clause-learns g c =
    subst (λ s. AtPlace (λ t v. (w : SeatView) × ((c.meet.new.self, c.self.inside.berth) ≡ (with_seat s.0 c.args.table w, s.1))
    × SeesAlso v c.args.seat.now w × LearnsOthers v w × LegalFrom (is_founded (base_seen t)) (start_of (base_seen t)) (seen_of w)) s.0 c.args.table) c.self.view_is
    (λ t v at sat.
    let learned = c.meet.ensures.learns t v at sat in
    (learned.0, ap (λ (s : Seated). (s, c.self.inside.berth)) learned.1, learned.2, learned.3, learned.4))

pub returns-clause-seat : goal.returns-clause-seat
returns-clause-seat g c =
    subst (λ s. AtPlace (λ t v. IsSeatOf c.meet.new.seat t.site × SeesAlso c.args.seat.now v c.meet.new.seat × LearnsOthers c.args.seat.now c.meet.new.seat
    × LegalFrom (is_founded (base_seen t)) (start_of (base_seen t)) (seen_of c.meet.new.seat)) s.0 c.args.table) c.self.view_is c.meet.ensures.seat

pub returns-clause-rests : goal.returns-clause-rests
returns-clause-rests g c = λ others least next founded rests.
    let met : Meets c.self.inside.seats c.meet.new.self c.args.table =
    meets_in c.self.inside.seats c.meet.new.self c.args.table c.args.seat.now c.sits.ensures (subst (λ s. c.args.table < length s.0.tables) (sym c.self.view_is) c.requires.table) c.meet.ensures.learns in
    met_rest c.self.inside.seats c.meet.new.self c.args.table met c.sits.ensures (subst (λ s. AreFounded s.0) (sym c.self.view_is) founded) others least next (g.B.Berth.meaning c.self.inside.berth)
    (subst (λ s. Rests (watched_by s.0) others least next (g.B.Berth.meaning s.1)) (sym c.self.view_is) rests)
