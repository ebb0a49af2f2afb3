use Rattle.std.proofs.Common.{◌≡◌, ◌<◌, length, subst, sym, ap}
use Rattle.leaf_history.specs.History.{LegalFrom}
use Rattle.turnstile.specs.Seats.{IsSeatOf, LearnsOthers, SeesAlso}
use Rattle.leaf_table.specs.Turns.{is_founded, start_of}
use Rattle.leaf_table.specs.Calls.{SeatView, base_seen, seen_of}
use Rattle.crash_states.specs.Standing.{Runs}
use Rattle.leaf_steward.specs.Seated.{Seated, AreFounded, AtPlace, watched_by, with_seat}
use Rattle.leaf_machine.proofs.Meeting.{Meets, meets_in, met_run, met_up}
use Rattle.leaf_machine.proofs.up.Up.meet.Goals as goal

pub meet-requires-clause-seat : goal.meet-requires-clause-seat
meet-requires-clause-seat g c =
    subst (λ s. AtPlace (λ t v. IsSeatOf c.args.seat.now t.site × LegalFrom (is_founded (base_seen t)) (start_of (base_seen t)) (seen_of c.args.seat.now)) s.0.seated c.args.table) (sym c.self.view_is) c.requires.seat

pub invariant_of-self : goal.invariant_of-self
invariant_of-self g c =
    let met : Meets c.self.inside.seats c.meet.new.self c.args.table =
    meets_in c.self.inside.seats c.meet.new.self c.args.table c.args.seat.now c.sits.ensures (subst (λ s. c.args.table < length s.0.seated.tables) (sym c.self.view_is) c.requires.table) c.meet.ensures.learns in
    met_up c.self.inside.seats c.meet.new.self c.args.table met c.sits.ensures c.self.inside.log (g.B.Berth.meaning c.self.inside.berth) c.self.invariant

pub returns-clause-learns : goal.returns-clause-learns
returns-clause-learns g c =
    subst (λ s. AtPlace (λ t v. (w : SeatView) × ((record { seated = c.meet.new.self; owing = c.self.inside.log }, c.self.inside.berth) ≡ (record { seated = with_seat s.0.seated c.args.table w; owing = s.0.owing }, s.1))
    × SeesAlso v c.args.seat.now w × LearnsOthers v w × LegalFrom (is_founded (base_seen t)) (start_of (base_seen t)) (seen_of w)) s.0.seated c.args.table) c.self.view_is
    (λ t v at sat.
    let learned = c.meet.ensures.learns t v at sat in
    (learned.0, ap (λ (s : Seated). (record { seated = s; owing = c.self.inside.log }, c.self.inside.berth)) learned.1, learned.2, learned.3, learned.4))

pub returns-clause-seat : goal.returns-clause-seat
returns-clause-seat g c =
    subst (λ s. AtPlace (λ t v. IsSeatOf c.meet.new.seat t.site × SeesAlso c.args.seat.now v c.meet.new.seat × LearnsOthers c.args.seat.now c.meet.new.seat
    × LegalFrom (is_founded (base_seen t)) (start_of (base_seen t)) (seen_of c.meet.new.seat)) s.0.seated c.args.table) c.self.view_is c.meet.ensures.seat

pub returns-clause-runs : goal.returns-clause-runs
returns-clause-runs g c = λ writes founded runs.
    let met : Meets c.self.inside.seats c.meet.new.self c.args.table =
    meets_in c.self.inside.seats c.meet.new.self c.args.table c.args.seat.now c.sits.ensures (subst (λ s. c.args.table < length s.0.seated.tables) (sym c.self.view_is) c.requires.table) c.meet.ensures.learns in
    met_run c.self.inside.seats c.meet.new.self c.args.table met c.sits.ensures (subst (λ s. AreFounded s.0.seated) (sym c.self.view_is) founded) c.self.inside.log.owner c.self.inside.log.log writes (g.B.Berth.meaning c.self.inside.berth)
    (subst (λ s. Runs (watched_by s.0.seated) s.0.owing.owner s.0.owing.log writes (g.B.Berth.meaning s.1)) (sym c.self.view_is) runs)
