use Rattle.std.proofs.Common.{◌≡◌, ◌<◌, length, sym, ap, subst}
use Rattle.leaf_history.specs.History.{LegalFrom}
use Rattle.turnstile.specs.Seats.{IsSeatOf, LearnsOthers, SeesAlso}
use Rattle.leaf_table.specs.Turns.{is_founded, start_of}
use Rattle.leaf_table.specs.Calls.{SeatView, base_seen, seen_of}
use Rattle.crash_states.specs.Standing.{Runs}
use Rattle.leaf_steward.specs.Seated.{Seated, AreFounded, AtPlace, watched_by, with_seat}
use Rattle.leaf_machine.specs.States.{Shutting}
use Rattle.leaf_machine.proofs.Meeting.{Meets, meets_in, met_run, met_with}
use Rattle.leaf_machine.proofs.preparing.Preparing.meet.Goals as goal

pub meet-requires-clause-seat : goal.meet-requires-clause-seat
meet-requires-clause-seat g c =
    let seat = c.args.seat.now in
    subst (λ v. AtPlace (λ t s. IsSeatOf seat t.site × LegalFrom (is_founded (base_seen t)) (start_of (base_seen t)) (seen_of seat)) v.0.serving.seated c.args.table) (sym c.self.view_is) c.requires.seat

pub invariant_of-self : goal.invariant_of-self
invariant_of-self g c =
    let within : c.args.table < length c.self.inside.seats.tables = subst (λ v. c.args.table < length v.0.serving.seated.tables) (sym c.self.view_is) c.requires.table in
    let met : Meets c.self.inside.seats c.meet.new.self c.args.table = meets_in c.self.inside.seats c.meet.new.self c.args.table c.args.seat.now c.sits.ensures within c.meet.ensures.learns in
    met_with c.self.inside.seats c.meet.new.self c.args.table met c.sits.ensures c.self.inside.log (g.B.Berth.meaning c.self.inside.berth) c.self.inside.tables c.self.invariant

pub returns-clause-learns : goal.returns-clause-learns
returns-clause-learns g c =
    let place = c.args.table in
    let seat = c.args.seat.now in
    let berth = c.self.inside.berth in
    let with : Seated → Shutting × g.row.B.Denot = λ s. (record { serving = record { seated = s; owing = c.self.inside.log }; closed = c.self.inside.tables.closed; waits = c.self.inside.tables.waits }, berth) in
    subst
    (λ v. AtPlace (λ t s. (w : SeatView) × (with c.meet.new.self ≡ (record { serving = record { seated = with_seat v.0.serving.seated place w; owing = v.0.serving.owing }; closed = v.0.closed; waits = v.0.waits }, v.1))
    × SeesAlso s seat w × LearnsOthers s w × LegalFrom (is_founded (base_seen t)) (start_of (base_seen t)) (seen_of w)) v.0.serving.seated place)
    c.self.view_is (λ t s at was. let l = c.meet.ensures.learns t s at was in (l.0, ap with l.1, l.2, l.3, l.4))

pub returns-clause-seat : goal.returns-clause-seat
returns-clause-seat g c =
    let place = c.args.table in
    let old = c.args.seat.now in
    let new = c.meet.new.seat in
    subst (λ v. AtPlace (λ t s. IsSeatOf new t.site × SeesAlso old s new × LearnsOthers old new × LegalFrom (is_founded (base_seen t)) (start_of (base_seen t)) (seen_of new)) v.0.serving.seated place) c.self.view_is c.meet.ensures.seat

pub returns-clause-runs : goal.returns-clause-runs
returns-clause-runs g c = λ writes.
    let o = c.self.inside.log in
    let m = g.B.Berth.meaning c.self.inside.berth in
    let within : c.args.table < length c.self.inside.seats.tables = subst (λ v. c.args.table < length v.0.serving.seated.tables) (sym c.self.view_is) c.requires.table in
    let met : Meets c.self.inside.seats c.meet.new.self c.args.table = meets_in c.self.inside.seats c.meet.new.self c.args.table c.args.seat.now c.sits.ensures within c.meet.ensures.learns in
    subst (λ v. AreFounded v.0.serving.seated → Runs (watched_by v.0.serving.seated) v.0.serving.owing.owner v.0.serving.owing.log writes (g.B.Berth.meaning v.1) → Runs (watched_by c.meet.new.self) o.owner o.log writes m)
    c.self.view_is (λ founded runs. met_run c.self.inside.seats c.meet.new.self c.args.table met c.sits.ensures founded o.owner o.log writes m runs)
