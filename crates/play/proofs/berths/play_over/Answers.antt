use Rattle.std.proofs.Common.{◌≡◌, inr, ap, ◌∙◌, arith, subst, sym, vec_len, vec_capacity}
use Rattle.std.specs.List.{AllByRecursion}
use Rattle.play.specs.Standing.{MayRun}
use Rattle.play.specs.Runs.{IsFleetOf}
use Rattle.play.proofs.Beginning.{alike_at, crew_of, ready_at, run_begins}
use Rattle.play.proofs.Ends.{fleet_named, leaves_berths, room_again, run_written}
use Rattle.play.proofs.Short.{if_short, run_shortened}
use Rattle.play.proofs.berths.play_over.Goals as goal

pub new-requires-clause-alike : goal.new-requires-clause-alike
new-requires-clause-alike g c κs within = alike_at g.N.Bases.base g.B.Berth.meaning c.args.berths.now.items c.requires.plan c.in-Ok.ensures c.requires.bases c.requires.enough c.in-Ok-new_tables.ensures

pub new-requires-clause-ready : goal.new-requires-clause-ready
new-requires-clause-ready g c κs within = ready_at g.N.Bases.base g.B.Berth.meaning c.args.berths.now.items c.requires.plan c.in-Ok.ensures c.requires.bases c.requires.enough c.in-Ok-new_tables.ensures

pub play_all-status-requires-clause-may_play : goal.play_all-status-requires-clause-may_play
play_all-status-requires-clause-may_play g c κs within =
    let plan = c.args.plan.now in
    let fleet = c.in-Ok-new.crew.fleet in
    let is : fleet ≡ plan = c.in-Ok-new.ensures.fleet ∙ ap (fleet_named plan.machines plan.per_machine) c.in-Ok.ensures in
    subst (AllByRecursion (MayRun fleet)) (sym c.into_inner.ensures) (subst (IsFleetOf c.args.items) (sym is) c.requires.plan).may_play

pub play_all-status-requires-clause-begun : goal.play_all-status-requires-clause-begun
play_all-status-requires-clause-begun g c κs within =
    let new = c.in-Ok-new.ensures in
    run_begins g.N.Bases.base g.B.Berth.meaning c.args.berths.now.items c.requires.plan c.in-Ok.ensures c.requires.bases c.requires.enough c.in-Ok-new_tables.ensures
    new.fleet new.holds new.stands

pub abandon-requires-clause-room : goal.abandon-requires-clause-room
abandon-requires-clause-room g c κs within =
    let new = c.in-Ok-new.ensures in
    let berths = c.args.berths.now in
    let rest = c.new.new.berths in
    let crew = crew_of g.N.Bases.base g.B.Berth.meaning c.args.berths.now.items c.requires.plan c.in-Ok.ensures c.requires.bases c.requires.enough c.in-Ok-new_tables.ensures
    new.fleet new.holds new.berths in
    room_again crew c.play_all-status.ensures.time (vec_len rest) (vec_capacity rest) rest.ok.0 (omega (arith, berths.ok.0, berths.ok.1, new.room))

pub returns-clause-done : goal.returns-clause-done
returns-clause-done g c = λ e.
    let new = c.in-Ok-new.ensures in
    let back = c.abandon.ensures.berths in
    let crew = crew_of g.N.Bases.base g.B.Berth.meaning c.args.berths.now.items c.requires.plan c.in-Ok.ensures c.requires.bases c.requires.enough c.in-Ok-new_tables.ensures
    new.fleet new.holds new.berths in
    run_written crew c.play_all-status.ensures.time back.0 back.1 back.2 c.into_inner.ensures (c.play_all-status.ensures.done e).1 c.abandon.ensures.met

pub returns-clause-short : goal.returns-clause-short
returns-clause-short g c =
    let new = c.in-Ok-new.ensures in
    let back = c.abandon.ensures.berths in
    let crew = crew_of g.N.Bases.base g.B.Berth.meaning c.args.berths.now.items c.requires.plan c.in-Ok.ensures c.requires.bases c.requires.enough c.in-Ok-new_tables.ensures
    new.fleet new.holds new.berths in
    if_short c.play_all-status.result c.play_all-status.ensures.short (λ run. inr (run_shortened crew back.0 back.1 back.2 c.into_inner.ensures run c.abandon.ensures.met))

pub returns-clause-berths : goal.returns-clause-berths
returns-clause-berths g c =
    let new = c.in-Ok-new.ensures in
    let back = c.abandon.ensures.berths in
    let crew = crew_of g.N.Bases.base g.B.Berth.meaning c.args.berths.now.items c.requires.plan c.in-Ok.ensures c.requires.bases c.requires.enough c.in-Ok-new_tables.ensures
    new.fleet new.holds new.berths in
    leaves_berths crew c.play_all-status.ensures.time back.0 back.1 back.2
