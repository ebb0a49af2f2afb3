use Rattle.std.proofs.Common.{Ok, Err, refl, sym, subst}
use Rattle.std.specs.Prelude.{IsSome, IsTrue, Result}
use Rattle.disk_backup.specs.declared.fault.DiskFault.{DiskFault}
use Rattle.crash_states.specs.Standing.{Runs}
use Rattle.leaf_steward.specs.Seated.{watched_by}
use Rattle.leaf_steward.specs.Owing.{Owing, SettlesOwed}
use Rattle.leaf_steward.proofs.Bringing.{HasSettled, with_log, failed_runs, settled_runs, failed_settles, done_settles}
use Rattle.leaf_steward.proofs.log.StewardLog.settle.Goals as goal

abbrev good : Result (Unit {0}) DiskFault
good = Ok tt

abbrev bad : DiskFault → Result (Unit {0}) DiskFault
bad e = Err e

pub returns-in_err-settle-clause-settles : goal.returns-in_err-settle-clause-settles
returns-in_err-settle-clause-settles g c =
    let clock = (g.B.Berth.meaning c.settle.new.berth).clock in
    let x = c.args.seats.now in
    let notes = c.args.notes.now in
    let o : Owing = record { log = c.self.inside.log; owner = c.self.inside.owner; count = c.self.inside.count } in
    let some : IsSome o.log.owed = subst (λ (s : Owing). IsSome s.log.owed) (sym c.self.view_is) c.requires.some in
    subst (λ (s : Owing). SettlesOwed clock x s notes c.from_residual.result x (with_log o c.settle.new.self) notes) c.self.view_is
    (failed_settles clock x o c.settle.new.self notes c.from_residual.result some c.from_residual.ensures.0 c.in_err-settle.ensures.kept)

pub returns-in_err-settle-clause-runs : goal.returns-in_err-settle-clause-runs
returns-in_err-settle-clause-runs g c = λ writes told founded runs.
    let a = g.B.Berth.meaning c.args.berth.now in
    let b = g.B.Berth.meaning c.settle.new.berth in
    let x = c.args.seats.now in
    let o : Owing = record { log = c.self.inside.log; owner = c.self.inside.owner; count = c.self.inside.count } in
    let law = (g.met.B.Berth g.world.𝓛 g.world.𝓜 g.world.𝓡 ((λ s x. x), (λ x. x), (λ x. x), λ x. x)) in
    let told_new : IsTrue b.tells = subst IsTrue (sym c.settle.ensures.time.tells) told in
    let has : HasSettled o.log c.settle.new.self (bad c.in_err-settle.field-0.0) a b = record {
      passes = c.settle.ensures.time;
      stands = record { reads = law.stands c.settle.new.berth told_new; regions = λ p left. law.keeps_region c.settle.new.berth p told_new left };
      settled = c.in_err-settle.ensures.crash told;
      keeps = λ ws have. c.in_err-settle.ensures.log ws told have;
      done = c.in_err-settle.ensures.done;
      kept = c.in_err-settle.ensures.kept;
    } in
    failed_runs x o c.settle.new.self writes c.in_err-settle.field-0.0 a b has (subst (λ (s : Owing). Runs (watched_by x) s.owner s.log writes a) (sym c.self.view_is) runs)

pub returns-clause-settles : goal.returns-clause-settles
returns-clause-settles g c =
    let clock = (g.B.Berth.meaning c.settle.new.berth).clock in
    let x = c.args.seats.now in
    let o : Owing = record { log = c.self.inside.log; owner = c.self.inside.owner; count = c.self.inside.count } in
    let some : IsSome o.log.owed = subst (λ (s : Owing). IsSome s.log.owed) (sym c.self.view_is) c.requires.some in
    let noted = c.note.ensures.noted in
    subst (λ (s : Owing). SettlesOwed clock x s c.args.notes.now good c.note.new.seats (with_log o c.settle.new.self) c.note.new.notes) c.self.view_is
    (done_settles clock x c.note.new.seats o c.settle.new.self c.args.notes.now c.note.new.notes good noted.0 some refl c.in_ok-settle.ensures.done noted.1 noted.2)

pub returns-clause-runs : goal.returns-clause-runs
returns-clause-runs g c = λ writes told founded runs.
    let a = g.B.Berth.meaning c.args.berth.now in
    let b = g.B.Berth.meaning c.settle.new.berth in
    let x = c.args.seats.now in
    let o : Owing = record { log = c.self.inside.log; owner = c.self.inside.owner; count = c.self.inside.count } in
    let law = (g.met.B.Berth g.world.𝓛 g.world.𝓜 g.world.𝓡 ((λ s x. x), (λ x. x), (λ x. x), λ x. x)) in
    let told_new : IsTrue b.tells = subst IsTrue (sym c.settle.ensures.time.tells) told in
    let has : HasSettled o.log c.settle.new.self good a b = record {
      passes = c.settle.ensures.time;
      stands = record { reads = law.stands c.settle.new.berth told_new; regions = λ p left. law.keeps_region c.settle.new.berth p told_new left };
      settled = c.in_ok-settle.ensures.crash told;
      keeps = λ ws have. c.in_ok-settle.ensures.log ws told have;
      done = c.in_ok-settle.ensures.done;
      kept = c.in_ok-settle.ensures.kept;
    } in
    settled_runs x c.note.new.seats o c.settle.new.self writes tt a b has (subst (λ (s : Owing). Runs (watched_by x) s.owner s.log writes a) (sym c.self.view_is) runs)
    (λ more on. c.note.ensures.runs more founded c.in_ok-settle.ensures.done.0 on)
