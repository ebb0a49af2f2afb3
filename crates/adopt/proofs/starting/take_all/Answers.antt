use Rattle.std.proofs.Common.{ℕ, List, Option, Result, Err, IsTrue, sym, ap, subst, ◌∙◌, arith}
use Rattle.std.proofs.lemmas.Result.{err_from_is_err_and}
use Rattle.region_reading.specs.declared.fault.AdoptFault.{AdoptFault}
use Rattle.adopt.specs.declared.found.ImageTables.{ImageTables}
use Rattle.adopt.specs.Adopting.{Adopting, KeepsOn}
use Rattle.adopt.specs.Starting.{TakesAll}
use Rattle.adopt.proofs.Started.{all_drained, all_made, disks_on, moments_on, more_taken, none_made, none_taken, step_fails}
use Rattle.adopt.proofs.starting.take_all.Goals as goal

pub loop-more-init : goal.loop-more-init
loop-more-init g c =
    let laws = g.met.B.Berth g.world.𝓛 g.world.𝓜 g.world.𝓡 ((λ s x. x), (λ x. x), (λ x. x), λ x. x) in
    none_taken c.args.image (g.B.Berth.meaning c.args.berth.now) (λ told p left. laws.keeps_region c.args.berth.now p told left)

pub loop-more-smaller : goal.loop-more-smaller
loop-more-smaller g c =
    let kept = subst (KeepsOn c.loop-more.left) c.in-More.is c.in_ok-more.ensures.kept in
    omega (arith, kept.1)

pub loop-more-preserved : goal.loop-more-preserved
loop-more-preserved g c =
    more_taken c.args.image c.loop-more.left (g.B.Berth.meaning c.args.berth.now) (g.B.Berth.meaning c.loop-more.berth) (g.B.Berth.meaning c.step.new.berth) c.loop-more.invariant
    c.in-More.more c.in_ok-more.field-0 c.in-More.is c.in_ok-more.ensures.kept c.in_ok-more.ensures.told c.step.ensures.moments c.step.ensures.disk c.step.ensures.disks c.step.ensures.time c.step.ensures.reads

pub returns-in_err-more-clause-told : goal.returns-in_err-more-clause-told
returns-in_err-more-clause-told g c =
    let old = g.B.Berth.meaning c.args.berth.now in
    let new = g.B.Berth.meaning c.step.new.berth in
    let p = err_from_is_err_and c.from_residual.result c.from_residual.ensures.1 in
    let is = p.1 ∙ ap Err p.2 in
    subst (λ (r : Result (Option ImageTables) AdoptFault). (region : List ℕ) → IsTrue old.tells → Adopting region c.args.image old.held.region → TakesAll region new.held.region r) (sym is)
    (step_fails c.args.image c.loop-more.left old (g.B.Berth.meaning c.loop-more.berth) new c.loop-more.invariant c.in_err-more.field-0.0 c.in_err-more.ensures.told)

pub returns-in_err-more-clause-disks : goal.returns-in_err-more-clause-disks
returns-in_err-more-clause-disks g c =
    disks_on c.args.image c.loop-more.left (g.B.Berth.meaning c.args.berth.now) (g.B.Berth.meaning c.loop-more.berth) (g.B.Berth.meaning c.step.new.berth) c.loop-more.invariant c.step.ensures.disks

pub returns-in_err-more-clause-moments : goal.returns-in_err-more-clause-moments
returns-in_err-more-clause-moments g c =
    moments_on c.args.image c.loop-more.left (g.B.Berth.meaning c.args.berth.now) (g.B.Berth.meaning c.loop-more.berth) (g.B.Berth.meaning c.step.new.berth) c.loop-more.invariant c.step.ensures.moments

pub returns-in-NoImage-clause-told : goal.returns-in-NoImage-clause-told
returns-in-NoImage-clause-told g c =
    none_made c.args.image c.loop-more.left (g.B.Berth.meaning c.args.berth.now) (g.B.Berth.meaning c.loop-more.berth) (g.B.Berth.meaning c.step.new.berth) c.loop-more.invariant
    c.in_ok-more.field-0 c.in-NoImage.is c.in_ok-more.ensures.told

pub returns-in-NoImage-clause-disks : goal.returns-in-NoImage-clause-disks
returns-in-NoImage-clause-disks g c =
    disks_on c.args.image c.loop-more.left (g.B.Berth.meaning c.args.berth.now) (g.B.Berth.meaning c.loop-more.berth) (g.B.Berth.meaning c.step.new.berth) c.loop-more.invariant c.step.ensures.disks

pub returns-in-NoImage-clause-moments : goal.returns-in-NoImage-clause-moments
returns-in-NoImage-clause-moments g c =
    moments_on c.args.image c.loop-more.left (g.B.Berth.meaning c.args.berth.now) (g.B.Berth.meaning c.loop-more.berth) (g.B.Berth.meaning c.step.new.berth) c.loop-more.invariant c.step.ensures.moments

pub returns-in-Finished-clause-told : goal.returns-in-Finished-clause-told
returns-in-Finished-clause-told g c =
    all_made c.args.image c.loop-more.left (g.B.Berth.meaning c.args.berth.now) (g.B.Berth.meaning c.loop-more.berth) (g.B.Berth.meaning c.step.new.berth) c.loop-more.invariant
    (record { tables = c.in-Finished.tables; log_end = c.in-Finished.log_end }) c.in_ok-more.field-0 c.in-Finished.is c.in_ok-more.ensures.told

pub returns-in-Finished-clause-drained : goal.returns-in-Finished-clause-drained
returns-in-Finished-clause-drained g c =
    all_drained c.args.image c.loop-more.left (g.B.Berth.meaning c.args.berth.now) (g.B.Berth.meaning c.loop-more.berth) (g.B.Berth.meaning c.step.new.berth) c.loop-more.invariant
    (record { tables = c.in-Finished.tables; log_end = c.in-Finished.log_end }) c.in_ok-more.field-0 c.in-Finished.is c.in_ok-more.ensures.adopted

pub returns-in-Finished-clause-disks : goal.returns-in-Finished-clause-disks
returns-in-Finished-clause-disks g c =
    disks_on c.args.image c.loop-more.left (g.B.Berth.meaning c.args.berth.now) (g.B.Berth.meaning c.loop-more.berth) (g.B.Berth.meaning c.step.new.berth) c.loop-more.invariant c.step.ensures.disks

pub returns-in-Finished-clause-moments : goal.returns-in-Finished-clause-moments
returns-in-Finished-clause-moments g c =
    moments_on c.args.image c.loop-more.left (g.B.Berth.meaning c.args.berth.now) (g.B.Berth.meaning c.loop-more.berth) (g.B.Berth.meaning c.step.new.berth) c.loop-more.invariant c.step.ensures.moments
