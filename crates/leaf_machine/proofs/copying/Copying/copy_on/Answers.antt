use Rattle.std.specs.Prelude.{◌≢◌, Err, Ok}
use Rattle.std.proofs.Common.{rules, subst}
use Rattle.drain_copy.specs.declared.step.DrainStep.{DrainStep}
use Rattle.drain_copy.specs.declared.step.DrainStep.TheVariants.{Finished}
use Rattle.leaf_machine.specs.declared.copying.Copied.TheVariants as copied
use Rattle.leaf_machine.specs.States.{Copying}
use Rattle.leaf_machine.specs.Copies.{CopySteps, DrainMade}
use Rattle.leaf_machine.proofs.CopyStepping.{failed_is, failed_steps, last_is, last_steps, more_is, more_steps}
use Rattle.leaf_machine.proofs.copying.Copying.copy_on.Goals as goal

-- ---- the last step

pub invariant_of-result : goal.invariant_of-result
invariant_of-result g c =
    let x : Copying = record { seated = c.self.inside.seats; drain = c.self.inside.drain } in
    let m = g.B.Berth.meaning c.self.inside.berth in
    let n = g.B.Berth.meaning c.drain_on.new.berth in
    let made = subst (λ (s : DrainStep). DrainMade x.drain c.drain_on.new.drain (Ok s) m n) c.in-Ok-Finished.field-0-is c.in-Ok-Finished.ensures in
    last_is g.B.Berth.meaning x c.drain_on.new.drain c.drain_on.new.berth m c.hand_over.new.notes c.self.invariant c.hand_over.new.self c.sits.ensures made c.hand_over.ensures.made c.hand_over.ensures.each
    c.hand_over.ensures.shut

pub returns-in-Ok-Finished : goal.returns-in-Ok-Finished
returns-in-Ok-Finished g c =
    let x : Copying = record { seated = c.self.inside.seats; drain = c.self.inside.drain } in
    let m = g.B.Berth.meaning c.self.inside.berth in
    let n = g.B.Berth.meaning c.drain_on.new.berth in
    let made = subst (λ (s : DrainStep). DrainMade x.drain c.drain_on.new.drain (Ok s) m n) c.in-Ok-Finished.field-0-is c.in-Ok-Finished.ensures in
    subst (λ v. CopySteps g.B.Berth.meaning v.0 (g.B.Berth.meaning v.1) c.hand_over.new.notes (Ok (copied.Finished (c.hand_over.new.self, c.drain_on.new.berth)))) c.self.view_is
    (last_steps g.B.Berth.meaning x c.drain_on.new.drain c.drain_on.new.berth m c.hand_over.new.notes c.self.invariant c.hand_over.new.self c.sits.ensures made c.hand_over.ensures.made c.hand_over.ensures.each)

-- ---- a step that is not the last

pub invariant_of-result-in-Ok-Begun : goal.invariant_of-result-in-Ok-Begun
invariant_of-result-in-Ok-Begun g c =
    let x : Copying = record { seated = c.self.inside.seats; drain = c.self.inside.drain } in
    let more : c.in-Ok-Begun.field-0 ≢ Finished = search rules in
    more_is g.B.Berth.meaning x c.drain_on.new.drain c.drain_on.new.berth (g.B.Berth.meaning c.self.inside.berth) c.clear.new.self c.self.invariant c.in-Ok-Begun.field-0 more c.in-Ok-Begun.ensures

pub returns-in-Ok-Begun : goal.returns-in-Ok-Begun
returns-in-Ok-Begun g c =
    let x : Copying = record { seated = c.self.inside.seats; drain = c.self.inside.drain } in
    let more : c.in-Ok-Begun.field-0 ≢ Finished = search rules in
    subst (λ v. CopySteps g.B.Berth.meaning v.0 (g.B.Berth.meaning v.1) c.clear.new.self (Ok (copied.More (record { seated = x.seated; drain = c.drain_on.new.drain }, c.drain_on.new.berth)))) c.self.view_is
    (more_steps g.B.Berth.meaning x c.drain_on.new.drain c.drain_on.new.berth (g.B.Berth.meaning c.self.inside.berth) c.clear.new.self c.self.invariant c.in-Ok-Begun.field-0 more c.in-Ok-Begun.ensures c.clear.ensures)

-- ---- a step that failed

pub invariant_of-result-in-Err : goal.invariant_of-result-in-Err
invariant_of-result-in-Err g c =
    let x : Copying = record { seated = c.self.inside.seats; drain = c.self.inside.drain } in
    failed_is g.B.Berth.meaning x c.drain_on.new.drain c.drain_on.new.berth (g.B.Berth.meaning c.self.inside.berth) c.clear.new.self c.self.invariant c.in-Err.fault c.in-Err.ensures

pub returns : goal.returns
returns g c =
    let x : Copying = record { seated = c.self.inside.seats; drain = c.self.inside.drain } in
    subst (λ v. CopySteps g.B.Berth.meaning v.0 (g.B.Berth.meaning v.1) c.clear.new.self (Err ((x.seated, c.drain_on.new.berth), c.in-Err.fault))) c.self.view_is
    (failed_steps g.B.Berth.meaning x c.drain_on.new.drain c.drain_on.new.berth (g.B.Berth.meaning c.self.inside.berth) c.clear.new.self c.self.invariant c.in-Err.fault c.in-Err.ensures c.clear.ensures)
