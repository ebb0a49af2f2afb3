use Rattle.std.proofs.Common.{◌≡◌, Ok, true, false, List, ℕ, ap, sym, subst, ◌∙◌, rules}
use Rattle.leaf_model.specs.declared.writes.Write.{Write}
use Rattle.crash_states.specs.Standing.{Copies}
use Rattle.leaf_steward.specs.Seated.{AreFounded, watched_by}
use Rattle.leaf_machine.specs.Copies.{IsCopyStep}
use Rattle.leaf_machine.specs.States.{RestsOn}
use Rattle.leaf_deeds.specs.Steps.{Spends}
use Rattle.leaf_deeds.specs.Moves.{CopyDone}
use Rattle.leaf_deeds.proofs.Copied.{CopySteps, copied_more, copied_none, copy_done, copy_failed, copy_fewer, copy_stopped}
use Rattle.leaf_deeds.proofs.drain.copy_all.Goals as goal

pub loop-leaf-init : goal.loop-leaf-init
loop-leaf-init g c = copied_none c.args.leaf.0 (g.B.Berth.meaning c.args.leaf.1) c.args.steps.now.left c.args.notes.now c.requires.none

pub returns-then-not-spend : goal.returns-then-not-spend
returns-then-not-spend g c =
    let meaning = g.B.Berth.meaning in
    let leaf = c.loop-leaf.leaf in
    let seats = leaf.0.seated in
    let left = c.loop-leaf.steps.left in
    let left' = c.spend.new.self.left in
    let none : c.spend.result ≡ false = search rules in
    let rests = subst (λ down. (writes : List ℕ → List Write) → AreFounded seats → Copies (watched_by seats) leaf.0.drain writes (meaning leaf.1) → RestsOn seats down.0 (meaning leaf.1) (meaning down.1))
    {y = (leaf.0.seated, leaf.1)} c.kill.ensures.leaf c.kill.ensures.crash in
    subst (λ down. CopyDone c.args.leaf.0 c.args.steps.now.left (meaning c.args.leaf.1) (meaning down.1) c.loop-leaf.notes _ down.0) {x = (leaf.0.seated, leaf.1)} (sym {b = (leaf.0.seated, leaf.1)} c.kill.ensures.leaf)
    (copy_stopped c.args.leaf.0 (meaning c.args.leaf.1) c.args.steps.now.left left left' leaf.0 (meaning leaf.1) c.loop-leaf.notes c.loop-leaf.invariant
    (subst (λ taken. Spends left taken left') none c.spend.ensures) rests)

pub loop-leaf-preserved : goal.loop-leaf-preserved
loop-leaf-preserved g c =
    let meaning = g.B.Berth.meaning in
    let leaf = c.loop-leaf.leaf in
    let left = c.loop-leaf.steps.left in
    let left' = c.spend.new.self.left in
    let notes = c.step.new.notes in
    let made = c.step.ensures in
    let some : c.spend.result ≡ true = search rules in
    let steps : CopySteps meaning leaf.0 (meaning leaf.1) notes c.step.result =
    record { one = made.step; made = made.made; crash = made.crash; region = made.region; reads = made.reads; time = made.time; cause = made.cause } in
    copied_more c.args.leaf.0 (meaning c.args.leaf.1) c.args.steps.now.left left left' leaf.0 (meaning leaf.1) c.loop-leaf.notes c.loop-leaf.invariant meaning notes
    (subst (λ taken. Spends left taken left') some c.spend.ensures) c.in-Ok-More.more
    (subst (λ r. CopySteps meaning leaf.0 (meaning leaf.1) notes r) (c.in-Ok-More.is ∙ ap (λ s. Ok s) c.in-Ok-More.field-0-is) steps)

pub loop-leaf-smaller : goal.loop-leaf-smaller
loop-leaf-smaller g c =
    let leaf = c.loop-leaf.leaf in
    let notes = c.step.new.notes in
    copy_fewer leaf.0 notes c.in-Ok-More.more (subst (λ r. IsCopyStep leaf.0 notes r) (c.in-Ok-More.is ∙ ap (λ s. Ok s) c.in-Ok-More.field-0-is) c.step.ensures.step)

pub returns-in-Ok-Finished : goal.returns-in-Ok-Finished
returns-in-Ok-Finished g c =
    let meaning = g.B.Berth.meaning in
    let leaf = c.loop-leaf.leaf in
    let left = c.loop-leaf.steps.left in
    let left' = c.spend.new.self.left in
    let notes = c.step.new.notes in
    let made = c.step.ensures in
    let some : c.spend.result ≡ true = search rules in
    let steps : CopySteps meaning leaf.0 (meaning leaf.1) notes c.step.result =
    record { one = made.step; made = made.made; crash = made.crash; region = made.region; reads = made.reads; time = made.time; cause = made.cause } in
    copy_done c.args.leaf.0 (meaning c.args.leaf.1) c.args.steps.now.left left left' leaf.0 (meaning leaf.1) c.loop-leaf.notes c.loop-leaf.invariant meaning notes
    (subst (λ taken. Spends left taken left') some c.spend.ensures) c.in-Ok-Finished.down
    (subst (λ r. CopySteps meaning leaf.0 (meaning leaf.1) notes r) (c.in-Ok-Finished.is ∙ ap (λ s. Ok s) c.in-Ok-Finished.field-0-is) steps)

pub returns-in-Err : goal.returns-in-Err
returns-in-Err g c =
    let meaning = g.B.Berth.meaning in
    let leaf = c.loop-leaf.leaf in
    let left = c.loop-leaf.steps.left in
    let left' = c.spend.new.self.left in
    let notes = c.step.new.notes in
    let made = c.step.ensures in
    let some : c.spend.result ≡ true = search rules in
    let steps : CopySteps meaning leaf.0 (meaning leaf.1) notes c.step.result =
    record { one = made.step; made = made.made; crash = made.crash; region = made.region; reads = made.reads; time = made.time; cause = made.cause } in
    copy_failed c.args.leaf.0 (meaning c.args.leaf.1) c.args.steps.now.left left left' leaf.0 (meaning leaf.1) c.loop-leaf.notes c.loop-leaf.invariant meaning notes
    (subst (λ taken. Spends left taken left') some c.spend.ensures) c.in-Err.down c.in-Err._fault
    (subst (λ r. CopySteps meaning leaf.0 (meaning leaf.1) notes r) c.in-Err.is steps)
