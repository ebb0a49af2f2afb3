use Rattle.std.proofs.Common.{◌+◌, ◌≤◌, ◌++◌, ◌≡◌, length, true, false, sym, subst, ◌∙◌, rules, arith}
use Rattle.std.proofs.lemmas.List.{length-append}
use Rattle.leaf_deeds.specs.Moves.{ShutEnds}
use Rattle.leaf_deeds.specs.Steps.{Spends}
use Rattle.leaf_deeds.proofs.Fewer.{step_few, treated_few}
use Rattle.leaf_deeds.proofs.Drained.{SoFar, Stepped, all_shut, fewer_left, more_of, so_far_none, shut_ends, shut_more, shut_stopped}
use Rattle.leaf_deeds.proofs.Lives.{has_shut}
use Rattle.leaf_deeds.proofs.drain.shut_all.Goals as goal

pub loop-alloc-init : goal.loop-alloc-init
loop-alloc-init g c =
    let x = c.args.leaf.0 in
    let m = g.B.Berth.meaning c.args.leaf.1 in
    subst (λ notes. SoFar x m c.args.steps.now.left x m c.args.steps.now.left notes) (sym c.requires.none) (so_far_none x m c.args.steps.now.left)

pub returns-then-not-spend : goal.returns-then-not-spend
returns-then-not-spend g c =
    let meaning = g.B.Berth.meaning in
    let y = c.loop-alloc.leaf in
    let so_far = c.loop-alloc.invariant in
    let left = c.loop-alloc.steps.left in
    let left' = c.spend.new.self.left in
    let none : c.spend.result ≡ false = search rules in
    let spends = subst (λ taken. Spends left taken left') none c.spend.ensures in
    record {
      shuts = shut_stopped meaning c.args.leaf.0 (meaning c.args.leaf.1) c.args.steps.now.left left left' y c.loop-alloc.notes so_far (has_shut y.0 c.shuts.ensures.some) spends;
      few = omega (arith, so_far.few, treated_few y.0 c.shuts.ensures.within c.shuts.ensures.seated);
      time = so_far.far.passes;
      cause = tt;
    }

pub append-requires : goal.append-requires
append-requires g c =
    let y = c.loop-alloc.leaf in
    let so_far = c.loop-alloc.invariant in
    omega (arith, so_far.few, treated_few y.0 c.shuts.ensures.within c.shuts.ensures.seated, step_few y.0 c.step-step.new.notes c.step-step.result (has_shut y.0 c.shuts.ensures.some) c.step-step.ensures.step)

pub loop-alloc-smaller : goal.loop-alloc-smaller
loop-alloc-smaller g c =
    let meaning = g.B.Berth.meaning in
    let y = c.loop-alloc.leaf in
    let own = c.step-step.new.notes in
    let made = c.step-step.ensures in
    let stepped : Stepped meaning y.0 (meaning y.1) own c.step-step.result =
    record { one = made.step; crowds = made.crowds; made = made.made; crash = made.crash; region = made.region; reads = made.reads; time = made.time; cause = made.cause } in
    let here = subst (λ r. Stepped meaning y.0 (meaning y.1) own r) (more_of c.step-step.result c.in-Ok.more (sym c.in-Ok.is ∙ c.shuts_on.ensures)) stepped in
    fewer_left meaning y c.in-Ok.more own (has_shut y.0 c.shuts.ensures.some) here

pub loop-alloc-preserved : goal.loop-alloc-preserved
loop-alloc-preserved g c =
    let meaning = g.B.Berth.meaning in
    let y = c.loop-alloc.leaf in
    let own = c.step-step.new.notes in
    let made = c.step-step.ensures in
    let stepped : Stepped meaning y.0 (meaning y.1) own c.step-step.result =
    record { one = made.step; crowds = made.crowds; made = made.made; crash = made.crash; region = made.region; reads = made.reads; time = made.time; cause = made.cause } in
    let here = subst (λ r. Stepped meaning y.0 (meaning y.1) own r) (more_of c.step-step.result c.in-Ok.more (sym c.in-Ok.is ∙ c.shuts_on.ensures)) stepped in
    let left = c.loop-alloc.steps.left in
    let left' = c.spend.new.self.left in
    let some : c.spend.result ≡ true = search rules in
    let spends = subst (λ taken. Spends left taken left') some c.spend.ensures in
    subst (λ notes. SoFar c.args.leaf.0 (meaning c.args.leaf.1) c.args.steps.now.left c.in-Ok.more.0 (meaning c.in-Ok.more.1) left' notes) (sym c.append.ensures)
    (shut_more meaning c.args.leaf.0 (meaning c.args.leaf.1) c.args.steps.now.left left left' y c.loop-alloc.notes c.loop-alloc.invariant (has_shut y.0 c.shuts.ensures.some) spends own c.in-Ok.more here)

pub returns-in-Err : goal.returns-in-Err
returns-in-Err g c =
    let meaning = g.B.Berth.meaning in
    let y = c.loop-alloc.leaf in
    let so_far = c.loop-alloc.invariant in
    let own = c.step-step.new.notes in
    let made = c.step-step.ensures in
    let stepped : Stepped meaning y.0 (meaning y.1) own c.step-step.result =
    record { one = made.step; crowds = made.crowds; made = made.made; crash = made.crash; region = made.region; reads = made.reads; time = made.time; cause = made.cause } in
    let left = c.loop-alloc.steps.left in
    let left' = c.spend.new.self.left in
    let some : c.spend.result ≡ true = search rules in
    let spends = subst (λ taken. Spends left taken left') some c.spend.ensures in
    let shut = has_shut y.0 c.shuts.ensures.some in
    let few : length (c.loop-alloc.notes ++ own) ≤ 51 =
    omega (arith, length-append c.loop-alloc.notes own, so_far.few, treated_few y.0 c.shuts.ensures.within c.shuts.ensures.seated, step_few y.0 own c.step-step.result shut c.step-step.ensures.step) in
    subst (λ notes. ShutEnds meaning c.args.leaf.0 (meaning c.args.leaf.1) c.args.steps.now.left notes c.in-Err.shut left') (sym c.append.ensures)
    (shut_ends meaning c.args.leaf.0 (meaning c.args.leaf.1) c.args.steps.now.left left left' y c.loop-alloc.notes so_far shut spends own (all_shut y.0 c.shuts.ensures.closed) few
    c.step-step.result c.in-Err.shut (sym c.in-Err.is ∙ c.shuts_on.ensures) stepped)
