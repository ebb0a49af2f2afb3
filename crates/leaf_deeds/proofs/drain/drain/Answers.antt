use Rattle.std.proofs.Common.{◌++◌, ◌+◌, sym, subst, arith}
use Rattle.berth_face.specs.Berth.{Passes}
use Rattle.berth_face.proofs.Moments.{passes_on}
use Rattle.printed_lines.specs.declared.line.Ending.TheVariants.{Stopped}
use Rattle.leaf_moves.specs.Stage.{IsDown, IsPreparing}
use Rattle.leaf_deeds.specs.Moves as move
use Rattle.leaf_deeds.specs.Moves.{Drains, berth_left}
use Rattle.leaf_deeds.proofs.Joined.{drain_copied, drain_stopped, drain_keeps, copy_few, kill_few}
use Rattle.leaf_deeds.proofs.drain.drain.Goals as goal

pub append-requires : goal.append-requires
append-requires g c =
    let meaning = g.B.Berth.meaning in
    let x = c.args.leaf.0 in
    let m = meaning c.args.leaf.1 in
    let copy = c.in-Ready.leaf in
    let left = c.shut_all.new.steps.left in
    let ready = subst (λ r. move.ShutsTables meaning x m c.args.stop c.shut_all.new.notes r left) c.in-Ready.is c.shut_all.ensures.shuts in
    let passes = subst (λ r. Passes m (meaning (berth_left r))) c.in-Ready.is c.shut_all.ensures.time in
    let down = c.copy_all-down.result in
    omega (
      arith,
      c.shut_all.ensures.few,
      copy_few x m (meaning copy.1) (meaning down.0.1) c.args.stop left c.shut_all.new.notes c.copy_all-down.new.notes copy.0 down.0.0 down.1 ready passes
          c.copy_all-down.ensures.rests c.shuts.ensures.seated c.copy_all-down.ensures.ends,
    )

pub append-requires-in-Stopped : goal.append-requires-in-Stopped
append-requires-in-Stopped g c =
    let meaning = g.B.Berth.meaning in
    let x = c.args.leaf.0 in
    let m = meaning c.args.leaf.1 in
    let y = c.in-Stopped.leaf in
    let stopped = subst (λ r. move.ShutsTables meaning x m c.args.stop c.shut_all.new.notes r c.shut_all.new.steps.left) c.in-Stopped.is c.shut_all.ensures.shuts in
    omega (
      arith,
      c.shut_all.ensures.few,
      kill_few x m (meaning y.1) c.args.stop c.shut_all.new.notes c.killed-down.new.notes y.0 c.killed-down.result.0 stopped (meaning y.1) (meaning c.killed-down.result.1)
          c.shuts.ensures.seated c.killed-down.ensures.killed,
    )

pub returns-in-Ready-clause-drains : goal.returns-in-Ready-clause-drains
returns-in-Ready-clause-drains g c =
    let meaning = g.B.Berth.meaning in
    let x = c.args.leaf.0 in
    let m = meaning c.args.leaf.1 in
    let copy = c.in-Ready.leaf in
    let left = c.shut_all.new.steps.left in
    let notes = c.shut_all.new.notes in
    let ready = subst (λ r. move.ShutsTables meaning x m c.args.stop notes r left) c.in-Ready.is c.shut_all.ensures.shuts in
    let passes = subst (λ r. Passes m (meaning (berth_left r))) c.in-Ready.is c.shut_all.ensures.time in
    let down = c.copy_all-down.result in
    subst (λ ns. Drains m (meaning down.0.1) (IsPreparing x) c.args.stop ns down.1 (IsDown down.0.0)) (sym c.append.ensures)
    (drain_copied x m (meaning copy.1) (meaning down.0.1) c.args.stop left notes c.copy_all-down.new.notes copy.0 down.0.0 down.1 ready passes c.copy_all-down.ensures.rests c.copy_all-down.ensures.ends)

pub returns-in-Ready-clause-time : goal.returns-in-Ready-clause-time
returns-in-Ready-clause-time g c =
    let meaning = g.B.Berth.meaning in
    let passes = subst (λ r. Passes (meaning c.args.leaf.1) (meaning (berth_left r))) c.in-Ready.is c.shut_all.ensures.time in
    passes_on (meaning c.args.leaf.1) (meaning c.in-Ready.leaf.1) (meaning c.copy_all-down.result.0.1) passes c.copy_all-down.ensures.time

pub returns-in-Ready-clause-keeps : goal.returns-in-Ready-clause-keeps
returns-in-Ready-clause-keeps g c = drain_keeps _ _ (IsPreparing c.args.leaf.0) c.args.stop _ _ (IsDown c.copy_all-down.result.0.0) (returns-in-Ready-clause-drains g c)

pub returns-in-Stopped-clause-drains : goal.returns-in-Stopped-clause-drains
returns-in-Stopped-clause-drains g c =
    let meaning = g.B.Berth.meaning in
    let x = c.args.leaf.0 in
    let m = meaning c.args.leaf.1 in
    let notes = c.shut_all.new.notes in
    let stopped = subst (λ r. move.ShutsTables meaning x m c.args.stop notes r c.shut_all.new.steps.left) c.in-Stopped.is c.shut_all.ensures.shuts in
    let down = c.killed-down.result in
    let last = c.killed-down.new.notes in
    let y = c.in-Stopped.leaf in
    let here = subst (λ b. move.ShuttingIsKilled y.0 down.0 last (meaning y.1) (meaning b)) c.killed-down.ensures.berth c.killed-down.ensures.killed in
    subst (λ ns. Drains m (meaning down.1) (IsPreparing x) c.args.stop ns Stopped (IsDown down.0)) (sym c.append-in-Stopped.ensures)
    (subst (λ b. Drains m (meaning b) (IsPreparing x) c.args.stop (notes ++ last) Stopped (IsDown down.0)) (sym c.killed-down.ensures.berth)
    (drain_stopped x m (meaning y.1) c.args.stop notes last y.0 down.0 stopped here))

pub returns-in-Stopped-clause-keeps : goal.returns-in-Stopped-clause-keeps
returns-in-Stopped-clause-keeps g c = drain_keeps _ _ (IsPreparing c.args.leaf.0) c.args.stop _ _ (IsDown c.killed-down.result.0) (returns-in-Stopped-clause-drains g c)

pub returns-in-Halted-clause-drains : goal.returns-in-Halted-clause-drains
returns-in-Halted-clause-drains g c =
    let meaning = g.B.Berth.meaning in
    subst (λ r. move.ShutsTables meaning c.args.leaf.0 (meaning c.args.leaf.1) c.args.stop c.shut_all.new.notes r c.shut_all.new.steps.left) c.in-Halted.is c.shut_all.ensures.shuts

pub returns-in-Halted-clause-keeps : goal.returns-in-Halted-clause-keeps
returns-in-Halted-clause-keeps g c = drain_keeps _ _ (IsPreparing c.args.leaf.0) c.args.stop _ _ (IsPreparing c.in-Halted.leaf.0) (returns-in-Halted-clause-drains g c)

pub returns-in-Starved-clause-drains : goal.returns-in-Starved-clause-drains
returns-in-Starved-clause-drains g c =
    let meaning = g.B.Berth.meaning in
    subst (λ r. move.ShutsTables meaning c.args.leaf.0 (meaning c.args.leaf.1) c.args.stop c.shut_all.new.notes r c.shut_all.new.steps.left) c.in-Starved.is c.shut_all.ensures.shuts

pub returns-in-Starved-clause-keeps : goal.returns-in-Starved-clause-keeps
returns-in-Starved-clause-keeps g c = drain_keeps _ _ (IsPreparing c.args.leaf.0) c.args.stop _ _ (IsPreparing c.in-Starved.leaf.0) (returns-in-Starved-clause-drains g c)

pub returns-in-Roomless-clause-drains : goal.returns-in-Roomless-clause-drains
returns-in-Roomless-clause-drains g c =
    let meaning = g.B.Berth.meaning in
    subst (λ r. move.ShutsTables meaning c.args.leaf.0 (meaning c.args.leaf.1) c.args.stop c.shut_all.new.notes r c.shut_all.new.steps.left) c.in-Roomless.is c.shut_all.ensures.shuts

pub returns-in-Roomless-clause-keeps : goal.returns-in-Roomless-clause-keeps
returns-in-Roomless-clause-keeps g c = drain_keeps _ _ (IsPreparing c.args.leaf.0) c.args.stop _ _ (IsPreparing c.in-Roomless.leaf.0) (returns-in-Roomless-clause-drains g c)
