use Rattle.std.proofs.Common.{◌+◌, ℕ, refl, ap, sym, subst, ◌∙◌}
use Rattle.leaf_steward.specs.Making.{EachNoted, IsClosedNote}
use Rattle.leaf_moves.specs.Stage.{IsDown, IsPreparing, IsUp}
use Rattle.leaf_moves.specs.Steps.{KillMoves}
use Rattle.leaf_deeds.proofs.Carrying.{makes_keeps}
use Rattle.leaf_deeds.proofs.Lives.{has_shut}
use Rattle.leaf_deeds.proofs.Moved.{carries_still, kill_carries}
use Rattle.leaf_deeds.proofs.leaf.OneLeaf.kill.Goals as goal

pub returns-in-Down-clause-carries : goal.returns-in-Down-clause-carries
returns-in-Down-clause-carries g c = rw c.in-Down.is (carries_still (IsDown c.in-Down.down.0) (g.B.Berth.meaning c.in-Down.down.1) c.args.notes.now c.requires)

pub returns-in-Up-clause-moves : goal.returns-in-Up-clause-moves
returns-in-Up-clause-moves g c =
    rw c.in-Up.is (KillMoves.up c.in-Up.up.0 c.kill.result.0 refl c.kill.ensures.each (ap (λ b. (g.B.Berth.meaning b).held) c.kill.ensures.berth) refl refl)

pub returns-in-Up-clause-carries : goal.returns-in-Up-clause-carries
returns-in-Up-clause-carries g c =
    let x = c.in-Up.up in
    let says = c.kill.ensures in
    rw c.in-Up.is (kill_carries (IsUp x.0) c.kill.result.0 c.kill.new.notes g.B.Berth.meaning x.1 c.kill.result.1 says.berth says.made (λ base founded stands. says.crash stands.0 founded stands.1))

pub returns-in-Up-clause-keeps : goal.returns-in-Up-clause-keeps
returns-in-Up-clause-keeps g c = rw c.in-Up.is (makes_keeps _ _ c.in-Up.up.0.seated c.kill.new.notes c.kill.result.0 c.kill.ensures.made)

pub returns-in-Preparing-clause-moves : goal.returns-in-Preparing-clause-moves
returns-in-Preparing-clause-moves g c =
    let x = c.in-Preparing.leaf in
    let killed = c.kill-in-Preparing in
    let each = killed.ensures.each in
    let shut = has_shut x.0 c.shuts.ensures.some in
    rw c.in-Preparing.is (
    KillMoves.preparing x.0 killed.result.0 each.0 refl (ap (λ (n : ℕ). n + each.0) (sym shut) ∙ each.1) (subst (λ (n : ℕ). EachNoted IsClosedNote n each.0 killed.new.notes) shut each.2)
    (ap (λ b. (g.B.Berth.meaning b).held) killed.ensures.berth) refl refl
    )

pub returns-in-Preparing-clause-carries : goal.returns-in-Preparing-clause-carries
returns-in-Preparing-clause-carries g c =
    let x = c.in-Preparing.leaf in
    let killed = c.kill-in-Preparing in
    let says = killed.ensures in
    rw c.in-Preparing.is (kill_carries (IsPreparing x.0) killed.result.0 killed.new.notes g.B.Berth.meaning x.1 killed.result.1 says.berth says.made (λ base founded stands. says.crash stands.0 founded stands.1))

pub returns-in-Preparing-clause-keeps : goal.returns-in-Preparing-clause-keeps
returns-in-Preparing-clause-keeps g c =
    rw c.in-Preparing.is (makes_keeps _ _ c.in-Preparing.leaf.0.serving.seated c.kill-in-Preparing.new.notes c.kill-in-Preparing.result.0 c.kill-in-Preparing.ensures.made)
