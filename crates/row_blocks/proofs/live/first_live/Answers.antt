use Rattle.std.proofs.Common.{◌+◌, ◌-◌, ◌/◌, arith, of_z, subst, to_z}
use Rattle.std.specs.Int.{w64}
use Rattle.std.proofs.lemmas.Int.{to_z-of_z}
use Rattle.row_blocks.specs.Ordered.{IsFirstLive}
use Rattle.row_blocks.proofs.FirstLive.{all_parted, late_half, old_half}
use Rattle.row_blocks.proofs.live.first_live.Goals as goal

pub loop-first-preserved-then-is_live : goal.loop-first-preserved-then-is_live
loop-first-preserved-then-is_live c =
    let first = c.loop-first.first in let past = c.loop-first.end in
    late_half c.args.block.now (to_z w64 (of_z w64 c.args.horizon)) c.args.skip first past (first + (past - first) / 2) c.is_live.result c.requires.order c.loop-first.invariant
    (omega arith) (omega (arith, c.loop-first-test.true)) c.is_live.ensures c.if-is_live.true

pub loop-first-preserved : goal.loop-first-preserved
loop-first-preserved c =
    let first = c.loop-first.first in let past = c.loop-first.end in
    old_half c.args.block.now (to_z w64 (of_z w64 c.args.horizon)) c.args.skip first past (first + (past - first) / 2) c.is_live.result c.requires.order c.loop-first.invariant
    (omega arith) (omega (arith, c.loop-first-test.true)) c.is_live.ensures c.if-is_live.false

pub returns : goal.returns
returns c =
    let first = c.loop-first.first in
    subst (λ h. IsFirstLive c.args.skip first h c.args.block.now) (to_z-of_z w64 c.args.horizon c.ranges.horizon)
    (all_parted c.args.block.now (to_z w64 (of_z w64 c.args.horizon)) c.args.skip first c.loop-first.end c.loop-first.invariant c.loop-first-test.false)
