use Rattle.std.proofs.Common.{subst, arith, to_z, of_z}
use Rattle.std.specs.Int.{w64}
use Rattle.std.proofs.lemmas.Int.{to_z-of_z}
use Rattle.block_scan.specs.Seen.{StandFor}
use Rattle.block_scan.proofs.Ranges.{steps_met}
use Rattle.block_scan.proofs.Scanned.{all_seen, cut_inside, none_seen, one_apart, one_seen, steps_inside}
use Rattle.block_scan.proofs.block.read_blocks.Goals as goal

pub loop-block-init : goal.loop-block-init
loop-block-init g c =
    none_seen c.args.query.now c.args.blocks.now c.args.skip (to_z w64 (of_z w64 c.args.horizon)) c.args.steps.now c.new-views.result.items c.new-views.ensures.items c.requires.skip

pub loop-block-preserved-then-is_apart : goal.loop-block-preserved-then-is_apart
loop-block-preserved-then-is_apart g c =
    let h = to_z w64 (of_z w64 c.args.horizon) in
    one_apart c.args.query.now c.args.blocks.now c.args.skip h c.args.steps.now c.loop-block.block-index c.loop-block.cut c.loop-block.steps c.loop-block.views.items c.block-item.result
    c.loop-block.invariant c.loop-block-test.true c.block-item.is (c.is_apart.ensures.none c.if-is_apart.true c.loop-block.cut h)

pub read_block-requires : goal.read_block-requires
read_block-requires g c =
    record {
      skip = cut_inside c.args.query.now c.args.blocks.now c.args.skip (to_z w64 (of_z w64 c.args.horizon)) c.args.steps.now c.loop-block.block-index c.loop-block.cut c.loop-block.steps c.loop-block.views.items c.block-item.result
          c.loop-block.invariant c.loop-block-test.true c.block-item.is;
    }

pub returns-in_err-read_block-clause-steps : goal.returns-in_err-read_block-clause-steps
returns-in_err-read_block-clause-steps g c =
    let count = steps_met c.args.query.now c.block-item.result (c.is_apart.ensures.met c.if-is_apart.false) in
    let steps = steps_inside c.args.query.now c.args.blocks.now c.args.skip (to_z w64 (of_z w64 c.args.horizon)) c.args.steps.now c.loop-block.block-index c.loop-block.cut c.loop-block.steps c.loop-block.views.items c.block-item.result
    c.loop-block.invariant c.loop-block-test.true c.block-item.is c.read_block.new.steps (omega (arith, count, c.read_block.ensures.steps)) in
    omega (arith, steps)

pub returns-in_err-push-clause-steps : goal.returns-in_err-push-clause-steps
returns-in_err-push-clause-steps g c =
    let count = steps_met c.args.query.now c.block-item.result (c.is_apart.ensures.met c.if-is_apart.false) in
    let steps = steps_inside c.args.query.now c.args.blocks.now c.args.skip (to_z w64 (of_z w64 c.args.horizon)) c.args.steps.now c.loop-block.block-index c.loop-block.cut c.loop-block.steps c.loop-block.views.items c.block-item.result
    c.loop-block.invariant c.loop-block-test.true c.block-item.is c.read_block.new.steps (omega (arith, count, c.read_block.ensures.steps)) in
    omega (arith, steps)

pub loop-block-preserved : goal.loop-block-preserved
loop-block-preserved g c =
    let count = steps_met c.args.query.now c.block-item.result (c.is_apart.ensures.met c.if-is_apart.false) in
    one_seen c.args.query.now c.args.blocks.now c.args.skip (to_z w64 (of_z w64 c.args.horizon)) c.args.steps.now c.loop-block.block-index c.loop-block.cut c.loop-block.steps c.loop-block.views.items c.block-item.result
    c.loop-block.invariant c.loop-block-test.true c.block-item.is c.in_ok-read_block.field-0 c.push.new.self.items c.read_block.new.steps c.is_block.ensures c.in_ok-read_block.ensures.view
    c.in_ok-push.ensures.items (omega (arith, count, c.read_block.ensures.steps))

pub returns-clause-views : goal.returns-clause-views
returns-clause-views g c =
    subst (λ h. StandFor c.args.query.now c.args.blocks.now c.args.skip h c.loop-block.views.items) (to_z-of_z w64 c.args.horizon c.ranges.horizon)
    (all_seen c.args.query.now c.args.blocks.now c.args.skip (to_z w64 (of_z w64 c.args.horizon)) c.args.steps.now c.loop-block.block-index c.loop-block.cut c.loop-block.steps c.loop-block.views.items c.loop-block.invariant c.loop-block-test.false)

pub returns-clause-steps : goal.returns-clause-steps
returns-clause-steps g c = let counted = c.loop-block.invariant.counted in omega (arith, counted)
