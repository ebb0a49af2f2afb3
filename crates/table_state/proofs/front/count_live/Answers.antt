use Rattle.std.proofs.Common.{◌+◌, to_z, of_z, ℤ, length, drop, ap, ◌∙◌}
use Rattle.std.specs.Int.{w64}
use Rattle.std.proofs.lemmas.Int.{to_z-of_z}
use Rattle.table_state.specs.Stored.{sealed_rows}
use Rattle.table_state.proofs.Fronts.{count_end, count_next, uncut}
use Rattle.table_state.proofs.front.count_live.Goals as goal

pub loop-block-preserved : goal.loop-block-preserved
loop-block-preserved c =
    let h = to_z w64 (of_z w64 c.args.horizon) in let blocks = c.args.blocks.now in let i = c.loop-block.block-index in
    record {
      counted = count_next blocks i c.block-item.result c.loop-block.cut h c.loop-block-test.true c.block-item.is c.loop-block.invariant.inside
          c.loop-block.live c.from-live.result (length (sealed_rows blocks c.args.skip h)) c.loop-block.invariant.counted (c.from-live.ensures ∙ c.count_live.ensures);
      inside = uncut (drop (i + 1) blocks);
    }

pub returns : goal.returns
returns c =
    let h = to_z w64 (of_z w64 c.args.horizon) in
    count_end c.args.blocks.now c.loop-block.block-index c.loop-block.cut h c.loop-block.live (length (sealed_rows c.args.blocks.now c.args.skip h)) c.loop-block-test.false c.loop-block.invariant.counted
    ∙ ap (λ (t : ℤ). length (sealed_rows c.args.blocks.now c.args.skip t)) (to_z-of_z w64 c.args.horizon c.ranges.horizon)
