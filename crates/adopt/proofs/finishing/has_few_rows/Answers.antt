use Rattle.std.proofs.Common.{◌+◌, to_z, of_z, ℤ, drop, ap, refl, ◌∙◌, arith}
use Rattle.std.specs.Int.{w64}
use Rattle.std.proofs.lemmas.Bool.{false≢true}
use Rattle.std.proofs.lemmas.Int.{to_z-of_z}
use Rattle.adopt.specs.Finishing.{live_count}
use Rattle.adopt.proofs.Counting.{count_end, count_next, uncut}
use Rattle.adopt.proofs.finishing.has_few_rows.Goals as goal

pub returns-then-live-gt-MOST_ROWS : goal.returns-then-live-gt-MOST_ROWS
returns-then-live-gt-MOST_ROWS c =
    let h = to_z w64 (of_z w64 c.args.horizon) in let blocks = c.args.blocks.now in let i = c.loop-block.block-index in
    let all = count_next blocks i c.block-item.result c.loop-block.cut h c.loop-block-test.true c.block-item.is c.loop-block.invariant.inside
    c.loop-block.live c.from-live.result (live_count blocks c.args.skip h) c.loop-block.invariant.counted (c.from-live.ensures ∙ c.count_live.ensures) in
    let same = ap (λ (t : ℤ). live_count blocks c.args.skip t) (to_z-of_z w64 c.args.horizon c.ranges.horizon) in
    let many = c.if-live-gt-MOST_ROWS.true in
    (λ wrong. absurd (false≢true wrong), λ few. absurd (omega (arith, all, same, many, few)))

pub loop-block-preserved : goal.loop-block-preserved
loop-block-preserved c =
    let h = to_z w64 (of_z w64 c.args.horizon) in let blocks = c.args.blocks.now in let i = c.loop-block.block-index in
    let few = c.if-live-gt-MOST_ROWS.false in
    record {
      counted = count_next blocks i c.block-item.result c.loop-block.cut h c.loop-block-test.true c.block-item.is c.loop-block.invariant.inside
          c.loop-block.live c.from-live.result (live_count blocks c.args.skip h) c.loop-block.invariant.counted (c.from-live.ensures ∙ c.count_live.ensures);
      inside = uncut (drop (i + 1) blocks);
      few = omega (arith, few);
    }

pub returns : goal.returns
returns c =
    let h = to_z w64 (of_z w64 c.args.horizon) in let blocks = c.args.blocks.now in
    let all = count_end blocks c.loop-block.block-index c.loop-block.cut h c.loop-block.live (live_count blocks c.args.skip h) c.loop-block-test.false c.loop-block.invariant.counted in
    let same = ap (λ (t : ℤ). live_count blocks c.args.skip t) (to_z-of_z w64 c.args.horizon c.ranges.horizon) in
    let few = c.loop-block.invariant.few in
    (λ right. omega (arith, all, same, few), λ few. refl)
