use Rattle.std.proofs.Common.{length, take, ap, ◌∙◌, arith}
use Rattle.std.specs.List.{flat_map}
use Rattle.leaf_model.specs.Groups.{groups}
use Rattle.group_table.proofs.Within.{joined_fit}
use Rattle.standing_query.specs.Spread.{rows_shown}
use Rattle.standing_query.proofs.Telling.{next_count, next_rows, next_within}
use Rattle.standing_query.proofs.told.told_parts.Goals as goal

pub told_part-requires : goal.told_part-requires
told_part-requires c =
    let count = next_count c.args.names.now c.args.parts.now c.loop-part.part-index c.part-item.result c.loop-part-test.true c.part-item.is in
    omega (arith, count, c.requires)

pub merge-requires : goal.merge-requires
merge-requires c =
    let count = next_count c.args.names.now c.args.parts.now c.loop-part.part-index c.part-item.result c.loop-part-test.true c.part-item.is in
    joined_fit (length (flat_map (rows_shown c.args.names.now) (take c.loop-part.part-index c.args.parts.now))) (length (rows_shown c.args.names.now c.part-item.result))
    c.loop-part.all c.in_ok-more.more (omega (arith, count, c.requires)) c.loop-part.invariant.within c.in_ok-more.ensures.within

pub loop-part-preserved : goal.loop-part-preserved
loop-part-preserved c =
    let so_far = flat_map (rows_shown c.args.names.now) (take c.loop-part.part-index c.args.parts.now) in
    let more = rows_shown c.args.names.now c.part-item.result in
    record {
      value =
          c.in_ok-all.ensures.both c.args.query.now so_far more c.loop-part.invariant.value c.in_ok-more.ensures.value
          ∙ ap (groups c.args.query.now) (next_rows c.args.names.now c.args.parts.now c.loop-part.part-index c.part-item.result c.loop-part-test.true c.part-item.is);
      within =
          next_within c.args.names.now c.args.parts.now c.loop-part.part-index c.part-item.result c.loop-part-test.true c.part-item.is c.in_ok-all.all
          (c.in_ok-all.ensures.within (length so_far) (length more) c.loop-part.invariant.within c.in_ok-more.ensures.within);
    }
