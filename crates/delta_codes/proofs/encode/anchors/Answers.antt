use Rattle.std.proofs.Common.{rules, ◌*◌, pos, w64, FitsSigned, slice_index_or, refl, ◌∙◌}
use Rattle.delta_codes.proofs.Slots.{anchors_more}
use Rattle.delta_codes.proofs.encode.anchors.Goals as goal

pub loop-i-preserved : goal.loop-i-preserved
loop-i-preserved c =
    let fits : FitsSigned w64 (slice_index_or c.args.values.now (64 * c.loop-i.i) (pos 0)) = search rules in
    c.in_ok-push.ensures.items ∙ anchors_more c.args.values.now c.loop-i.anchors.items c.loop-i.i _ fits c.loop-i.invariant refl
