use Rattle.std.proofs.Common.{map}
use Rattle.block_scan.proofs.Laid.{used_more}
use Rattle.block_scan.proofs.laying.used_slots.Goals as goal

pub loop-slot-preserved : goal.loop-slot-preserved
loop-slot-preserved c =
    used_more c.args.lists.now (map (λ u. u.1) c.loop-slot.used.items) (map (λ u. u.1) c.push_used.new.used.items) c.loop-slot.slot c.index-lists-slot.result c.as_slice.result.now
    c.loop-slot-test.true c.index-lists-slot.is c.as_slice.ensures.value c.loop-slot.invariant c.in_ok-push_used.ensures
