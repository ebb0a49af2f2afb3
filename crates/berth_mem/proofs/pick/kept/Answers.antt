use Rattle.std.proofs.Common.{arith}
use Rattle.berth_mem.proofs.Picked.{unsynced_more}
use Rattle.berth_mem.proofs.pick.kept.Goals as goal

pub loop-from-preserved : goal.loop-from-preserved
loop-from-preserved c = record {
  within = omega (arith, c.loop-from.invariant.within);
  unsynced = unsynced_more c.args.calls.now c.args.k c.loop-from.from c.index-calls-from.result c.if-from-gt0.true c.loop-from.invariant.within c.requires c.index-calls-from.is
      (c.is_sync.ensures c.if-not-is_sync.true) c.loop-from.invariant.unsynced;
}
