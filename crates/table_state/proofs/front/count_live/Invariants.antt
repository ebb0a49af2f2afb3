use Rattle.std.proofs.Common.{◌≡◌, ◌+◌, length, drop}
use Rattle.table_state.specs.Stored.{IsCut, sealed_rows}
use Rattle.table_state.proofs.front.count_live.Given as goal

abbrev pub invariant-loop-block : goal.invariant-loop-block
invariant-loop-block l = record {
  counted : l.live + length (sealed_rows (drop l.block-index l.blocks) l.cut l.horizon) ≡ length (sealed_rows l.blocks l.skip l.horizon);
  inside : IsCut l.cut (drop l.block-index l.blocks);
}
