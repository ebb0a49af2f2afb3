use Rattle.std.proofs.Common.{◌≡◌, ◌+◌, ◌≤◌, ◌^◌, drop}
use Rattle.adopt.specs.Finishing.{live_count}
use Rattle.table_state.specs.Stored.{IsCut}
use Rattle.adopt.proofs.finishing.has_few_rows.Given as goal

abbrev pub invariant-loop-block : goal.invariant-loop-block
invariant-loop-block l = record {
  counted : l.live + live_count (drop l.block-index l.blocks) l.cut l.horizon ≡ live_count l.blocks l.skip l.horizon;
  inside : IsCut l.cut (drop l.block-index l.blocks);
  few : l.live ≤ 2 ^ 40;
}
