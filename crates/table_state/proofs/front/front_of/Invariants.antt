use Rattle.std.proofs.Common.{◌≡◌, ◌≤◌, length, drop}
use Rattle.table_state.specs.Stored.{IsCut, sealed_rows}
use Rattle.table_state.proofs.front.front_of.Given as goal

abbrev pub invariant-loop-i : goal.invariant-loop-i
invariant-loop-i l = record {
  inside : IsCut l.cut (drop l.i l.blocks);
  few : l.left ≤ length (sealed_rows (drop l.i l.blocks) l.cut l.horizon);
  same : drop l.left (sealed_rows (drop l.i l.blocks) l.cut l.horizon) ≡ drop l.gone (sealed_rows l.blocks l.skip l.horizon);
}
