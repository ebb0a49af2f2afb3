use Rattle.std.proofs.Common.{take}
use Rattle.std.specs.List.{AllByRecursion}
use Rattle.row_blocks.specs.Blocks.{IsOther}
use Rattle.row_blocks.specs.Places.{AreSeen}
use Rattle.row_blocks.proofs.rules.views_of_others.Given as goal

abbrev pub invariant-loop-column : goal.invariant-loop-column
invariant-loop-column l = record {
  each : AllByRecursion (IsOther l.rows) (take l.column-index l.columns);
  seen : AreSeen l.views.items (take l.column-index l.columns);
}
