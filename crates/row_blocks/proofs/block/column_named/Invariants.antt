use Rattle.std.proofs.Common.{◌≡◌, drop}
use Rattle.std.specs.List.{find}
use Rattle.row_blocks.specs.Blocks.{is_column}
use Rattle.row_blocks.proofs.block.column_named.Given as goal

abbrev pub invariant-loop-column : goal.invariant-loop-column
invariant-loop-column l = find (is_column l.name l.kind) (drop l.column-index l.columns) ≡ find (is_column l.name l.kind) l.columns
