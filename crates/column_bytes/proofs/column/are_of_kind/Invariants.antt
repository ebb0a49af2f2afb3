use Rattle.std.proofs.Common.{ℕ, ◌<◌, None, IfSome, slice_index_or}
use Rattle.column_bytes.specs.Coding.{IsOfKind}
use Rattle.column_bytes.proofs.column.are_of_kind.Given as goal

abbrev pub invariant-loop-cell : goal.invariant-loop-cell
invariant-loop-cell l = (i : ℕ) → i < l.cell-index → IfSome (slice_index_or l.cells i None) (IsOfKind l.kind)
