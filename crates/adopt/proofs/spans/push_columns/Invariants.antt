use Rattle.std.proofs.Common.{◌≡◌, ◌++◌, map, drop}
use Rattle.adopt.specs.Taken.{span_of}
use Rattle.adopt.proofs.spans.push_columns.Given as goal

-- what was pushed, and what is left to push
abbrev pub invariant-loop-column : goal.invariant-loop-column
invariant-loop-column l = l.spans.items ++ map (span_of l.rows) (drop l.column-index l.columns) ≡ l.initial.spans.items ++ map (span_of l.rows) l.columns
