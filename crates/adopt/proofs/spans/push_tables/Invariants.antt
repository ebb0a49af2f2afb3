use Rattle.std.proofs.Common.{◌≡◌, ◌++◌, drop}
use Rattle.std.specs.List.{flat_map}
use Rattle.adopt.specs.Taken.{table_spans}
use Rattle.adopt.proofs.spans.push_tables.Given as goal

-- what was pushed, and what is left to push
abbrev pub invariant-loop-table : goal.invariant-loop-table
invariant-loop-table l = l.spans.items ++ flat_map table_spans (drop l.table-index l.tables) ≡ l.initial.spans.items ++ flat_map table_spans l.tables
