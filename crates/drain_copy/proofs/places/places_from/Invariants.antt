use Rattle.std.proofs.Common.{◌≡◌, ◌+◌, ◌++◌, drop}
use Rattle.drain_copy.specs.Planned.{places_from, columns_size}
use Rattle.drain_copy.proofs.places.places_from.Given as goal

-- the places so far and those of what is left are those of all
abbrev pub invariant-loop-column : goal.invariant-loop-column
invariant-loop-column l = record {
  made : l.made.items ++ places_from l.at (drop l.column-index l.columns) ≡ places_from l.fn.at l.columns;
  at : l.at + columns_size (drop l.column-index l.columns) ≡ l.fn.at + columns_size l.columns;
}
