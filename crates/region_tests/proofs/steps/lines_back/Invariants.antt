use Rattle.std.specs.List.{AllByRecursion}
use Rattle.std.specs.VecDeque.{deque_len}
use Rattle.region_layout.specs.declared.drained.DrainTable.{DrainTable}
use Rattle.table_state.specs.Tables.{IsParts}
use Rattle.region_tests.proofs.steps.lines_back.Given as goal

abbrev pub invariant-loop-table : goal.invariant-loop-table
invariant-loop-table l = AllByRecursion (λ (t : DrainTable). IsParts t.parts) l.rest.items

abbrev pub decreases-loop-table : goal.decreases-loop-table
decreases-loop-table l = deque_len l.rest
