use Rattle.std.proofs.Common.{IsTrue}
use Rattle.std.specs.List.{AllByRecursion}
use Rattle.std.specs.VecDeque.{deque_len}
use Rattle.region_reading.specs.Reading.{Untouched}
use Rattle.region_inspect.specs.Inspecting.{IsSmallTable, TablesSoFar}
use Rattle.region_inspect.proofs.tables.inspect_tables.Given as goal

abbrev pub invariant-loop-table : goal.invariant-loop-table
invariant-loop-table g l =
    let old = g.B.Berth.meaning l.initial.berth in
    record {
      told : IsTrue old.tells → TablesSoFar l.version old.held.region l.fn.tables.items l.lines.items l.rest.items;
      untouched : Untouched old (g.B.Berth.meaning l.berth);
      small : AllByRecursion IsSmallTable l.rest.items;
    }

abbrev pub decreases-loop-table : goal.decreases-loop-table
decreases-loop-table g l = deque_len l.rest
