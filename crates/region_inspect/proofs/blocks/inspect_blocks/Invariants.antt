use Rattle.std.proofs.Common.{◌≤◌, ◌^◌, IsTrue}
use Rattle.std.specs.List.{AllByRecursion}
use Rattle.std.specs.VecDeque.{deque_len}
use Rattle.region_reading.specs.Reading.{Untouched}
use Rattle.region_inspect.specs.Inspecting.{CutsInside, IsSmall, ToldSoFar}
use Rattle.region_inspect.proofs.blocks.inspect_blocks.Given as goal

abbrev pub invariant-loop-places : goal.invariant-loop-places
invariant-loop-places g l =
    let old = g.B.Berth.meaning l.initial.berth in
    record {
      told : IsTrue old.tells → ToldSoFar l.version old.held.region l.fn.blocks.items l.skip l.horizon l.lines.items l.live l.cut l.rest.items;
      untouched : Untouched old (g.B.Berth.meaning l.berth);
      small : AllByRecursion IsSmall l.rest.items;
      inside : CutsInside l.cut l.rest.items;
      few : l.live ≤ 2 ^ 40;
    }

abbrev pub decreases-loop-places : goal.decreases-loop-places
decreases-loop-places g l = deque_len l.rest
