use Rattle.std.proofs.Common.{◌+◌, ◌≤◌, length}
use Rattle.std.specs.Prelude.{vec_capacity, vec_len}
use Rattle.leaf_table.specs.Lists.{lists_in}
use Rattle.player.proofs.Ending.{Abandoned}
use Rattle.player.proofs.end.abandon_all.Given as goal

-- the leaves behind those that are left were abandoned
abbrev pub invariant-loop-slot : goal.invariant-loop-slot
invariant-loop-slot g l = record {
  so_far : Abandoned g.B.Berth.meaning l.fn.leaves.items (lists_in l.fn.rows.items) l.fn.berths.items l.leaves.items (lists_in l.rows.items) l.berths.items;
  few : length l.leaves.items ≤ 256;
  room : length l.leaves.items + vec_len l.berths ≤ vec_capacity l.berths;
}

abbrev pub decreases-loop-slot : goal.decreases-loop-slot
decreases-loop-slot g l = vec_len l.leaves
