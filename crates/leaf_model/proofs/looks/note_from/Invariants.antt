use Rattle.std.proofs.Common.{◌≡◌, ◌≤◌, ◌<◌, ◌-◌, List, length, slice_index_or, true}
use Rattle.std.specs.Vec.{vec_len}
use Rattle.row_model.specs.declared.rows.Cell.{Cell}
use Rattle.leaf_model.specs.declared.looks.Sought.{Sought}
use Rattle.leaf_model.specs.Lent.{lent_value}
use Rattle.leaf_model.specs.Looks.{filled_from, is_sought}
use Rattle.leaf_model.proofs.looks.note_from.Given as goal

-- those before i have had the cell, and those behind it will
abbrev pub invariant-loop-i : goal.invariant-loop-i
invariant-loop-i l = record {
  bound : l.i ≤ length l.sought;
  same : vec_len l.seen ≡ length l.sought;
  hit : l.i < length l.sought → (s : Sought) → is_sought (slice_index_or l.sought l.i s) l.name ≡ true;
  so_far : (others : List Cell) → filled_from l.sought l.seen.items l.i (record { name = l.name; value = lent_value l.value }) others ≡ filled_from l.sought l.fn.seen.items l.from (record { name = l.name; value = lent_value l.value }) others;
}

abbrev pub decreases-loop-i : goal.decreases-loop-i
decreases-loop-i l = length l.sought - l.i
