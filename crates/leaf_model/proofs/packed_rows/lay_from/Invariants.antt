use Rattle.std.proofs.Common.{◌≡◌, ◌+◌, ◌≤◌, ◌++◌, length}
use Rattle.std.specs.List.{AllByRecursion}
use Rattle.leaf_model.specs.Content.{rows_from}
use Rattle.row_model.specs.Values.{IsRow}
use Rattle.leaf_model.specs.Lent.{lent_rows}
use Rattle.leaf_model.specs.Bytes.{rows_bytes, BeginsWith}
use Rattle.leaf_model.proofs.packed_rows.lay_from.Given as goal

abbrev pub invariant-loop-first : goal.invariant-loop-first
invariant-loop-first l = record {
  fit : AllByRecursion IsRow (lent_rows l.left);
  put : l.out.items ++ rows_bytes (rows_from l.horizon (lent_rows l.left)) ≡ l.initial.out.items ++ rows_bytes (rows_from l.horizon (lent_rows l.rows));
  few : l.added + length (lent_rows l.left) ≤ length (lent_rows l.rows);
  counted : l.added + length (rows_from l.horizon (lent_rows l.left)) ≡ length (rows_from l.horizon (lent_rows l.rows));
  begins : BeginsWith l.initial.out.items l.out.items;
}

abbrev pub decreases-loop-first : goal.decreases-loop-first
decreases-loop-first l = length (lent_rows l.left)
