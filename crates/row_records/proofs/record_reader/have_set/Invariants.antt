use Rattle.std.proofs.Common.{◌≡◌, length}
use Rattle.std.specs.List.{list_any}
use Rattle.leaf_model.specs.Lent.{lent_rows}
use Rattle.row_records.specs.Records.{row_has_set}
use Rattle.row_records.proofs.record_reader.have_set.Given as goal

abbrev pub invariant-loop-first : goal.invariant-loop-first
invariant-loop-first l = list_any row_has_set (lent_rows l.left) ≡ list_any row_has_set (lent_rows l.rows)

abbrev pub decreases-loop-first : goal.decreases-loop-first
decreases-loop-first l = length (lent_rows l.left)
