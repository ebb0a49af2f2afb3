use Rattle.std.proofs.Common.{◌≡◌, length}
use Rattle.std.specs.List.{list_any}
use Rattle.row_model.specs.declared.rows.Cell.{Cell}
use Rattle.leaf_model.specs.Lent.{lent_cells, lent_row}
use Rattle.row_records.specs.Records.{is_set_value, row_has_set}
use Rattle.row_records.proofs.record_reader.row_has_set.Given as goal

abbrev pub invariant-loop-first : goal.invariant-loop-first
invariant-loop-first l = list_any (λ (c : Cell). is_set_value c.value) (lent_cells l.left) ≡ row_has_set (lent_row l.row)

abbrev pub decreases-loop-first : goal.decreases-loop-first
decreases-loop-first l = length (lent_cells l.left)
