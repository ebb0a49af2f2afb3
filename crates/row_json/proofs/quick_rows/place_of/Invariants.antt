use Rattle.std.proofs.Common.{◌-◌, ◌≤◌, length, drop}
use Rattle.std.specs.List.{AllByRecursion}
use Rattle.row_model.specs.declared.rows.Cell.{Cell}
use Rattle.row_json.specs.QuickRow.{Below}
use Rattle.row_json.proofs.quick_rows.place_of.Given as goal

abbrev pub invariant-loop-place : goal.invariant-loop-place
invariant-loop-place l =
    (l.place ≤ length l.cells)
    × AllByRecursion (λ (cell : Cell). Below l.name cell.name) (drop l.place l.cells)

abbrev pub decreases-loop-place : goal.decreases-loop-place
decreases-loop-place l = l.place - l.least
