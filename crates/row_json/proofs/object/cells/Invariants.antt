use Rattle.std.proofs.Common.{◌≡◌}
use Rattle.std.specs.List.{AllByRecursion}
use Rattle.serde_json.specs.View.{members_view}
use Rattle.row_model.specs.Values.{IsCell}
use Rattle.row_json.specs.Row.{cells_of}
use Rattle.row_json.proofs.Rows.{before}
use Rattle.row_json.proofs.object.cells.Given as goal

abbrev pub invariant-loop-name : goal.invariant-loop-name
invariant-loop-name l =
    (before l.cells.items (cells_of (members_view l.name-iterator)) ≡ cells_of (members_view l.fn.members.entries))
    × AllByRecursion IsCell l.cells.items
