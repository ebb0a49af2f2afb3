use Rattle.std.proofs.Common.{◌≡◌, ℕ, ◌≤◌, length, Ok}
use Rattle.std.specs.List.{AllByRecursion}
use Rattle.json.specs.Json.{members, value}
use Rattle.serde_json.specs.Data.{Members, no_members}
use Rattle.serde_json.specs.Read.{of_members, converted}
use Rattle.row_model.specs.Values.{IsCell}
use Rattle.row_json.specs.Row.{cells_of}
use Rattle.row_json.specs.Quick.{Knows}
use Rattle.row_json.specs.QuickRow.{Ascending}
use Rattle.row_json.proofs.quick_rows.members_row.Given as goal

abbrev pub invariant-members : goal.invariant-members
invariant-members l =
    (n : ℕ) × (old : Members) × (length l.reader ≤ n)
    × (converted (λ ms. of_members ms no_members) (members (value 126) (length l.initial.reader) l.initial.reader) ≡ converted (λ ms. of_members ms old) (members (value 126) n l.reader))
    × Knows l.time old × Ascending old × (cells_of old ≡ Ok l.cells.items) × AllByRecursion IsCell l.cells.items

abbrev pub decreases-members : goal.decreases-members
decreases-members l = length l.reader
