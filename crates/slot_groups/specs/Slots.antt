-- Rows in slots.
use Rattle.std.specs.Prelude.{ℕ, zero, suc, nat_lt, ◌==◌, List, [], ◌∷◌, filter}
use Rattle.row_model.specs.declared.rows.Row.{Row}
use Rattle.leaf_model.specs.declared.queries.Query.{Query}
use Rattle.leaf_model.specs.declared.groups.Key.{Key}
use Rattle.leaf_model.specs.declared.groups.Group.{Group}
use Rattle.leaf_model.specs.Groups.{group_of, groups}
use Rattle.group_table.specs.Joined.{joined}

-- the rows in the first n slots
abbrev pub below : (Row → ℕ) → ℕ → List Row → List Row
below slot n rows = filter (λ row. nat_lt (slot row) n) rows

-- the rows in slot n
abbrev pub in_slot : (Row → ℕ) → ℕ → List Row → List Row
in_slot slot n rows = filter (λ row. slot row == n) rows

-- the groups of each of the first n slots, joined
abbrev pub classes : Query → (Row → ℕ) → List Row → ℕ → List Group
classes q slot rows zero = []
classes q slot rows (suc n) = joined (classes q slot rows n) (groups q (in_slot slot n rows))

-- the group of rows with these keys; none if there are no rows
abbrev pub class_group : Query → List Key → List Row → List Group
class_group q keys [] = []
class_group q keys (row ∷ rows) = group_of q keys (row ∷ rows) ∷ []
