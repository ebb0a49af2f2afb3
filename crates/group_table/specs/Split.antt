-- The groups of rows, in two tables.
use Rattle.std.specs.Prelude.{◌≡◌, ℕ, List}
use Rattle.std.specs.List.{AllByRecursion}
use Rattle.row_model.specs.declared.rows.Row.{Row}
use Rattle.leaf_model.specs.declared.queries.Query.{Query}
use Rattle.leaf_model.specs.declared.groups.Group.{Group}
use Rattle.leaf_model.specs.Groups.{groups}
use Rattle.group_table.specs.Joined.{joined, IsWithin}

-- groups that the query makes of some list of rows
pub record IsMade (q : Query) (gs : List Group) : Type 0 where
  pub rows : List Row
  pub is : gs ≡ groups q rows

-- two tables of groups, each of at most n rows, whose merge has groups within n
pub record IsSplit (n : ℕ) (q : Query) (settled fresh : List Group) : Type 0 where
  pub mine : IsMade q settled
  pub others : IsMade q fresh
  pub within_mine : AllByRecursion (IsWithin n) settled
  pub within_others : AllByRecursion (IsWithin n) fresh
  pub within : AllByRecursion (IsWithin n) (joined settled fresh)
