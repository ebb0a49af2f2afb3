-- The rows from a horizon on, and a table of groups that they are folded onto.
use Rattle.std.specs.Prelude.{ℕ, ◌+◌, ◌<◌, ◌^◌, Bool, true, List, filter, ℤ, int_le, Option, Some, None}
use Rattle.std.specs.List.{AllByRecursion}
use Rattle.row_model.specs.declared.rows.Row.{Row}
use Rattle.leaf_model.specs.declared.queries.Query.{Query}
use Rattle.leaf_model.specs.declared.groups.Group.{Group}
use Rattle.group_table.specs.Joined.{IsWithin}
use Rattle.group_table.specs.Split.{IsMade}

-- whether a row is at or after the horizon, if there is one
abbrev pub is_kept : Option ℤ → Row → Bool
is_kept None row = true
is_kept (Some horizon) row = int_le horizon row.time

abbrev pub kept : Option ℤ → List Row → List Row
kept horizon rows = filter (is_kept horizon) rows

-- a table of groups that may take n more rows
pub record MayGrow (q : Query) (n : ℕ) (gs : List Group) : Type 0 where
  pub made : IsMade q gs
  pub most : ℕ
  pub within : AllByRecursion (IsWithin most) gs
  pub few : most + n < 2 ^ 64
