-- The content of a table after a list of writes.
use Rattle.std.specs.Prelude.{ℕ, ◌-◌, List, [], ◌++◌, length, drop, fold, filter, ℤ, pos, int_le}
use Rattle.std.specs.Int.{int_max}
use Rattle.row_model.specs.declared.rows.Row.{Row}
use Rattle.leaf_model.specs.declared.writes.Write.{Write}
use Rattle.leaf_model.specs.declared.writes.Write.TheVariants.{Add, Expire, Keep}

-- the content of a table: its rows in order of arrival, and the least time that an added row may have
pub record Contents : Type 0 where
  pub rows : List Row
  pub horizon : ℤ

-- no rows, and a horizon of 0, which refuses no time
abbrev pub nothing : Contents
nothing = record { rows = []; horizon = pos 0 }

-- the rows whose time is at least the horizon
abbrev pub rows_from : ℤ → List Row → List Row
rows_from horizon rows = filter (λ (row : Row). int_le horizon row.time) rows

-- the last n rows
abbrev pub last_rows : ℕ → List Row → List Row
last_rows n rows = drop (length rows - n) rows

-- one write: an add appends the rows that are not late, an expiry raises the horizon and removes the rows below it, a
-- keep leaves the last n rows
abbrev pub content_after : Contents → Write → Contents
content_after c (Add rows) = record { rows = c.rows ++ rows_from c.horizon rows; horizon = c.horizon }
content_after c (Expire horizon) = record { rows = rows_from (int_max c.horizon horizon) c.rows; horizon = int_max c.horizon horizon }
content_after c (Keep n) = record { rows = last_rows n c.rows; horizon = c.horizon }

-- writes, one after another, from these contents
abbrev pub content_from : Contents → List Write → Contents
content_from c writes = fold content_after c writes

-- writes, one after another, from an empty table
abbrev pub content : List Write → Contents
content writes = content_from nothing writes

-- how many of the rows an add would keep, and how many would be late
abbrev pub kept_count : Contents → List Row → ℕ
kept_count c rows = length (rows_from c.horizon rows)

abbrev pub late_count : Contents → List Row → ℕ
late_count c rows = length rows - kept_count c rows

-- how many rows a write removes
abbrev pub removed_count : Contents → Write → ℕ
removed_count c write = length c.rows - length (content_after c write).rows
