-- The calls of a table: the first four are callers', the others the leaf's steward's.
use Rattle.std.specs.Prelude.{ℕ, List, ℤ}
use Rattle.row_model.specs.declared.rows.Row.{Row}
use Rattle.leaf_model.specs.declared.queries.Query.{Query}
use Rattle.leaf_model.specs.Content.{Contents}

pub data Call : Type 0 where
  -- a caller adds rows
  Add : (rows : List Row) → Call
  -- a caller raises the horizon
  Expire : (horizon : ℤ) → Call
  -- a caller keeps the last `count` rows, and removes the others
  Keep : (count : ℕ) → Call
  -- a caller asks
  Ask : (query : Query) → Call
  -- the steward takes the writes that were not taken yet
  Take : Call
  -- the steward says how many writes the disk holds
  Flushed : (writes : ℕ) → Call
  -- the steward shuts the table
  Shut : Call
  -- the steward says that the shut table was handed over whole
  Done : Call
  -- the steward opens the table with these contents, the fold of so many writes
  Open : (writes : ℕ) → (contents : Contents) → Call
