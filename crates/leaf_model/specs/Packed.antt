-- Rows packed as bytes.
use Rattle.std.specs.Prelude.{◌≡◌, ℕ, ℤ, List, [], Some, length}
use Rattle.std.specs.List.{AllByRecursion}
use Rattle.row_model.specs.declared.rows.Row.{Row}
use Rattle.leaf_model.specs.Content.{rows_from}
use Rattle.row_model.specs.Values.{IsRow}
use Rattle.leaf_model.specs.Bytes.{rows_bytes}
use Rattle.leaf_model.specs.Reading.{rows_at}
use Rattle.leaf_model.specs.Fronts.{front_of}

-- the first `count` rows of the bytes
abbrev pub packed_rows : ℕ → List ℕ → List Row
packed_rows count bytes = front_of (rows_at count bytes)

-- the bytes spell exactly `count` rows
abbrev pub ArePacked : ℕ → List ℕ → Type 0
ArePacked count bytes = rows_at count bytes ≡ Some (packed_rows count bytes, [])

-- the same, with the rows named: the bytes spell exactly these `count` rows
pub record IsPacked (count : ℕ) (bytes : List ℕ) (rows : List Row) : Type 0 where
  pub spelled : bytes ≡ rows_bytes rows
  pub counted : length rows ≡ count
  pub rows_fit : AllByRecursion IsRow rows

-- no row is below the horizon
abbrev pub AreFrom : ℤ → List Row → Type 0
AreFrom horizon rows = rows_from horizon rows ≡ rows
