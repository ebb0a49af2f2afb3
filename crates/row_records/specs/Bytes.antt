-- Writes as bytes.
use Rattle.std.specs.Prelude.{◌≡◌, ℕ, List, ◌∷◌, ◌++◌, length, drop}
use Rattle.std.specs.List.{AllByRecursion}
use Rattle.row_model.specs.declared.rows.Row.{Row}
use Rattle.row_model.specs.Values.{IsRow}
use Rattle.leaf_model.specs.Bytes.{u32_bytes, u64_bytes, i64_bytes, rows_bytes}
use Rattle.leaf_model.specs.declared.writes.Write.{Write}
use Rattle.leaf_model.specs.declared.writes.Write.TheVariants.{Add, Expire, Keep}

-- a write: 1, the number of rows, and the rows; 2 and a horizon; or 3 and how many rows to keep
abbrev pub write_bytes : Write → List ℕ
write_bytes (Add rows) = 1 ∷ (u32_bytes (length rows) ++ rows_bytes rows)
write_bytes (Expire horizon) = 2 ∷ i64_bytes horizon
write_bytes (Keep n) = 3 ∷ u64_bytes n

-- the number of a write's kind, and what is said after it
abbrev pub write_kind : Write → ℕ
write_kind (Add rows) = 1
write_kind (Expire horizon) = 2
write_kind (Keep n) = 3

abbrev pub said_bytes : Write → List ℕ
said_bytes (Add rows) = u32_bytes (length rows) ++ rows_bytes rows
said_bytes (Expire horizon) = i64_bytes horizon
said_bytes (Keep n) = u64_bytes n

-- the bytes begin with these `count` rows, which take `taken` bytes
pub record StandsInFront (count : ℕ) (bytes : List ℕ) (rows : List Row) (taken : ℕ) : Type 0 where
  pub each : AllByRecursion IsRow rows
  pub count_is : length rows ≡ count
  pub taken_is : taken ≡ length (rows_bytes rows)
  pub begins : bytes ≡ rows_bytes rows ++ drop taken bytes
