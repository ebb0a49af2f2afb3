-- Rows as bytes.
use Rattle.std.specs.Prelude.{◌≡◌, ℕ, ◌<◌, List, ◌∷◌, ◌++◌, length, take, get_or, ℤ}
use Rattle.std.specs.List.{flat_map}
use Rattle.std.specs.Int.{w16, w32, w64, to_le_bytes, cast_unsigned}
use Rattle.row_model.specs.declared.rows.Value.{Value}
use Rattle.row_model.specs.declared.rows.Value.TheVariants.{Int, Text, Set}
use Rattle.row_model.specs.declared.rows.Cell.{Cell}
use Rattle.row_model.specs.declared.rows.Row.{Row}

-- numbers, little endian
abbrev pub u16_bytes : ℕ → List ℕ
u16_bytes n = to_le_bytes w16 n

abbrev pub u32_bytes : ℕ → List ℕ
u32_bytes n = to_le_bytes w32 n

abbrev pub u64_bytes : ℕ → List ℕ
u64_bytes n = to_le_bytes w64 n

abbrev pub i64_bytes : ℤ → List ℕ
i64_bytes n = to_le_bytes w64 (cast_unsigned w64 n)

-- a length byte, then the name
abbrev pub name_bytes : List ℕ → List ℕ
name_bytes name = length name ∷ name

-- the length in two bytes, then the text
abbrev pub text_bytes : List ℕ → List ℕ
text_bytes t = u16_bytes (length t) ++ t

-- a tag and the value: 1 and an integer, 2 and a text, 3 and a set as the number of its texts and the texts
abbrev pub value_bytes : Value → List ℕ
value_bytes (Int n) = 1 ∷ i64_bytes n
value_bytes (Text t) = 2 ∷ text_bytes t
value_bytes (Set members) = 3 ∷ (u16_bytes (length members) ++ flat_map text_bytes members)

-- the name, then the value
abbrev pub cell_bytes : Cell → List ℕ
cell_bytes c = name_bytes c.name ++ value_bytes c.value

-- the time, the number of cells, then the cells
abbrev pub row_bytes : Row → List ℕ
row_bytes row = i64_bytes row.time ++ u16_bytes (length row.cells) ++ flat_map cell_bytes row.cells

-- rows, one after another
abbrev pub rows_bytes : List Row → List ℕ
rows_bytes rows = flat_map row_bytes rows

-- each number is below 256
abbrev pub IsBytes : List ℕ → Type 0
IsBytes bytes = (i : ℕ) → get_or bytes i 0 < 256

-- `before` is a prefix of `now`
abbrev pub BeginsWith : List ℕ → List ℕ → Type 0
BeginsWith before now = take (length before) now ≡ before
