-- Reading rows from left to right: each field is a value and the bytes after it, or nothing.
use Rattle.std.specs.Prelude.{ℕ, zero, suc, ◌^◌, ℤ, pos, List, [], ◌∷◌, length, take, drop, Bool, not, ◌&&◌, nat_lt, if◌then◌else◌, Option, Some, None}
use Rattle.std.specs.Str.{bytes_eq, is_utf8}
use Rattle.std.specs.Ordering.{nat_cmp, is_lt}
use Rattle.std.specs.Cmp.Lexicographic.{slice_cmp}
use Rattle.std.specs.Int.{Width, w16, w64, byte_len, from_le_bytes, cast_signed}
use Rattle.row_model.specs.declared.rows.Value.{Value}
use Rattle.row_model.specs.declared.rows.Value.TheVariants.{Int, Text, Set}
use Rattle.row_model.specs.declared.rows.Cell.{Cell}
use Rattle.row_model.specs.declared.rows.Row.{Row}
use Rattle.row_model.specs.Values.{time_name}
use Rattle.row_model.specs.Sets.{is_set}

-- the next step, if this one read something
infixl 10 ◌>>=◌
abbrev pub ◌>>=◌ : {A B : Type 0} → Option A → (A → Option B) → Option B
(Some x) >>= f = f x
None >>= f = None

-- n items, one after another
abbrev pub many_at : {A : Type 0} → (List ℕ → Option (A × List ℕ)) → ℕ → List ℕ → Option (List A × List ℕ)
many_at one zero bytes = Some ([], bytes)
many_at one (suc n) bytes = do
  first ← one bytes
  others ← many_at one n first.1
  Some (first.0 ∷ others.0, others.1)

-- a byte
abbrev pub byte_at : List ℕ → Option (ℕ × List ℕ)
byte_at [] = None
byte_at (b ∷ rest) = Some (b, rest)

-- a number of this width, the least byte first
abbrev pub number_at : Width → List ℕ → Option (ℕ × List ℕ)
number_at w bytes = if nat_lt (length bytes) (byte_len w) then None else Some (from_le_bytes w (take (byte_len w) bytes), drop (byte_len w) bytes)

-- n bytes of UTF-8
unfoldable pub text_at : ℕ → List ℕ → Option (List ℕ × List ℕ)
text_at n bytes = if nat_lt (length bytes) n then None else (if is_utf8 (take n bytes) then Some (take n bytes, drop n bytes) else None)

-- a length byte, then a name
unfoldable pub name_at : List ℕ → Option (List ℕ × List ℕ)
name_at bytes = do
  n ← byte_at bytes
  text_at n.0 n.1

-- a time: a number below 2^63
unfoldable pub time_at : List ℕ → Option (ℤ × List ℕ)
time_at bytes = do
  n ← number_at w64 bytes
  if nat_lt n.0 (2 ^ 63) then Some (pos n.0, n.1) else None

-- a length in two bytes, then a text
unfoldable pub long_text_at : List ℕ → Option (List ℕ × List ℕ)
long_text_at bytes = do
  n ← number_at w16 bytes
  text_at n.0 n.1

-- n texts
unfoldable pub texts_at : ℕ → List ℕ → Option (List (List ℕ) × List ℕ)
texts_at n bytes = many_at long_text_at n bytes

-- a set: the number of its texts, then the texts
unfoldable pub set_at : List ℕ → Option (List (List ℕ) × List ℕ)
set_at bytes = do
  count ← number_at w16 bytes
  texts ← texts_at count.0 count.1
  if is_set texts.0 then Some texts else None

-- a value: 1 and an integer, 2 and a text, or 3 and a set
unfoldable pub value_at : List ℕ → Option (Value × List ℕ)
value_at [] = None
value_at (zero ∷ rest) = None
value_at (suc zero ∷ rest) = do
  n ← number_at w64 rest
  Some (Int (cast_signed w64 n.0), n.1)
value_at (suc (suc zero) ∷ rest) = do
  text ← long_text_at rest
  Some (Text text.0, text.1)
value_at (suc (suc (suc zero)) ∷ rest) = do
  members ← set_at rest
  Some (Set members.0, members.1)
value_at (suc (suc (suc (suc b))) ∷ rest) = None

-- the name may stand after `last`: it is greater, and not `time`
unfoldable pub may_follow : List ℕ → List ℕ → Bool
may_follow last name = is_lt (slice_cmp nat_cmp last name) && not (bytes_eq name time_name)

-- a cell whose name may stand after `last`
unfoldable pub cell_at : List ℕ → List ℕ → Option (Cell × List ℕ)
cell_at last bytes = do
  name ← name_at bytes
  if may_follow last name.0 then (value_at name.1 >>= λ value. Some (record { name = name.0; value = value.0 }, value.1)) else None

-- n cells, each with a greater name than the one before
unfoldable pub cells_at : ℕ → List ℕ → List ℕ → Option (List Cell × List ℕ)
cells_at zero last bytes = Some ([], bytes)
cells_at (suc n) last bytes = do
  first ← cell_at last bytes
  others ← cells_at n first.0.name first.1
  Some (first.0 ∷ others.0, others.1)

-- a row: a time, the number of its cells, at most 1,024, then the cells
unfoldable pub row_at : List ℕ → Option (Row × List ℕ)
row_at bytes = do
  time ← time_at bytes
  count ← number_at w16 time.1
  if nat_lt 1024 count.0 then None else (cells_at count.0 [] count.1 >>= λ cells. Some (record { time = time.0; cells = cells.0 }, cells.1))

-- n rows
unfoldable pub rows_at : ℕ → List ℕ → Option (List Row × List ℕ)
rows_at n bytes = many_at row_at n bytes
