-- How cells are written.
use Rattle.std.specs.Prelude.{◌≡◌, ℕ, ◌+◌, ◌<◌, ◌≤◌, List, [], ◌∷◌, ◌++◌, length, take, slice_index, slice_index_or, ℤ, pos, Option, Some, None, IfSome}
use Rattle.byteorder.specs.Endian.{little_bytes}
use Rattle.row_model.specs.Values.{IsSet}
use Rattle.row_model.specs.declared.rows.Value.{Value}
use Rattle.row_model.specs.declared.rows.Value.TheVariants as values
use Rattle.column_bytes.specs.declared.kind.Kind.{Kind}
use Rattle.column_bytes.specs.declared.kind.Kind.TheVariants as kinds
use Rattle.column_bytes.specs.declared.form.Form.{Form}
use Rattle.column_bytes.specs.declared.form.Form.TheVariants as forms
use Rattle.column_bytes.specs.Cells.{Codebook, value_at, IsCode}

-- a value that a column of this kind may hold: an integer, a text of at most 65,535 bytes, or a set
abbrev pub IsOfKind : Kind → Value → Type 0
IsOfKind kinds.Ints (values.Int n) = Unit {0}
IsOfKind kinds.Texts (values.Text text) = length text ≤ 65535
IsOfKind kinds.Sets (values.Set members) = IsSet members
IsOfKind kind value = ⊥

-- each cell that is there is of the kind
abbrev pub AreOfKind : Kind → List (Option Value) → Type 0
AreOfKind kind cells = (i : ℕ) → i < length cells → IfSome (slice_index_or cells i None) (IsOfKind kind)

-- a code for each cell, which stands for the value of a cell that is there
pub record IsCoding (cells : List (Option Value)) (codes : List ℕ) (book : Codebook) : Type 0 where
  pub same : length codes ≡ length cells
  pub each : (i : ℕ) (value : Value) → i < length cells → slice_index_or cells i None ≡ Some value
      → (value_at book codes i ≡ value) × IsCode book (slice_index codes i)

-- an integer for each cell: the value of a cell that is there
pub record AreIntegers (cells : List (Option Value)) (integers : List ℤ) : Type 0 where
  pub same : length integers ≡ length cells
  pub each : (i : ℕ) (value : Value) → i < length cells → slice_index_or cells i None ≡ Some value → value ≡ values.Int (slice_index_or integers i (pos 0))

-- a code for each integer, which stands for it
pub record AreCodesOf (integers : List ℤ) (codes : List ℕ) (book : Codebook) : Type 0 where
  pub same : length codes ≡ length integers
  pub each : (i : ℕ) → i < length integers → (value_at book codes i ≡ values.Int (slice_index_or integers i (pos 0))) × IsCode book (slice_index codes i)

-- texts, one after another
abbrev pub joined : List (List ℕ) → List ℕ
joined [] = []
joined (text ∷ texts) = text ++ joined texts

-- the number of bytes of the first k texts
abbrev pub end_at : List (List ℕ) → ℕ → ℕ
end_at texts k = length (joined (take k texts))

-- ---- the bytes as they are written

abbrev pub kind_byte : Form → ℕ
kind_byte forms.Offset = 1
kind_byte forms.Delta = 1
kind_byte forms.Dictionary = 2
kind_byte forms.Sets = 3

abbrev pub form_byte : Form → ℕ
form_byte forms.Offset = 1
form_byte forms.Delta = 2
form_byte forms.Dictionary = 1
form_byte forms.Sets = 1

-- the first four bytes: kind, form, width and presence
abbrev pub front_bytes : Form → ℕ → ℕ → List ℕ
front_bytes form width marker = kind_byte form ∷ form_byte form ∷ width ∷ marker ∷ []

-- a header: the first four bytes, the number of cells, and four offsets
unfoldable pub header_bytes : List ℕ → ℕ → ℕ → ℕ → ℕ → List ℕ
header_bytes front n codes_from extra_from whole =
    ((((front ++ little_bytes 4 n) ++ little_bytes 8 40) ++ little_bytes 8 codes_from) ++ little_bytes 8 extra_from) ++ little_bytes 8 whole

-- a column: the header and the three parts
unfoldable pub column_bytes : List ℕ → ℕ → List ℕ → List ℕ → List ℕ → List ℕ
column_bytes front n presence codes extra =
    let codes_from = 40 + length presence in
    let extra_from = codes_from + length codes in
    ((header_bytes front n codes_from extra_from (extra_from + length extra) ++ presence) ++ codes) ++ extra
