-- Cells: the meaning of presence, codes and codebook together.
use Rattle.std.specs.Prelude.{◌≡◌, ℕ, ◌*◌, ◌<◌, Bool, true, false, List, [], length, map, slice_index, slice_index_or, ℤ, pos, ◌+ℤ◌, FitsSigned, Option, Some, None, if◌then◌else◌}
use Rattle.std.specs.List.{range_with_len}
use Rattle.std.specs.Int.{w64, div_ceil}
use Rattle.bit_columns.specs.Bits.{codes, is_present, BitString, PackedCodes}
use Rattle.delta_codes.specs.Slots.{slot}
use Rattle.row_model.specs.declared.rows.Value.{Value}
use Rattle.row_model.specs.declared.rows.Value.TheVariants as values
use Rattle.column_bytes.specs.declared.kind.Kind.{Kind}
use Rattle.column_bytes.specs.declared.kind.Kind.TheVariants as kinds
use Rattle.column_bytes.specs.declared.form.Form.{Form}
use Rattle.column_bytes.specs.declared.form.Form.TheVariants as forms
use Rattle.column_bytes.specs.declared.value.ValueRef.{ValueRef}
use Rattle.column_bytes.specs.declared.value.ValueRef.TheVariants as seen
use Rattle.dictionaries.specs.Fields.{i64_at}
use Rattle.dictionaries.specs.Dictionary.{IsDictionary, texts_at}
use Rattle.dictionaries.specs.Sets.{IsSetDictionary, sets_at}

-- what codes stand for: offsets from a base, differences between anchors, texts, or sets
pub data Codebook : Type 0 where
  Base : ℤ → Codebook
  Anchors : List ℤ → Codebook
  Entries : List (List ℕ) → Codebook
  Sets : List (List (List ℕ)) → Codebook

-- which cells are there, a code for each cell, and what the codes stand for
pub record Coded : Type 0 where
  pub present : List Bool
  pub codes : List ℕ
  pub book : Codebook

-- the value of cell i, if it is there
abbrev pub value_at : Codebook → List ℕ → ℕ → Value
value_at (Base base) codes i = values.Int (base +ℤ pos (slice_index codes i))
value_at (Anchors anchors) codes i = values.Int (slot anchors codes i)
value_at (Entries texts) codes i = values.Text (slice_index_or texts (slice_index codes i) [])
value_at (Sets sets) codes i = values.Set (slice_index_or sets (slice_index codes i) [])

-- cell i; None if it is missing
abbrev pub cell_at : Coded → ℕ → Option Value
cell_at coded i = if slice_index_or coded.present i false then Some (value_at coded.book coded.codes i) else None

-- the cells in order
abbrev pub cells_of : Coded → List (Option Value)
cells_of coded = map (cell_at coded) (range_with_len 0 (length coded.codes))

-- a cell for each integer; None if it is missing
abbrev pub integer_cells : List Bool → List ℤ → List (Option Value)
integer_cells present integers =
    map (λ i. if slice_index_or present i false then Some (values.Int (slice_index_or integers i (pos 0))) else None) (range_with_len 0 (length present))

-- a placeholder for a code that stands for no value
abbrev pub no_value : Value
no_value = values.Int (pos 0)

-- a cell for each code, by a list of values; None if it is missing
abbrev pub entry_cells : List Value → List Bool → List ℕ → List (Option Value)
entry_cells entries present codes =
    map (λ i. if slice_index_or present i false then Some (slice_index_or entries (slice_index codes i) no_value) else None) (range_with_len 0 (length codes))

-- the code stands for a value
abbrev pub IsCode : Codebook → ℕ → Type 0
IsCode (Base base) code = FitsSigned w64 (base +ℤ pos code)
IsCode (Anchors anchors) code = Unit {0}
IsCode (Entries texts) code = code < length texts
IsCode (Sets sets) code = code < length sets

-- the code of each cell that is there stands for a value
abbrev pub AreCodes : Coded → Type 0
AreCodes coded = (i : ℕ) → i < length coded.codes → slice_index_or coded.present i false ≡ true → IsCode coded.book (slice_index coded.codes i)

abbrev pub kind_of_book : Codebook → Kind
kind_of_book (Base base) = kinds.Ints
kind_of_book (Anchors anchors) = kinds.Ints
kind_of_book (Entries texts) = kinds.Texts
kind_of_book (Sets sets) = kinds.Sets

-- whether codes of this kind are indices into a dictionary
abbrev pub has_entries : Kind → Bool
has_entries kinds.Ints = false
has_entries kinds.Texts = true
has_entries kinds.Sets = true

-- the values of the dictionary, in the order of their codes
abbrev pub entries : Codebook → List Value
entries (Base base) = []
entries (Anchors anchors) = []
entries (Entries texts) = map values.Text texts
entries (Sets sets) = map values.Set sets

-- the value that a reader lends
abbrev pub value_lent : ValueRef → Value
value_lent (seen.Int n) = values.Int n
value_lent (seen.Text text) = values.Text text.now
value_lent (seen.Set members) = values.Set members

-- ---- what the parts of a column mean

-- the anchors of n cells: an i64 for each 64 cells, rounded up, at the start of the extra part
abbrev pub anchors_at : ℕ → List ℕ → List ℤ
anchors_at n extra = map (λ k. i64_at extra (8 * k)) (range_with_len 0 (div_ceil n 64))

abbrev pub book_of : Form → ℕ → List ℕ → Codebook
book_of forms.Offset n extra = Base (i64_at extra 0)
book_of forms.Delta n extra = Anchors (anchors_at n extra)
book_of forms.Dictionary n extra = Entries (texts_at extra)
book_of forms.Sets n extra = Sets (sets_at extra)

-- the extra part has the length of its form: one i64, an i64 for each 64 cells, rounded up, or a dictionary
abbrev pub IsExtra : Form → ℕ → List ℕ → Type 0
IsExtra forms.Offset n extra = length extra ≡ 8
IsExtra forms.Delta n extra = length extra ≡ 8 * div_ceil n 64
IsExtra forms.Dictionary n extra = IsDictionary extra
IsExtra forms.Sets n extra = IsSetDictionary extra

-- whether cell i is there; without presence bits each is
abbrev pub is_there : Option BitString → ℕ → Bool
is_there None i = true
is_there (Some bits) i = is_present bits.bytes i

abbrev pub there : Option BitString → ℕ → List Bool
there presence n = map (is_there presence) (range_with_len 0 n)

-- the meaning of n cells in these parts
abbrev pub coded_of : Form → ℕ → Option BitString → PackedCodes → List ℕ → Coded
coded_of form n presence packed extra = record {
  present = there presence n;
  codes = codes packed.bytes packed.width n;
  book = book_of form n extra;
}
