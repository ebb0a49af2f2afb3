-- The meaning of the bytes of a column, by the offsets in its header.
use Rattle.std.specs.Prelude.{◌≡◌, ℕ, ◌*◌, ◌<◌, ◌≤◌, ◌==◌, ◌&&◌, Bool, List, [], length, drop, slice_index, slice_range, Option, Some, None, if◌then◌else◌}
use Rattle.bit_columns.specs.Bits.{IsBits, BitString, PackedCodes}
use Rattle.row_model.specs.declared.rows.Value.{Value}
use Rattle.column_bytes.specs.declared.kind.Kind.{Kind}
use Rattle.column_bytes.specs.declared.kind.Kind.TheVariants.{Ints, Texts, Sets}
use Rattle.column_bytes.specs.declared.form.Form.{Form}
use Rattle.column_bytes.specs.declared.form.Form.TheVariants as forms
use Rattle.dictionaries.specs.Fields.{u32_at, u64_at}
use Rattle.column_bytes.specs.Cells.{Coded, IsExtra, AreCodes, cells_of, coded_of}

-- the form that the bytes of kind and form name: offset or delta for integers, a dictionary for texts or sets
unfoldable pub form_at : ℕ → ℕ → Option Form
form_at kind form =
    if (kind == 1) && (form == 1) then Some forms.Offset
    else (if (kind == 1) && (form == 2) then Some forms.Delta
    else (if (kind == 2) && (form == 1) then Some forms.Dictionary
    else (if (kind == 3) && (form == 1) then Some forms.Sets else None)))

-- the presence bits; None if all cells are there
abbrev pub presence_bits : Bool → List ℕ → ℕ → Option BitString
presence_bits all_there part n = if all_there then None else Some (record { bytes = part; count = n })

module _ (bytes : List ℕ) where
  -- the fields of the header, which has 40 bytes
  abbrev pub kind_in : Kind
  kind_in = if slice_index bytes 0 == 1 then Ints else (if slice_index bytes 0 == 2 then Texts else Sets)

  abbrev pub width_in : ℕ
  width_in = slice_index bytes 2

  abbrev pub count_in : ℕ
  count_in = u32_at bytes 4

  abbrev pub codes_from : ℕ
  codes_from = u64_at bytes 16

  abbrev pub extra_from : ℕ
  extra_from = u64_at bytes 24

  -- the three parts; they leave no gap
  abbrev pub presence_part : List ℕ
  presence_part = slice_range bytes 40 codes_from

  abbrev pub codes_part : List ℕ
  codes_part = slice_range bytes codes_from extra_from

  abbrev pub extra_part : List ℕ
  extra_part = drop extra_from bytes

  abbrev pub presence_in : Option BitString
  presence_in = presence_bits (slice_index bytes 3 == 0) presence_part count_in

  abbrev pub packed_in : PackedCodes
  packed_in = record { bytes = codes_part; count = count_in; width = width_in }

  -- each small field is in its range
  pub record AreFields : Type 0 where
    pub width : width_in ≤ 64
    pub presence : slice_index bytes 3 ≤ 1
    pub some : 0 < count_in
    pub few : count_in ≤ 65536

  -- the parts follow the header, in their order, and end with the bytes
  pub record AreOffsets : Type 0 where
    pub presence : u64_at bytes 8 ≡ 40
    pub codes : 40 ≤ codes_from
    pub extra : codes_from ≤ extra_from
    pub inside : extra_from ≤ length bytes
    pub whole : u64_at bytes 32 ≡ length bytes

  -- the bytes begin with a header of this form, which fits their length
  pub record IsHeader (form : Form) : Type 0 where
    pub long : 40 ≤ length bytes
    pub form_is : form_at (slice_index bytes 0) (slice_index bytes 1) ≡ Some form
    pub fields : AreFields
    pub offsets : AreOffsets

-- the presence part: empty, or one bit for each of n cells
abbrev pub IsPresence : Option BitString → List ℕ → ℕ → Type 0
IsPresence None part n = part ≡ []
IsPresence (Some bits) part n = IsBits part n

-- the meaning of a column of this form
abbrev pub coded_in : Form → List ℕ → Coded
coded_in form bytes = coded_of form (count_in bytes) (presence_in bytes) (packed_in bytes) (extra_part bytes)

-- the bytes are a column of this form
pub record IsColumn (bytes : List ℕ) (form : Form) : Type 0 where
  pub header : IsHeader bytes form
  pub presence : IsPresence (presence_in bytes) (presence_part bytes) (count_in bytes)
  pub codes : IsBits (codes_part bytes) (count_in bytes * width_in bytes)
  pub extra : IsExtra form (count_in bytes) (extra_part bytes)
  pub each : AreCodes (coded_in form bytes)

-- the bytes mean these n cells
pub record HasCells (bytes : List ℕ) (n : ℕ) (cells : List (Option Value)) : Type 0 where
  pub form : Form
  pub is : IsColumn bytes form
  pub count : n ≡ count_in bytes
  pub cells_are : cells ≡ cells_of (coded_in form bytes)
