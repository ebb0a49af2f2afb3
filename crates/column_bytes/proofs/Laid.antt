-- That the bytes of a coding mean its cells.
use Rattle.std.proofs.Common.{◌≡◌, ℕ, zero, suc, ◌*◌, ◌^◌, ◌<◌, ◌≤◌, ◌==◌, Bool, true, false, List, [], ◌∷◌, length, map, slice_index, slice_index_or, Option, Some, None, is_some, if◌then◌else◌, refl, sym, ap, ap₂, subst, ◌∙◌, arith}
use Rattle.std.specs.List.{range_with_len}
use Rattle.std.proofs.lemmas.List.FromFn.{fill_by_all}
use Rattle.bit_columns.specs.Bits.{IsBits, codes, BitString}
use Rattle.row_model.specs.declared.rows.Value.{Value}
use Rattle.column_bytes.specs.declared.kind.Kind.{Kind}
use Rattle.column_bytes.specs.declared.kind.Kind.TheVariants as kinds
use Rattle.column_bytes.specs.declared.form.Form.{Form}
use Rattle.column_bytes.specs.declared.form.Form.TheVariants as forms
use Rattle.column_bytes.specs.Cells.{Coded, Codebook, AreCodes, IsExtra, book_of, kind_of_book, cell_at, cells_of, coded_of, there, value_at}
use Rattle.column_bytes.specs.Column.{HasCells, IsPresence, presence_bits, presence_in, coded_in, form_at, packed_in, width_in, count_in, presence_part}
use Rattle.column_bytes.specs.Coding.{IsCoding, kind_byte, form_byte}
use Rattle.column_bytes.proofs.Spelled.{ReadsColumn}

-- what a coding of cells means
abbrev pub coded_cells : List (Option Value) → List ℕ → Codebook → Coded
coded_cells cells list book = record { present = map is_some cells; codes = list; book = book }

present_at : (cells : List (Option Value)) (i : ℕ) → i < length cells → slice_index_or (map is_some cells) i false ≡ is_some (slice_index_or cells i None)
present_at [] i within = absurd (omega arith)
present_at (cell ∷ cells) zero within = refl
present_at (cell ∷ cells) (suc i) within = present_at cells i (omega arith)

cell_coded : (cells : List (Option Value)) (list : List ℕ) (book : Codebook) (i : ℕ) (cell : Option Value) → i < length cells → slice_index_or cells i None ≡ cell
    → ((value : Value) → cell ≡ Some value → value_at book list i ≡ value) → cell_at (coded_cells cells list book) i ≡ cell
cell_coded cells list book i None within e each =
    let gone : slice_index_or (map is_some cells) i false ≡ false = present_at cells i within ∙ ap is_some e in
    rw gone refl
cell_coded cells list book i (Some value) within e each =
    let here : slice_index_or (map is_some cells) i false ≡ true = present_at cells i within ∙ ap is_some e in
    rw here (ap Some (each value refl))

pub cells_coded : (cells : List (Option Value)) (list : List ℕ) (book : Codebook) → IsCoding cells list book → cells_of (coded_cells cells list book) ≡ cells
cells_coded cells list book is =
    ap (λ n. map (cell_at (coded_cells cells list book)) (range_with_len 0 n)) is.same
    ∙ sym (fill_by_all (cell_at (coded_cells cells list book)) cells (length cells) None refl
    (λ k within. sym (cell_coded cells list book k (slice_index_or cells k None) within refl (λ value e. (is.each k value within e).0))))

there_is_some : (cell : Option Value) → is_some cell ≡ true → (value : Value) × (cell ≡ Some value)
there_is_some None e = let never : ⊥ = cc in absurd never
there_is_some (Some value) e = (value, refl)

pub codes_coded : (cells : List (Option Value)) (list : List ℕ) (book : Codebook) → IsCoding cells list book → AreCodes (coded_cells cells list book)
codes_coded cells list book is i within present =
    let inside : i < length cells = omega (arith, is.same) in
    let found = there_is_some (slice_index_or cells i None) (sym (present_at cells i inside) ∙ present) in
    (is.each i found.0 inside found.1).1

form_named : (form : Form) → form_at (kind_byte form) (form_byte form) ≡ Some form
unfolding form_at
form_named forms.Offset = refl
form_named forms.Delta = refl
form_named forms.Dictionary = refl
form_named forms.Sets = refl

pub laid : (form : Form) (cells : List (Option Value)) (list extra presence packed bytes : List ℕ) (n width marker : ℕ) (all_there : Bool)
    → ReadsColumn bytes (kind_byte form ∷ form_byte form ∷ width ∷ marker ∷ []) n presence packed extra
    → length cells ≡ n → 0 < n → n ≤ 65536 → width ≤ 64 → marker ≤ 1 → (marker == 0) ≡ all_there
    → IsPresence (presence_bits all_there presence n) presence n
    → there (presence_bits all_there presence n) n ≡ map is_some cells
    → IsBits packed (n * width) → codes packed width n ≡ list
    → IsExtra form n extra → IsCoding cells list (book_of form n extra)
    → HasCells bytes n cells
laid form cells list extra presence packed bytes n width marker all_there reads len some few narrow low marked part present bits listed fits coding =
    let kind_is = reads.front_is 0 (omega arith) in
    let form_is = reads.front_is 1 (omega arith) in
    let width_is : width_in bytes ≡ width = reads.front_is 2 (omega arith) in
    let marker_is : slice_index bytes 3 ≡ marker = reads.front_is 3 (omega arith) in
    let count = reads.count in
    let bits_is : presence_in bytes ≡ presence_bits all_there presence n
    = ap (λ m. presence_bits (m == 0) (presence_part bytes) (count_in bytes)) marker_is
    ∙ ap (λ b. presence_bits b (presence_part bytes) (count_in bytes)) marked
    ∙ ap₂ (presence_bits all_there) reads.presence_is count in
    let coded_is : coded_in form bytes ≡ coded_cells cells list (book_of form n extra)
    = ap₂ (λ (m : ℕ) (part : List ℕ). coded_of form m (presence_in bytes) (packed_in bytes) part) count reads.extra_is
    ∙ ap (λ (b : Option BitString). coded_of form n b (packed_in bytes) extra) bits_is
    ∙ ap₂ (λ (part : List ℕ) (w : ℕ). coded_of form n (presence_bits all_there presence n) (record { bytes = part; count = n; width = w }) extra) reads.codes_is width_is
    ∙ ap₂ (λ (p : List Bool) (l : List ℕ). record { present = p; codes = l; book = book_of form n extra }) present listed in
    record {
      form = form;
      is = record {
        header = record {
          long = omega (arith, reads.len);
          form_is = ap₂ form_at kind_is form_is ∙ form_named form;
          fields = record {
            width = omega (arith, width_is);
            presence = omega (arith, marker_is);
            some = omega (arith, count);
            few = omega (arith, count);
          };
          offsets = record {
            presence = reads.presence_from;
            codes = omega (arith, reads.codes_from_is);
            extra = omega (arith, reads.codes_from_is, reads.extra_from_is);
            inside = omega (arith, reads.extra_from_is, reads.len);
            whole = reads.whole_is;
          };
        };
        presence = rw (bits_is, reads.presence_is, count) part;
        codes = rw (reads.codes_is, count, width_is) bits;
        extra = rw (reads.extra_is, count) fits;
        each = subst AreCodes (sym coded_is) (codes_coded cells list (book_of form n extra) coding);
      };
      count = sym count;
      cells_are = sym (ap cells_of coded_is ∙ cells_coded cells list (book_of form n extra) coding);
    }

-- presence bits take few bytes
pub presence_few : (all_there : Bool) (part : List ℕ) (n : ℕ) → IsPresence (presence_bits all_there part n) part n → n ≤ 65536 → length part ≤ 2 ^ 40
presence_few true part n is few = omega (arith, ap length is)
presence_few false part n is few = omega (arith, is.whole)

-- the byte of the header that says whether there are presence bits
pub marker_small : (all_there : Bool) → (if all_there then 0 else 1) ≤ 1
marker_small true = omega arith
marker_small false = omega arith

pub marker_says : (all_there : Bool) → ((if all_there then 0 else 1) == 0) ≡ all_there
marker_says true = refl
marker_says false = refl

-- the kind that a byte names
abbrev pub kind_by : ℕ → Kind
kind_by byte = if byte == 1 then kinds.Ints else (if byte == 2 then kinds.Texts else kinds.Sets)

pub kind_named : (form : Form) (n : ℕ) (extra : List ℕ) (byte : ℕ) → byte ≡ kind_byte form → kind_by byte ≡ kind_of_book (book_of form n extra)
kind_named forms.Offset n extra byte e = ap kind_by e
kind_named forms.Delta n extra byte e = ap kind_by e
kind_named forms.Dictionary n extra byte e = ap kind_by e
kind_named forms.Sets n extra byte e = ap kind_by e
