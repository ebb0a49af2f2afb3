-- The lists that parts of a column mean, place by place.
use Rattle.std.proofs.Common.{◌≡◌, ℕ, ◌*◌, ◌<◌, Bool, true, false, List, [], length, map, slice_index, slice_index_or, ℤ, pos, Option, Some, None, IfSome, is_some, if◌then◌else◌, refl, sym, ap, subst, ◌∙◌, arith}
use Rattle.std.specs.List.{range_with_len}
use Rattle.std.specs.Int.{div_ceil}
use Rattle.std.proofs.lemmas.Bool.{false≢true}
use Rattle.std.proofs.lemmas.Option.{none-some, same_Some}
use Rattle.std.proofs.lemmas.List.{get_or-map, length-map}
use Rattle.std.proofs.lemmas.List.FromFn.{length-map-range_with_len, get_or-map-range_with_len, fill_by_all}
use Rattle.bit_columns.specs.Bits.{code, codes, BitString, PackedCodes}
use Rattle.row_model.specs.declared.rows.Value.{Value}
use Rattle.row_model.specs.declared.rows.Value.TheVariants as values
use Rattle.column_bytes.specs.declared.kind.Kind.TheVariants as kinds
use Rattle.column_bytes.specs.declared.form.Form.{Form}
use Rattle.dictionaries.specs.Fields.{i64_at}
use Rattle.column_bytes.specs.Cells.{anchors_at, is_there, there, coded_of, book_of, value_at, cell_at, cells_of, integer_cells, entry_cells, kind_of_book, has_entries, entries, no_value, IsCode, AreCodes, Coded, Codebook, Base, Anchors, Entries, Sets}

pub length-codes : (bytes : List ℕ) (w n : ℕ) → length (codes bytes w n) ≡ n
length-codes bytes w n = length-map-range_with_len (code bytes w) 0 n

pub codes_at : (bytes : List ℕ) (w n i : ℕ) → i < n → slice_index (codes bytes w n) i ≡ code bytes w i
codes_at bytes w n i within = get_or-map-range_with_len (code bytes w) 0 n i i 0 within (omega arith)

pub length-there : (presence : Option BitString) (n : ℕ) → length (there presence n) ≡ n
length-there presence n = length-map-range_with_len (is_there presence) 0 n

pub there_at : (presence : Option BitString) (n i : ℕ) (d : Bool) → i < n → slice_index_or (there presence n) i d ≡ is_there presence i
there_at presence n i d within = get_or-map-range_with_len (is_there presence) 0 n i i d within (omega arith)

pub anchors_at_place : (n : ℕ) (extra : List ℕ) (k : ℕ) → k < div_ceil n 64 → slice_index_or (anchors_at n extra) k (pos 0) ≡ i64_at extra (8 * k)
anchors_at_place n extra k within = get_or-map-range_with_len (λ j. i64_at extra (8 * j)) 0 (div_ceil n 64) k k (pos 0) within (omega arith)

-- what is said of codes place by place is said of the bits, and the other way round
pub are_codes-from_each : (form : Form) (n : ℕ) (presence : Option BitString) (packed : PackedCodes) (extra : List ℕ)
    → ((j : ℕ) → j < n → is_there presence j ≡ true → IsCode (book_of form n extra) (code packed.bytes packed.width j))
    → AreCodes (coded_of form n presence packed extra)
are_codes-from_each form n presence packed extra each i within present =
    let inside : i < n = omega (arith, length-codes packed.bytes packed.width n) in
    subst (IsCode (book_of form n extra)) (sym (codes_at packed.bytes packed.width n i inside))
    (each i inside (sym (there_at presence n i false inside) ∙ present))

pub each-from_are_codes : (form : Form) (n : ℕ) (presence : Option BitString) (packed : PackedCodes) (extra : List ℕ)
    → AreCodes (coded_of form n presence packed extra)
    → (j : ℕ) → j < n → is_there presence j ≡ true → IsCode (book_of form n extra) (code packed.bytes packed.width j)
each-from_are_codes form n presence packed extra are j within present =
    subst (IsCode (book_of form n extra)) (codes_at packed.bytes packed.width n j within)
    (are j (omega (arith, length-codes packed.bytes packed.width n)) (there_at presence n j false within ∙ present))

pub present_below : (presence : Option BitString) (n i : ℕ) → IfSome presence (λ bits. bits.count ≡ n) → i < n → IfSome presence (λ bits. i < bits.count)
present_below None n i same below = tt
present_below (Some bits) n i same below = omega (arith, same)

-- ---- cells

pub cell_there : (form : Form) (n : ℕ) (presence : Option BitString) (packed : PackedCodes) (extra : List ℕ) (i : ℕ)
    → i < n → is_there presence i ≡ true
    → cell_at (coded_of form n presence packed extra) i ≡ Some (value_at (book_of form n extra) (codes packed.bytes packed.width n) i)
cell_there form n presence packed extra i within present = rw (there_at presence n i false within, present) refl

pub cell_missing : (form : Form) (n : ℕ) (presence : Option BitString) (packed : PackedCodes) (extra : List ℕ) (i : ℕ)
    → i < n → is_there presence i ≡ false
    → cell_at (coded_of form n presence packed extra) i ≡ None
cell_missing form n presence packed extra i within missing = rw (there_at presence n i false within, missing) refl

some_where : (b : Bool) (v : Value) → is_some (if b then Some v else None) ≡ b
some_where true v = refl
some_where false v = refl

-- a cell is there where its bit says so
pub cell_is_there : (form : Form) (n : ℕ) (presence : Option BitString) (packed : PackedCodes) (extra : List ℕ) (i : ℕ)
    → i < n → is_there presence i ≡ is_some (cell_at (coded_of form n presence packed extra) i)
cell_is_there form n presence packed extra i within =
    sym (some_where (slice_index_or (there presence n) i false) (value_at (book_of form n extra) (codes packed.bytes packed.width n) i) ∙ there_at presence n i false within)

-- a cell that is there holds its value
pub record HoldsValue (coded : Coded) (i : ℕ) (value : Value) : Type 0 where
  pub present : slice_index_or coded.present i false ≡ true
  pub is : value_at coded.book coded.codes i ≡ value

pub holds_value : (coded : Coded) (i : ℕ) (value : Value) → cell_at coded i ≡ Some value → HoldsValue coded i value
holds_value coded i value cell = by (slice_index_or coded.present i false) refl
  where
    by : (b : Bool) → slice_index_or coded.present i false ≡ b → HoldsValue coded i value
    by true e = record { present = e; is = same_Some (value_at coded.book coded.codes i) value (ap (λ (b : Bool). if b then Some (value_at coded.book coded.codes i) else None) (sym e) ∙ cell) }
    by false e = absurd (none-some value (ap (λ (b : Bool). if b then Some (value_at coded.book coded.codes i) else None) (sym e) ∙ cell))

pub cell_holds : (coded : Coded) (i : ℕ) (value : Value) → slice_index_or coded.present i false ≡ true → value_at coded.book coded.codes i ≡ value → cell_at coded i ≡ Some value
cell_holds coded i value present is = ap (λ (b : Bool). if b then Some (value_at coded.book coded.codes i) else None) present ∙ ap Some is

abbrev int_of : Value → ℤ
int_of (values.Int n) = n
int_of (values.Text text) = pos 0
int_of (values.Set members) = pos 0

pub same_integer : (m n : ℤ) → values.Int m ≡ values.Int n → m ≡ n
same_integer m n e = ap int_of e

pub integer_kind : (book : Codebook) (codes : List ℕ) (i : ℕ) (n : ℤ) → value_at book codes i ≡ values.Int n → kind_of_book book ≡ kinds.Ints
integer_kind (Base base) codes i n e = refl
integer_kind (Anchors anchors) codes i n e = refl
integer_kind (Entries texts) codes i n e = absurd cc
integer_kind (Sets sets) codes i n e = absurd cc

-- ---- all cells in order

cell_same : (b : Bool) (v w : Value) → (b ≡ true → v ≡ w) → (if b then Some v else None) ≡ (if b then Some w else None)
cell_same true v w same = ap Some (same refl)
cell_same false v w same = refl

-- integers that are the values of the cells that are there are the cells
pub cells-from_integers : (coded : Coded) (integers : List ℤ) → AreCodes coded → length coded.present ≡ length coded.codes
    → ((i : ℕ) → i < length coded.codes → IsCode coded.book (slice_index coded.codes i) → value_at coded.book coded.codes i ≡ values.Int (slice_index_or integers i (pos 0)))
    → cells_of coded ≡ integer_cells coded.present integers
cells-from_integers coded integers are len each =
    let n = length coded.codes in
    let integer = λ (i : ℕ). if slice_index_or coded.present i false then Some (values.Int (slice_index_or integers i (pos 0))) else None in
    fill_by_all integer (cells_of coded) n None (length-map-range_with_len (cell_at coded) 0 n)
    (λ k within. get_or-map-range_with_len (cell_at coded) 0 n k k None within (omega arith)
    ∙ cell_same (slice_index_or coded.present k false) (value_at coded.book coded.codes k) (values.Int (slice_index_or integers k (pos 0)))
    (λ there. each k within (are k within there)))
    ∙ ap (λ m. map integer (range_with_len 0 m)) (sym len)

-- a code of a dictionary stands for one of its values
pub entry_is : (book : Codebook) (codes : List ℕ) (i : ℕ) → has_entries (kind_of_book book) ≡ true → IsCode book (slice_index codes i) → value_at book codes i ≡ slice_index_or (entries book) (slice_index codes i) no_value
entry_is (Base base) codes i has is = absurd (false≢true has)
entry_is (Anchors anchors) codes i has is = absurd (false≢true has)
entry_is (Entries texts) codes i has is = sym (get_or-map values.Text texts (slice_index codes i) [] no_value is)
entry_is (Sets sets) codes i has is = sym (get_or-map values.Set sets (slice_index codes i) [] no_value is)

-- so codes of a dictionary and its values are the cells
pub cells-from_entries : (coded : Coded) → has_entries (kind_of_book coded.book) ≡ true → AreCodes coded → cells_of coded ≡ entry_cells (entries coded.book) coded.present coded.codes
cells-from_entries coded has are =
    let n = length coded.codes in
    let cell = λ (i : ℕ). if slice_index_or coded.present i false then Some (slice_index_or (entries coded.book) (slice_index coded.codes i) no_value) else None in
    fill_by_all cell (cells_of coded) n None (length-map-range_with_len (cell_at coded) 0 n)
    (λ k within. get_or-map-range_with_len (cell_at coded) 0 n k k None within (omega arith)
    ∙ cell_same (slice_index_or coded.present k false) (value_at coded.book coded.codes k) (slice_index_or (entries coded.book) (slice_index coded.codes k) no_value)
    (λ there. entry_is coded.book coded.codes k has (are k within there)))

pub below-from_entries : (book : Codebook) (code : ℕ) → has_entries (kind_of_book book) ≡ true → IsCode book code → code < length (entries book)
below-from_entries (Base base) code has is = absurd (false≢true has)
below-from_entries (Anchors anchors) code has is = absurd (false≢true has)
below-from_entries (Entries texts) code has is = omega (arith, is, length-map texts values.Text)
below-from_entries (Sets sets) code has is = omega (arith, is, length-map sets values.Set)
