-- What a column's cells hold are values.
use Rattle.std.proofs.Common.{◌≡◌, ℕ, zero, suc, ◌+◌, ◌-◌, ◌*◌, ◌/◌, ◌<◌, ◌≤◌, ◌^◌, ◌%◌, ◌+ℤ◌, Bool, true, false, cond, eqb, ltb, List, length, drop, slice_index, slice_index_or, ℤ, pos, negsuc, Option, Some, None, IfSome, if◌then◌else◌, refl, sym, ap, subst, ◌∙◌, arith}
use Rattle.std.specs.Prelude.{FitsSigned, IsUtf8}
use Rattle.std.specs.Int.{w64, cast_signed, div_ceil}
use Rattle.std.proofs.lemmas.Int.{SFits-int_wrap, ints}
use Rattle.std.proofs.lemmas.Bool.{ltb-true, ltb-false}
use Rattle.std.proofs.lemmas.List.{get_or-drop, get_or_past}
use Rattle.std.proofs.lemmas.List.FromFn.{get_or-map-range_with_len, length-map-range_with_len}
use Rattle.byteorder.specs.Endian.{little_number}
use Rattle.byteorder.specs.Numbers.{little_from-lt}
use Rattle.row_model.specs.declared.rows.Value.{Value}
use Rattle.row_model.specs.Values.{IsSet, IsValue}
use Rattle.delta_codes.specs.Slots.{after, slot, unzigzag}
use Rattle.column_bytes.specs.declared.form.Form.{Form}
use Rattle.column_bytes.specs.declared.form.Form.TheVariants as forms
use Rattle.dictionaries.specs.Fields.{i64_at, u64_at}
use Rattle.dictionaries.specs.Dictionary.{text_count}
use Rattle.dictionaries.specs.Sets.{sets_part}
use Rattle.column_bytes.specs.Cells.{IsCode, IsExtra, anchors_at, book_of, cell_at, value_at}
use Rattle.column_bytes.specs.Column.{IsColumn, coded_in, codes_part, count_in, extra_from, extra_part, width_in}
use Rattle.dictionaries.proofs.Places.{length-texts, texts_at_place}
use Rattle.column_bytes.proofs.Parts.{anchors_at_place, length-codes}
use Rattle.dictionaries.proofs.SetParts.{length-sets, sets_at_place}
use Rattle.row_blocks.specs.Columns.{MeanCells, cells_in}

positive : (n : ℕ) → n < 2 ^ 63 → FitsSigned w64 (pos n)
positive n lt = omega (ints, arith, lt)

negative : (n : ℕ) → n < 2 ^ 63 → FitsSigned w64 (negsuc n)
negative n lt = omega (ints, arith, lt)

chosen_fits : (n : ℕ) (b : Bool) → ltb n (2 ^ 63) ≡ b → n < 2 ^ 64 → FitsSigned w64 (cond b (pos n) (negsuc (2 ^ 64 - suc n)))
chosen_fits n true e lt = positive n (ltb-true _ _ e)
chosen_fits n false e lt = negative (2 ^ 64 - suc n) (omega (arith, ltb-false n (2 ^ 63) e, lt))

cast_fits : (n : ℕ) → n < 2 ^ 64 → FitsSigned w64 (cast_signed w64 n)
cast_fits n lt = chosen_fits n (ltb n (2 ^ 63)) refl lt

dropped : (bytes : List ℕ) (n : ℕ) → ((k : ℕ) → slice_index bytes k < 256) → (k : ℕ) → slice_index (drop n bytes) k < 256
dropped bytes n below k = subst (λ (b : ℕ). b < 256) (sym (get_or-drop n bytes k 0)) (below (n + k))

i64_fits : (bytes : List ℕ) (at : ℕ) → ((k : ℕ) → slice_index bytes k < 256) → FitsSigned w64 (i64_at bytes at)
unfolding u64_at
i64_fits bytes at below = cast_fits (little_number 8 (drop at bytes)) (little_from-lt 0 8 (drop at bytes) (dropped bytes at below))

anchor_fits : (n : ℕ) (extra : List ℕ) → ((k : ℕ) → slice_index extra k < 256) → (k : ℕ) → FitsSigned w64 (slice_index_or (anchors_at n extra) k (pos 0))
anchor_fits n extra below k = by (ltb k (div_ceil n 64)) refl
  where
    by : (b : Bool) → ltb k (div_ceil n 64) ≡ b → FitsSigned w64 (slice_index_or (anchors_at n extra) k (pos 0))
    by true e = subst (FitsSigned w64) (sym (anchors_at_place n extra k (ltb-true k (div_ceil n 64) e))) (i64_fits extra (8 * k) below)
    by false e = subst (FitsSigned w64) (sym (get_or_past (anchors_at n extra) k (pos 0)
        (omega (arith, ltb-false k (div_ceil n 64) e, length-map-range_with_len (λ j. i64_at extra (8 * j)) 0 (div_ceil n 64))))) (positive 0 (omega arith))

slot_fits : (anchors : List ℤ) (codes : List ℕ) → ((k : ℕ) → FitsSigned w64 (slice_index_or anchors k (pos 0))) → (i : ℕ) → FitsSigned w64 (slot anchors codes i)
slot_fits anchors codes each zero = each 0
slot_fits anchors codes each (suc i) = by (eqb (suc i % 64) 0)
  where
    by : (b : Bool) → FitsSigned w64 (if b then slice_index_or anchors (suc i / 64) (pos 0) else after (slot anchors codes i) (slice_index codes (suc i)))
    by true = each (suc i / 64)
    by false = SFits-int_wrap w64 (slot anchors codes i +ℤ unzigzag (slice_index codes (suc i)))

code_fits : (form : Form) (n : ℕ) (extra codes : List ℕ) (i : ℕ) → ((k : ℕ) → slice_index extra k < 256) → IsExtra form n extra
    → IsCode (book_of form n extra) (slice_index codes i) → IsValue (value_at (book_of form n extra) codes i)
code_fits forms.Offset n extra codes i below is code = code
code_fits forms.Delta n extra codes i below is code = slot_fits (anchors_at n extra) codes (anchor_fits n extra below) i
code_fits forms.Dictionary n extra codes i below is code =
    let k = slice_index codes i in
    let inside : k < text_count extra = omega (arith, length-texts extra, code) in
    subst (λ (text : List ℕ). IsUtf8 text × (length text ≤ 65535)) (sym (texts_at_place extra k inside)) ((is.texts k inside).utf8, (is.texts k inside).short)
code_fits forms.Sets n extra codes i below is code =
    let k = slice_index codes i in
    let inside : k < text_count (sets_part extra) = omega (arith, length-sets extra, code) in
    subst IsSet (sym (sets_at_place extra k inside)) (is.each k inside)

cell_fits : (bytes : List ℕ) (form : Form) → ((k : ℕ) → slice_index bytes k < 256) → IsColumn bytes form → (i : ℕ) → i < length (coded_in form bytes).codes
    → IfSome (cell_at (coded_in form bytes) i) IsValue
cell_fits bytes form below is i within = by (slice_index_or (coded_in form bytes).present i false) refl
  where
    by : (b : Bool) → slice_index_or (coded_in form bytes).present i false ≡ b → IfSome (if b then Some (value_at (coded_in form bytes).book (coded_in form bytes).codes i) else None) IsValue
    by true e = code_fits form (count_in bytes) (extra_part bytes) (coded_in form bytes).codes i (dropped bytes (extra_from bytes) below) is.extra (is.each i within e)
    by false e = tt

pub values_fit : (bytes : List ℕ) (n : ℕ) → ((k : ℕ) → slice_index bytes k < 256) → MeanCells bytes n → (i : ℕ) → i < n → IfSome (slice_index_or (cells_in bytes) i None) IsValue
unfolding MeanCells
values_fit bytes n below mean i within =
    let coded = coded_in mean.form bytes in
    let count = mean.count in
    let inside : i < length coded.codes = omega (arith, length-codes (codes_part bytes) (width_in bytes) (count_in bytes)) in
    let at : slice_index_or (cells_in bytes) i None ≡ cell_at coded i
    = ap (λ (l : List (Option Value)). slice_index_or l i None) mean.cells_are ∙ get_or-map-range_with_len (cell_at coded) 0 (length coded.codes) i i None inside (omega arith) in
    subst (λ (v : Option Value). IfSome v IsValue) (sym at) (cell_fits bytes mean.form below mean.is i inside)
