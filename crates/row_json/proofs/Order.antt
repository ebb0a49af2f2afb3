-- The cells that are read ascend by name, and are no more than were counted.
use Rattle.std.proofs.Common.{◌≡◌, ℕ, ◌+◌, ◌≤◌, List, [], ◌∷◌, ◌++◌, length, ok_or, Result, Ok, Err, Option, Some, None, Bool, true, false, cond, ◌||◌, refl, sym, subst, arith, nat_cmp, String, Global, string_bytes, string_cmp}
use Rattle.std.specs.Result.{IfOk}
use Rattle.std.specs.Option.{IfSome}
use Rattle.std.specs.List.{AllByRecursion}
use Rattle.std.specs.List.Sorted.{IsStrictlySortedBy}
use Rattle.std.specs.Map.{keys_of}
use Rattle.std.specs.Cmp.Lexicographic.{slice_cmp}
use Rattle.serde_json.specs.Data.{Data, Members, no_members, member}
use Rattle.serde_json.specs.View.{members_view}
use Rattle.serde_json.specs.declared.value.Value.{Value}
use Rattle.row_model.specs.declared.rows.Value.{Value as CellValue}
use Rattle.row_model.specs.declared.rows.Cell.{Cell}
use Rattle.row_model.specs.Values.{IsCell}
use Rattle.row_model.specs.declared.row_fault.RowFault.{RowFault}
use Rattle.row_model.specs.declared.row_fault.RowFault.TheVariants.{Name}
use Rattle.row_model.specs.declared.row_fault.RowFault.TheVariants as fault
use Rattle.row_json.specs.Row.{is_time, is_bad_name, is_missing, value_of, named_cell, cell_of, and_then, cells_of, cell_count}
use Rattle.row_json.specs.QuickRow.{Ascend, Below, cell_names, names_of}
use Rattle.row_json.proofs.Rows.{with_cell}

-- what is known of the cell that a member is
pub record IsCellOf (name : List ℕ) (d : Data) (c : Cell) : Type 0 where
  pub is : c.name ≡ name
  pub no_time : is_time name ≡ false
  pub good : is_bad_name name ≡ false
  pub there : is_missing d ≡ false
  pub value : value_of d ≡ Some c.value

chosen : (t b m : Bool) (v : Option CellValue) (name : List ℕ) (d : Data) → is_time name ≡ t → is_bad_name name ≡ b → is_missing d ≡ m → value_of d ≡ v → IfOk (cond t (Ok None) (cond b (Err (Name name)) (cond m (Ok None) (and_then (ok_or v (fault.Value name)) (λ value. Ok (Some (named_cell name value))))))) (λ o. IfSome o (IsCellOf name d))
chosen true b m v name d et eb em ev = tt
chosen false true m v name d et eb em ev = tt
chosen false false true v name d et eb em ev = tt
chosen false false false None name d et eb em ev = tt
chosen false false false (Some v) name d et eb em ev = record { is = refl; no_time = et; good = eb; there = em; value = ev }

pub cell_is : (name : List ℕ) (d : Data) → IfOk (cell_of name d) (λ o. IfSome o (IsCellOf name d))
cell_is name d = chosen (is_time name) (is_bad_name name) (is_missing d) (value_of d) name d refl refl refl refl

with_count : (name : List ℕ) (d : Data) (n : ℕ) (r : Result (Option Cell) RowFault) (rest : Result (List Cell) RowFault) → IfOk r (λ o. IfSome o (IsCellOf name d)) → IfOk rest (λ cs. length cs ≤ n) → IfOk (with_cell r rest) (λ cs. length cs ≤ cond (is_time name || is_missing d) 0 1 + n)
with_count name d n (Ok None) (Ok cs) one more = omega (arith, more)
with_count name d n (Ok None) (Err e) one more = tt
with_count name d n (Ok (Some c)) (Ok cs) one more = rw (one.no_time, one.there) (omega (arith, more))
with_count name d n (Ok (Some c)) (Err e) one more = tt
with_count name d n (Err e) rest one more = tt

pub cells_counted : (ms : Members) → IfOk (cells_of ms) (λ cs. length cs ≤ cell_count ms)
cells_counted no_members = omega arith
cells_counted (member k d ms) = with_count k d (cell_count ms) (cell_of k d) (cells_of ms) (cell_is k d) (cells_counted ms)

with_above : (k name : List ℕ) (d : Data) (r : Result (Option Cell) RowFault) (rest : Result (List Cell) RowFault) → IfOk r (λ o. IfSome o (IsCellOf name d)) → Below k name → IfOk rest (λ cs. AllByRecursion (Below k) (cell_names cs)) → IfOk (with_cell r rest) (λ cs. AllByRecursion (Below k) (cell_names cs))
with_above k name d (Ok None) (Ok cs) one h more = more
with_above k name d (Ok None) (Err e) one h more = tt
with_above k name d (Ok (Some c)) (Ok cs) one h more = (subst (Below k) (sym one.is) h, more)
with_above k name d (Ok (Some c)) (Err e) one h more = tt
with_above k name d (Err e) rest one h more = tt

pub cells_above : (k : List ℕ) (ms : Members) → AllByRecursion (Below k) (names_of ms) → IfOk (cells_of ms) (λ cs. AllByRecursion (Below k) (cell_names cs))
cells_above k no_members h = tt
cells_above k (member n d ms) h = with_above k n d (cell_of n d) (cells_of ms) (cell_is n d) h.0 (cells_above k ms h.1)

with_ascending : (name : List ℕ) (d : Data) (r : Result (Option Cell) RowFault) (rest : Result (List Cell) RowFault) → IfOk r (λ o. IfSome o (IsCellOf name d)) → IfOk rest (λ cs. AllByRecursion (Below name) (cell_names cs)) → IfOk rest Ascend → IfOk (with_cell r rest) Ascend
unfolding IsStrictlySortedBy
with_ascending name d (Ok None) (Ok cs) one above more = more
with_ascending name d (Ok None) (Err e) one above more = tt
with_ascending name d (Ok (Some c)) (Ok cs) one above more =
    let P : List ℕ → Type 0 = λ n. AllByRecursion (Below n) (cell_names cs) in
    (subst P (sym one.is) above, more)
with_ascending name d (Ok (Some c)) (Err e) one above more = tt
with_ascending name d (Err e) rest one above more = tt

pub cells_ascend : (ms : Members) → IsStrictlySortedBy (slice_cmp nat_cmp) (names_of ms) → IfOk (cells_of ms) Ascend
unfolding IsStrictlySortedBy
cells_ascend no_members h = tt
cells_ascend (member n d ms) h = with_ascending n d (cell_of n d) (cells_of ms) (cell_is n d) (cells_above n ms h.0) (cells_ascend ms h.1)

names_all : (P : List ℕ → Type 0) (es : List (String Global × Value)) → AllByRecursion (λ k. P (string_bytes k)) (keys_of es) → AllByRecursion P (names_of (members_view es))
names_all P [] h = tt
names_all P (e ∷ es) h = (h.0, names_all P es h.1)

pub names_sorted : (es : List (String Global × Value)) → IsStrictlySortedBy string_cmp (keys_of es) → IsStrictlySortedBy (slice_cmp nat_cmp) (names_of (members_view es))
unfolding IsStrictlySortedBy
names_sorted [] h = tt
names_sorted (e ∷ es) h = (names_all (Below (string_bytes e.0)) es h.0, names_sorted es h.1)

pub entries_ascend : (es : List (String Global × Value)) → IsStrictlySortedBy string_cmp (keys_of es) → IfOk (cells_of (members_view es)) Ascend
entries_ascend es h = cells_ascend (members_view es) (names_sorted es h)

pub at_ok : (v : List Cell) (r : Result (List Cell) RowFault) (P : List Cell → Type 0) → Ok v ≡ r → IfOk r P → P v
at_ok v r P e h =
    let Q : Result (List Cell) RowFault → Type 0 = λ s. IfOk s P in
    subst Q (sym e) h

all_with : (P : Cell → Type 0) (cs : List Cell) (c : Cell) → AllByRecursion P cs → P c → AllByRecursion P (cs ++ c ∷ [])
all_with P [] c h one = (one, tt)
all_with P (d ∷ cs) c h one = (h.0, all_with P cs c h.1 one)

-- one more cell at the end
pub are_cells_with : (cs more : List Cell) (c : Cell) → more ≡ cs ++ c ∷ [] → AllByRecursion IsCell cs → IsCell c → AllByRecursion IsCell more
are_cells_with cs more c is h one = subst (AllByRecursion IsCell) (sym is) (all_with IsCell cs c h one)
