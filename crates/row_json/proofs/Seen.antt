-- Members that are fine one by one make a row.
use Rattle.std.proofs.Common.{◌≡◌, ℕ, ℤ, ◌+◌, ◌≤◌, List, [], ◌∷◌, ◌++◌, length, Option, Some, None, option_map, option_and_then, Ok, Bool, true, false, cond, ◌||◌, Ordering, Less, Equal, Greater, nat_cmp, is_eq, refl, ap, sym, subst, ◌∙◌, arith, true≢false}
use Rattle.std.specs.Int.{w64}
use Rattle.std.specs.Prelude.{FitsSigned, IsUtf8, ◌≤ℤ◌, ◌<ℤ◌, option_to_list, ◌<◌, ◌^◌, pos, negsuc}
use Rattle.std.proofs.lemmas.Bool.{le-ltb, lt-ltb, le-leb, ne_eqb}
use Rattle.fast_float.specs.Text.{Parts, IsInteger, digits_of, with_sign}
use Rattle.std.proofs.lemmas.Map.Text.{is_eq-slice_cmp}
use Rattle.std.proofs.lemmas.Slice.Eq.{bytes_eq-Decides}
use Rattle.std.specs.Cmp.Lexicographic.{slice_cmp}
use Rattle.std.specs.Ordering.{match_ordering}
use Rattle.std.specs.Option.{IfSome}
use Rattle.json.specs.Token.{Token}
use Rattle.json.specs.Json.{value}
use Rattle.json.proofs.Grammar.{value_is}
use Rattle.serde_json.specs.Data.{Data, Num, unsigned, negative, null, number, string, object, Members, no_members, member, put}
use Rattle.serde_json.specs.Find.{get_member, as_i64, as_number}
use Rattle.serde_json.specs.Read.{converted, of_json, number_from, is_integer, read}
use Rattle.serde_json.proofs.Views.{get_member-put, get_member-put_other}
use Rattle.row_model.specs.Values.{time_name}
use Rattle.row_model.specs.declared.rows.Cell.{Cell}
use Rattle.row_model.specs.declared.rows.Value.TheVariants.{Int, Text}
use Rattle.row_json.specs.Row.{is_time, is_missing, is_bad_name, named_cell, cell_of, cell_count, cells_of, not_negative, row_of, row_of_data}
use Rattle.row_json.proofs.Rows.{row_of-some}
use Rattle.row_json.proofs.Found.{found_none}
use Rattle.row_json.specs.Quick.{AreFine, AreOfRow, HasNoFault, Knows, data_of, natural_of}

-- ---- numbers

integer_true : (p : Parts) → IsInteger p → is_integer p ≡ true
integer_true p h = rw (lt-ltb 0 _ h.0, h.1, h.2)

pub from_zero_is : (p : Parts) (n : ℕ) → IsInteger p → digits_of p < 2 ^ 64 → n ≡ digits_of p → n < 2 ^ 63 → (num : Num) × (number_from false p ≡ Some num) × (as_i64 num ≡ Some (pos n))
from_zero_is p n is fits same small =
    let less : digits_of p < 2 ^ 63 = omega (arith, same, small) in
    (unsigned (digits_of p), rw (integer_true p is, lt-ltb (digits_of p) (2 ^ 64) fits), rw (lt-ltb (digits_of p) (2 ^ 63) less, same))

pub below_zero_is : (p : Parts) (z : ℤ) → IsInteger p → FitsSigned w64 (with_sign true (digits_of p)) → z ≡ with_sign true (digits_of p) → z <ℤ pos 0 → (num : Num) × (number_from true p ≡ Some num) × (as_i64 num ≡ Some z)
below_zero_is p z is fits same less =
    let some : 0 < digits_of p = grind arith in
    let few : digits_of p ≤ 2 ^ 63 = grind arith in
    (negative (with_sign true (digits_of p)), rw (integer_true p is, lt-ltb 0 (digits_of p) some, le-leb (digits_of p) (2 ^ 63) few), ap Some (sym same))

-- ---- one member more

same_name : (k l : List ℕ) → slice_cmp nat_cmp k l ≡ Equal → k ≡ l
same_name k l is = (bytes_eq-Decides k l).0 (sym (is_eq-slice_cmp k l) ∙ ap is_eq is)

fine_at : (o : Ordering) (k l : List ℕ) (d e : Data) (ms : Members) → slice_cmp nat_cmp k l ≡ o → HasNoFault k d → AreFine (member l e ms) → AreFine (put k d ms)
    → AreFine (match_ordering o (member k d (member l e ms)) (member l d ms) (member l e (put k d ms)))
fine_at Less k l d e ms is one all more = (one, all)
fine_at Equal k l d e ms is one all more = (subst (λ (n : List ℕ). HasNoFault n d) (same_name k l is) one, all.1)
fine_at Greater k l d e ms is one all more = (all.0, more)

pub fine_put : (k : List ℕ) (d : Data) (ms : Members) → HasNoFault k d → AreFine ms → AreFine (put k d ms)
fine_put k d no_members one all = (one, tt)
fine_put k d (member l e ms) one all = fine_at (slice_cmp nat_cmp k l) k l d e ms refl one all (fine_put k d ms one all.1)

pub at_most_one : (b : Bool) → cond b 0 1 ≤ 1
at_most_one true = omega arith
at_most_one false = omega arith

abbrev counts : List ℕ → Data → ℕ
counts k d = cond (is_time k || is_missing d) 0 1

count_at : (o : Ordering) (k l : List ℕ) (d e : Data) (ms : Members) → cell_count (put k d ms) ≤ cell_count ms + 1
    → cell_count (match_ordering o (member k d (member l e ms)) (member l d ms) (member l e (put k d ms))) ≤ cell_count (member l e ms) + 1
count_at Less k l d e ms more = omega (arith, at_most_one (is_time k || is_missing d))
count_at Equal k l d e ms more = omega (arith, at_most_one (is_time l || is_missing d))
count_at Greater k l d e ms more = omega (arith, more)

pub count_put : (k : List ℕ) (d : Data) (ms : Members) → cell_count (put k d ms) ≤ cell_count ms + 1
count_put k d no_members = omega (arith, at_most_one (is_time k || is_missing d))
count_put k d (member l e ms) = count_at (slice_cmp nat_cmp k l) k l d e ms (count_put k d ms)

abbrev time_from : Option Data → Option ℤ
time_from o = option_and_then not_negative (option_and_then as_i64 (option_and_then as_number o))

-- the time stays where another name is put
pub knows_other : (time : Option ℤ) (k : List ℕ) (d : Data) (old : Members) → is_time k ≡ false → Knows time old → Knows time (put k d old)
knows_other None k d old other h = tt
knows_other (Some t) k d old other h =
    let apart : time_name ≡ k → ⊥ = λ same. true≢false (sym ((bytes_eq-Decides k time_name).1 (sym same)) ∙ other) in
    ap time_from (get_member-put_other time_name k d old apart) ∙ h

-- and is what was put under its own
pub knows_time : (t : ℤ) (k : List ℕ) (d : Data) (old : Members) → is_time k ≡ true → natural_of d ≡ Some t → Knows (Some t) (put k d old)
knows_time t k d old own h =
    let same : k ≡ time_name = (bytes_eq-Decides k time_name).0 own in
    ap time_from (subst (λ (n : List ℕ). get_member n (put k d old) ≡ Some d) same (get_member-put k d old)) ∙ h

-- ---- the grammar

pub of_token : (depth : ℕ) (t : Token) (r : List Token) (d : Data) → data_of t ≡ Some d → converted of_json (value depth (t ∷ r)) ≡ Some (d, r)
of_token depth (Token.number s) r d h = ap (converted of_json) (value_is depth (Token.number s ∷ r)) ∙ ap (option_map (λ b. (b, r))) h
of_token depth (Token.string s) r d h = ap (converted of_json) (value_is depth (Token.string s ∷ r)) ∙ ap (option_map (λ b. (b, r))) h
of_token depth Token.null r d h = ap (converted of_json) (value_is depth (Token.null ∷ r)) ∙ ap (option_map (λ b. (b, r))) h
of_token depth Token.begin_object r d h = absurd (found_none d h)
of_token depth Token.end_object r d h = absurd (found_none d h)
of_token depth Token.begin_array r d h = absurd (found_none d h)
of_token depth Token.end_array r d h = absurd (found_none d h)
of_token depth (Token.key s) r d h = absurd (found_none d h)
of_token depth (Token.boolean b) r d h = absurd (found_none d h)
of_token depth Token.bad r d h = absurd (found_none d h)

-- ---- the row

-- fine members have cells
cells_at : (k : List ℕ) (d : Data) (ms : Members) (one : Option Cell) (cells : List Cell) → cell_of k d ≡ Ok one → cells_of ms ≡ Ok cells → (all : List Cell) × (cells_of (member k d ms) ≡ Ok all)
cells_at k d ms one cells is more = (option_to_list one ++ cells, rw (is, more))

pub fine_cells : (ms : Members) → AreFine ms → (cells : List Cell) × (cells_of ms ≡ Ok cells)
fine_cells no_members h = ([], refl)
fine_cells (member k d ms) h = let more = fine_cells ms h.1 in cells_at k d ms h.0.0 more.0 h.0.1 more.1

pub row_is : (t : ℤ) (all : Members) → AreOfRow t all → (cells : List Cell) × (row_of_data (object all) ≡ Ok (record { time = t; cells = cells }))
row_is t all h = let found = fine_cells all h.fine in (found.0, rw (h.known, le-ltb 1024 (cell_count all) h.few, found.1))

-- ---- what a cell may hold

pub good_name : (name : List ℕ) → 0 < length name → length name ≤ 255 → is_bad_name name ≡ false
good_name name some few = rw (ne_eqb (length name) 0 (λ e. omega (arith, e, some)), le-ltb 255 (length name) few)

pub fine_number : (name : List ℕ) (num : Num) (z : ℤ) → is_time name ≡ false → is_bad_name name ≡ false → as_i64 num ≡ Some z → HasNoFault name (number num)
fine_number name num z t b e = (Some (named_cell name (Int z)), rw (t, b, e))

pub fine_string : (name s : List ℕ) → is_time name ≡ false → is_bad_name name ≡ false → length s ≤ 65535 → HasNoFault name (string s)
fine_string name s t b few = (Some (named_cell name (Text s)), rw (t, b, le-ltb 65535 (length s) few))

pub fine_null : (name : List ℕ) → is_time name ≡ false → is_bad_name name ≡ false → HasNoFault name null
fine_null name t b = (None, rw (t, b))

pub fine_time : (name : List ℕ) (d : Data) → is_time name ≡ true → HasNoFault name d
fine_time name d t = (None, rw t)

pub not_negative_is : (z : ℤ) → pos 0 ≤ℤ z → not_negative z ≡ Some z
not_negative_is (pos n) h = refl
not_negative_is (negsuc n) h = absurd (grind arith)

-- where the brace comes, the members are those of a row, if their time is known
pub ended : (time : Option ℤ) (all : Members) (found : Option (Members × List Token)) (rest : List Token) → found ≡ Some (all, rest) → Knows time all → AreFine all → cell_count all ≤ 1024
    → IfSome time (λ t. (x : Members) × (found ≡ Some (x, rest)) × AreOfRow t x)
ended None all found rest is known fine few = tt
ended (Some t) all found rest is known fine few = (all, is, record { known = known; fine = fine; few = few })

pub quick_is : (found : Option ℤ) (text : List ℕ) → IsUtf8 text → IfSome found (λ t. (all : Members) × (read text ≡ Some (object all)) × AreOfRow t all)
    → IfSome found (λ t. (cells : List Cell) × (row_of text ≡ Ok (record { time = t; cells = cells })))
quick_is None text utf8 h = tt
quick_is (Some t) text utf8 h = let row = row_is t h.0 h.2 in (row.0, row_of-some text (object h.0) utf8 h.1 ∙ row.1)
