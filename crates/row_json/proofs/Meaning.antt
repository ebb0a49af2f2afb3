-- A text's row, or its fault, is what the members of its object say.
use Rattle.std.proofs.Common.{◌≡◌, ◌↔◌, ℕ, ◌≤ℤ◌, ℤ, pos, negsuc, List, Option, Some, None, option_and_then, unwrap_or, Result, Ok, Err, Bool, true, false, cond, true≢false, nat_lt, arith, rules, refl, ap, sym, subst, ◌∙◌}
use Rattle.std.proofs.lemmas.Bool.{ltb-true, ltb-false, lt-ltb, le-ltb}
use Rattle.std.proofs.lemmas.Str.{is_utf8-from_IsUtf8, IsUtf8-from_is_utf8}
use Rattle.std.specs.Str.{is_utf8, IsUtf8}
use Rattle.serde_json.specs.Data.{Data, null, boolean, number, string, array, object, Members}
use Rattle.serde_json.specs.Find.{get_member, as_number, as_object, as_i64}
use Rattle.serde_json.specs.Read.{read}
use Rattle.row_model.specs.Values.{time_name}
use Rattle.row_model.specs.declared.rows.Cell.{Cell}
use Rattle.row_model.specs.declared.rows.Row.{Row}
use Rattle.row_json.specs.Row.{not_negative, time_of, cell_count, cells_of, row_of_members, row_of_data, row_of}
use Rattle.row_json.specs.Meaning.{IsObject, IsTimeOf, HasTime, IsRowOf, HasFault, IsThisRow, Refuses}
use Rattle.row_model.specs.declared.row_fault.RowFault.{RowFault}
use Rattle.row_model.specs.declared.row_fault.RowFault.TheVariants.{Json, NotObject, NoTime, TooMany, Name, NoMemory}
use Rattle.row_model.specs.declared.row_fault.RowFault.TheVariants as fault
use Rattle.row_json.proofs.Rows.{row_with, row_of-some, row_of-none}
use Rattle.row_json.proofs.Found.{found_none, read_ascends}
use Rattle.row_json.proofs.Cells.{err≢ok, ok≢err, cells_whole, cells_only}
use Rattle.row_json.proofs.Faults.{first_fault, fault_first}

-- ---- the time

pub integer_at : (i : Option ℤ) (t : ℤ) → option_and_then not_negative i ≡ Some t → (i ≡ Some t) × (pos 0 ≤ℤ t)
integer_at None t h = absurd (found_none t h)
integer_at (Some (pos n)) t h =
    let same : pos n ≡ t = ap (λ o. unwrap_or o t) h in
    let from_0 : pos 0 ≤ℤ pos n = search rules in
    (ap Some same, subst (λ z. pos 0 ≤ℤ z) same from_0)
integer_at (Some (negsuc n)) t h = absurd (found_none t h)

time_at : (g : Option Data) (all : Members) (t : ℤ) → get_member time_name all ≡ g → option_and_then not_negative (option_and_then as_i64 (option_and_then as_number g)) ≡ Some t → IsTimeOf all t
time_at None all t is h = absurd (found_none t h)
time_at (Some d) all t is h =
    let both = integer_at (option_and_then as_i64 (as_number d)) t h in
    record { value = d; has = is; integer = both.0; not_negative = both.1 }

time_found : (all : Members) (t : ℤ) → time_of (object all) ≡ Some t → IsTimeOf all t
time_found all t h = time_at (get_member time_name all) all t refl h

kept : (t : ℤ) → pos 0 ≤ℤ t → not_negative t ≡ Some t
kept (pos n) h = refl
kept (negsuc n) h = absurd (omega (arith, h))

time_given : (all : Members) (t : ℤ) → IsTimeOf all t → time_of (object all) ≡ Some t
time_given all t x = ap (λ g. option_and_then not_negative (option_and_then as_i64 (option_and_then as_number g))) x.has ∙ ap (option_and_then not_negative) x.integer ∙ kept t x.not_negative

-- ---- the members

abbrev Read : Type 0
Read = Result Row RowFault

fault_or : Read → RowFault → RowFault
fault_or (Ok r) other = other
fault_or (Err e) other = e

row_or : Read → Row → Row
row_or (Ok r) other = r
row_or (Err e) other = other

same_fault : (e f : RowFault) → ◌≡◌ {A = Read} (Err e) (Err f) → e ≡ f
unfolding fault_or
same_fault e f h = ap (λ (r : Read). fault_or r f) h

same_row : (a b : Row) → ◌≡◌ {A = Read} (Ok a) (Ok b) → a ≡ b
unfolding row_or
same_row a b h = ap (λ (r : Read). row_or r b) h

refused_by : (text : List ℕ) (all : Members) (f : RowFault) → IsObject text all → HasFault all f → Refuses text f
refused_by text all (Name n) obj x = (all, obj, x)
refused_by text all (fault.Value n) obj x = (all, obj, x)
refused_by text all Json obj x = absurd x.fault.is
refused_by text all NotObject obj x = absurd x.fault.is
refused_by text all NoTime obj x = absurd x.fault.is
refused_by text all TooMany obj x = absurd x.fault.is
refused_by text all NoMemory obj x = absurd x.fault.is

fault_of_cells : (t : ℤ) (r : Result (List Cell) RowFault) (f : RowFault) → row_with t r ≡ Err f → r ≡ Err f
fault_of_cells t (Ok cs) f h = absurd (ok≢err f (record { time = t; cells = cs }) h)
fault_of_cells t (Err e) f h = ap Err (same_fault e f h)

cells_of_row : (t : ℤ) (r : Result (List Cell) RowFault) (row : Row) → row_with t r ≡ Ok row → (cs : List Cell) × (r ≡ Ok cs) × (record { time = t; cells = cs } ≡ row)
cells_of_row t (Ok cs) row h = (cs, refl, same_row (record { time = t; cells = cs }) row h)
cells_of_row t (Err e) row h = absurd (err≢ok e row h)

many_fault : (text : List ℕ) (all : Members) (t : ℤ) (f : RowFault) (b : Bool) → IsObject text all → IsTimeOf all t → nat_lt 1024 (cell_count all) ≡ b → cond b (Err TooMany) (row_with t (cells_of all)) ≡ Err f → Refuses text f
many_fault text all t f true obj time eb h = subst (Refuses text) (same_fault TooMany f h) (all, obj, (t, time), ltb-true 1024 (cell_count all) eb)
many_fault text all t f false obj time eb h =
    refused_by text all f obj record {
      time = (t, time);
      few = ltb-false 1024 (cell_count all) eb;
      fault = first_fault all f (read_ascends text all obj.reads) (fault_of_cells t (cells_of all) f h);
    }

member_fault : (text : List ℕ) (all : Members) (f : RowFault) (o : Option ℤ) → IsObject text all → time_of (object all) ≡ o → row_of_members o all ≡ Err f → Refuses text f
member_fault text all f None obj eo h = subst (Refuses text) (same_fault NoTime f h) (all, obj, λ x. found_none x.0 (sym eo ∙ time_given all x.0 x.1))
member_fault text all f (Some t) obj eo h = many_fault text all t f (nat_lt 1024 (cell_count all)) obj (time_found all t eo) refl h

few_given : (text : List ℕ) (all : Members) (t : ℤ) (row : Row) (b : Bool) → IsObject text all → IsTimeOf all t → nat_lt 1024 (cell_count all) ≡ b → cond b (Err TooMany) (row_with t (cells_of all)) ≡ Ok row → IsThisRow text row
few_given text all t row true obj time eb h = absurd (err≢ok TooMany row h)
few_given text all t row false obj time eb h =
    let made = cells_of_row t (cells_of all) row h in
    let given : IsRowOf all (record { time = t; cells = made.0 }) = record {
      time = time;
      whole = cells_whole all made.0 made.1;
      only = cells_only all made.0 (read_ascends text all obj.reads) made.1;
    } in
    record {
      all = all;
      object = obj;
      few = ltb-false 1024 (cell_count all) eb;
      is = subst (IsRowOf all) made.2 given;
    }

members_given : (text : List ℕ) (all : Members) (row : Row) (o : Option ℤ) → IsObject text all → time_of (object all) ≡ o → row_of_members o all ≡ Ok row → IsThisRow text row
members_given text all row None obj eo h = absurd (err≢ok NoTime row h)
members_given text all row (Some t) obj eo h = few_given text all t row (nat_lt 1024 (cell_count all)) obj (time_found all t eo) refl h

-- ---- the text

data Reading (text : List ℕ) : Type 0 where
  no_json : (IsUtf8 text → read text ≡ None) → Reading text
  json : (d : Data) → IsUtf8 text → read text ≡ Some d → Reading text

reading_at : (text : List ℕ) (b : Bool) (o : Option Data) → is_utf8 text ≡ b → read text ≡ o → Reading text
reading_at text false o eb eo = no_json (λ utf8. absurd (true≢false (sym (is_utf8-from_IsUtf8 text utf8) ∙ eb)))
reading_at text true None eb eo = no_json (λ utf8. eo)
reading_at text true (Some d) eb eo = json d (IsUtf8-from_is_utf8 text eb) eo

reading : (text : List ℕ) → Reading text
reading text = reading_at text (is_utf8 text) (read text) refl refl

no_object : (text : List ℕ) (d : Data) (f : RowFault) → IsUtf8 text → read text ≡ Some d → as_object d ≡ None → ◌≡◌ {A = Read} (Err NotObject) (Err f) → Refuses text f
no_object text d f utf8 is other h = subst (Refuses text) (same_fault NotObject f h) (utf8, (d, is, other))

data_fault : (text : List ℕ) (d : Data) (f : RowFault) → IsUtf8 text → read text ≡ Some d → row_of_data d ≡ Err f → Refuses text f
data_fault text null f utf8 is h = no_object text null f utf8 is refl h
data_fault text (boolean b) f utf8 is h = no_object text (boolean b) f utf8 is refl h
data_fault text (number n) f utf8 is h = no_object text (number n) f utf8 is refl h
data_fault text (string s) f utf8 is h = no_object text (string s) f utf8 is refl h
data_fault text (array items) f utf8 is h = no_object text (array items) f utf8 is refl h
data_fault text (object all) f utf8 is h = member_fault text all f (time_of (object all)) record { utf8 = utf8; reads = is } refl h

data_given : (text : List ℕ) (d : Data) (row : Row) → IsUtf8 text → read text ≡ Some d → row_of_data d ≡ Ok row → IsThisRow text row
data_given text null row utf8 is h = absurd (err≢ok NotObject row h)
data_given text (boolean b) row utf8 is h = absurd (err≢ok NotObject row h)
data_given text (number n) row utf8 is h = absurd (err≢ok NotObject row h)
data_given text (string s) row utf8 is h = absurd (err≢ok NotObject row h)
data_given text (array items) row utf8 is h = absurd (err≢ok NotObject row h)
data_given text (object all) row utf8 is h = members_given text all row (time_of (object all)) record { utf8 = utf8; reads = is } refl h

fault_means : (text : List ℕ) (f : RowFault) → Reading text → row_of text ≡ Err f → Refuses text f
fault_means text f (no_json none) h = subst (Refuses text) (same_fault Json f (sym (row_of-none text none) ∙ h)) none
fault_means text f (json d utf8 is) h = data_fault text d f utf8 is (sym (row_of-some text d utf8 is) ∙ h)

row_means : (text : List ℕ) (row : Row) → Reading text → row_of text ≡ Ok row → IsThisRow text row
row_means text row (no_json none) h = absurd (err≢ok Json row (sym (row_of-none text none) ∙ h))
row_means text row (json d utf8 is) h = data_given text d row utf8 is (sym (row_of-some text d utf8 is) ∙ h)

-- ---- and back

not_object : (d : Data) → as_object d ≡ None → row_of_data d ≡ Err NotObject
not_object null h = refl
not_object (boolean b) h = refl
not_object (number n) h = refl
not_object (string s) h = refl
not_object (array items) h = refl
not_object (object all) h = absurd (found_none all (sym h))

no_time_at : (all : Members) (o : Option ℤ) → time_of (object all) ≡ o → (HasTime all → ⊥) → row_of_members o all ≡ Err NoTime
no_time_at all None eo h = refl
no_time_at all (Some t) eo h = absurd (h (t, time_found all t eo))

at_time : (text : List ℕ) (all : Members) (t : ℤ) → IsObject text all → IsTimeOf all t → row_of text ≡ row_of_members (Some t) all
at_time text all t obj time = row_of-some text (object all) obj.utf8 obj.reads ∙ ap (λ o. row_of_members o all) (time_given all t time)

has_fault : (text : List ℕ) (all : Members) (f : RowFault) → IsObject text all → HasFault all f → row_of text ≡ Err f
has_fault text all f obj x =
    at_time text all x.time.0 obj x.time.1
    ∙ ap (λ b. cond b (Err TooMany) (row_with x.time.0 (cells_of all))) (le-ltb 1024 (cell_count all) x.few)
    ∙ ap (row_with x.time.0) (fault_first all f (read_ascends text all obj.reads) x.fault)

fault_is : (text : List ℕ) (f : RowFault) → Refuses text f → row_of text ≡ Err f
fault_is text Json h = row_of-none text h
fault_is text NotObject h = row_of-some text h.1.0 h.0 h.1.1 ∙ not_object h.1.0 h.1.2
fault_is text NoTime h = row_of-some text (object h.0) h.1.utf8 h.1.reads ∙ no_time_at h.0 (time_of (object h.0)) refl h.2
fault_is text TooMany h =
    at_time text h.0 h.2.0 h.1 h.2.1 ∙ ap (λ b. cond b (Err TooMany) (row_with h.2.0 (cells_of h.0))) (lt-ltb 1024 (cell_count h.0) h.3)
fault_is text (Name n) h = has_fault text h.0 (Name n) h.1 h.2
fault_is text (fault.Value n) h = has_fault text h.0 (fault.Value n) h.1 h.2
fault_is text NoMemory h = absurd h

pub rows_meaning : (text : List ℕ) (row : Row) → row_of text ≡ Ok row → IsThisRow text row
rows_meaning text row h = row_means text row (reading text) h

pub faults_meaning : (text : List ℕ) (f : RowFault) → (row_of text ≡ Err f) ↔ Refuses text f
faults_meaning text f = (fault_means text f (reading text), fault_is text f)
