-- The cells of an object's members, and the first fault, against what the members say.
use Rattle.std.proofs.Common.{◌≡◌, ◌≢◌, inl, inr, ℕ, ℤ, List, arith, [], ◌∷◌, length, nat_lt, Option, Some, None, option_map, option_and_then, unwrap_or, ok_or, Result, Ok, Err, Bool, true, false, cond, true≢false, Contains, refl, ap, sym, subst, ◌∙◌}
use Rattle.std.proofs.lemmas.Bool.{ltb-false, le-ltb}
use Rattle.std.proofs.lemmas.List.Elements.{Contains-append_right}
use Rattle.std.proofs.lemmas.Slice.Eq.{bytes_eq-Decides}
use Rattle.std.specs.List.{AllByRecursion}
use Rattle.std.specs.List.Sorted.{IsStrictlySortedBy}
use Rattle.std.specs.Result.{is_ok}
use Rattle.serde_json.specs.Data.{Data, null, boolean, number, string, array, object, Num, Members, no_members, member}
use Rattle.serde_json.specs.Find.{as_i64}
use Rattle.row_model.specs.Values.{time_name}
use Rattle.row_model.specs.declared.rows.Value.{Value}
use Rattle.row_model.specs.declared.rows.Value.TheVariants.{Int, Text, Set}
use Rattle.row_model.specs.declared.rows.Cell.{Cell}
use Rattle.row_json.specs.Row.{is_time, is_bad_name, is_missing, text_of, value_of, named_cell, cell_of, and_then, cells_of}
use Rattle.row_json.specs.Meaning.{HoldsValue, IsOther}
use Rattle.row_model.specs.declared.row_fault.RowFault.{RowFault}
use Rattle.row_model.specs.declared.row_fault.RowFault.TheVariants.{Name}
use Rattle.row_model.specs.declared.row_fault.RowFault.TheVariants as fault
use Rattle.row_json.proofs.Rows.{before, with_cell, before_none}
use Rattle.row_json.proofs.SetMeaning.{set_held, held_set}
use Rattle.row_json.specs.QuickRow.{Ascending, Below}
use Rattle.row_json.proofs.Found.{found_here, found_later, found_cases, found_none, found_all}

-- ---- one member

abbrev is_array : Data → Bool
is_array (array items) = true
is_array other = false

integer_held : (n : Num) (o : Option ℤ) (v : Value) → as_i64 n ≡ o → option_map Int o ≡ Some v → HoldsValue (number n) v
integer_held n None v is h = absurd (found_none v h)
integer_held n (Some z) v is h = subst (HoldsValue (number n)) (ap (λ o. unwrap_or o v) h) is

text_held : (s : List ℕ) (b : Bool) (v : Value) → nat_lt 65535 (length s) ≡ b → cond b None (Some (Text s)) ≡ Some v → HoldsValue (string s) v
text_held s true v is h = absurd (found_none v h)
text_held s false v is h = subst (HoldsValue (string s)) (ap (λ o. unwrap_or o v) h) (refl, ltb-false 65535 (length s) is)

value_held : (d : Data) (v : Value) → value_of d ≡ Some v → HoldsValue d v
value_held null v h = absurd (found_none v h)
value_held (boolean b) v h = absurd (found_none v h)
value_held (number n) v h = integer_held n (as_i64 n) v refl h
value_held (string s) v h = text_held s (nat_lt 65535 (length s)) v refl h
value_held (array items) v h = set_held items v h
value_held (object all) v h = absurd (found_none v h)

held_value : (d : Data) (v : Value) → HoldsValue d v → value_of d ≡ Some v
held_value null (Int z) h = ap (option_map Int) h
held_value (boolean b) (Int z) h = ap (option_map Int) h
held_value (number n) (Int z) h = ap (option_map Int) h
held_value (string s) (Int z) h = absurd (found_none z h)
held_value (array items) (Int z) h = absurd (found_none z h)
held_value (object all) (Int z) h = ap (option_map Int) h
held_value null (Text t) h = absurd (found_none t h.0)
held_value (boolean b) (Text t) h = absurd (found_none t h.0)
held_value (number n) (Text t) h = absurd (found_none t h.0)
held_value (string s) (Text t) h = ap (option_and_then text_of) h.0 ∙ ap (λ b. cond b None (Some (Text t))) (le-ltb 65535 (length t) h.1)
held_value (array items) (Text t) h = absurd (found_none t h.0)
held_value (object all) (Text t) h = absurd (found_none t h.0)
held_value null (Set ts) h = absurd (true≢false (sym (ap is_array h.is)))
held_value (boolean b) (Set ts) h = absurd (true≢false (sym (ap is_array h.is)))
held_value (number n) (Set ts) h = absurd (true≢false (sym (ap is_array h.is)))
held_value (string s) (Set ts) h = absurd (true≢false (sym (ap is_array h.is)))
held_value (array items) (Set ts) h = held_set items ts h
held_value (object all) (Set ts) h = absurd (true≢false (sym (ap is_array h.is)))

null_missing : (d : Data) → is_missing d ≡ true → d ≡ null
null_missing null h = refl
null_missing (boolean b) h = absurd (true≢false (sym h))
null_missing (number n) h = absurd (true≢false (sym h))
null_missing (string s) h = absurd (true≢false (sym h))
null_missing (array items) h = absurd (true≢false (sym h))
null_missing (object all) h = absurd (true≢false (sym h))

-- what a member is, and what is read of it
pub data Case (name : List ℕ) (d : Data) : Type 0 where
  the_time : name ≡ time_name → cell_of name d ≡ Ok None → Case name d
  bad_name : name ≢ time_name → is_bad_name name ≡ true → cell_of name d ≡ Err (Name name) → Case name d
  missing : name ≢ time_name → is_bad_name name ≡ false → d ≡ null → cell_of name d ≡ Ok None → Case name d
  held : name ≢ time_name → is_bad_name name ≡ false → d ≢ null → (v : Value) → HoldsValue d v → cell_of name d ≡ Ok (Some (named_cell name v)) → Case name d
  bad_value : name ≢ time_name → is_bad_name name ≡ false → d ≢ null → ((v : Value) → ¬ HoldsValue d v) → cell_of name d ≡ Err (fault.Value name) → Case name d

chosen : Bool → Bool → Bool → Option Value → List ℕ → Result (Option Cell) RowFault
chosen t b m v name = cond t (Ok None) (cond b (Err (Name name)) (cond m (Ok None) (and_then (ok_or v (fault.Value name)) (λ value. Ok (Some (named_cell name value))))))

chosen_same : (name : List ℕ) (d : Data) (t b m : Bool) (v : Option Value) → is_time name ≡ t → is_bad_name name ≡ b → is_missing d ≡ m → value_of d ≡ v → cell_of name d ≡ chosen t b m v name
unfolding chosen
chosen_same name d t b m v et eb em ev = rw (et, eb, em, ev) refl

no_time : (name : List ℕ) → is_time name ≡ false → name ≢ time_name
no_time name h is = true≢false (sym ((bytes_eq-Decides name time_name).1 is) ∙ h)

no_null : (d : Data) → is_missing d ≡ false → d ≢ null
no_null d h is = true≢false (sym (ap is_missing is) ∙ h)

no_value : (d : Data) → value_of d ≡ None → (v : Value) → ¬ HoldsValue d v
no_value d h v holds = found_none v (sym h ∙ held_value d v holds)

case_at : (name : List ℕ) (d : Data) (t b m : Bool) (v : Option Value) → is_time name ≡ t → is_bad_name name ≡ b → is_missing d ≡ m → value_of d ≡ v → cell_of name d ≡ chosen t b m v name → Case name d
unfolding chosen
case_at name d true b m v et eb em ev is = the_time ((bytes_eq-Decides name time_name).0 et) is
case_at name d false true m v et eb em ev is = bad_name (no_time name et) eb is
case_at name d false false true v et eb em ev is = missing (no_time name et) eb (null_missing d em) is
case_at name d false false false None et eb em ev is = bad_value (no_time name et) eb (no_null d em) (no_value d ev) is
case_at name d false false false (Some v) et eb em ev is = held (no_time name et) eb (no_null d em) v (value_held d v ev) is

pub case_of : (name : List ℕ) (d : Data) → Case name d
case_of name d = case_at name d _ _ _ _ refl refl refl refl (chosen_same name d _ _ _ _ refl refl refl refl)

-- ---- the first member and the others

pub err≢ok : {A : Type 0} (e : RowFault) (a : A) → Err e ≡ Ok a → ⊥
err≢ok e a h = true≢false (sym (ap is_ok h))

pub ok≢err : {A : Type 0} (e : RowFault) (a : A) → Ok a ≡ Err e → ⊥
ok≢err e a h = err≢ok e a (sym h)

cells_or : Result (List Cell) RowFault → List Cell → List Cell
cells_or (Ok cs) other = cs
cells_or (Err e) other = other

fault_or : Result (List Cell) RowFault → RowFault → RowFault
fault_or (Ok cs) other = other
fault_or (Err e) other = e

pub same_cells : (cs ds : List Cell) → ◌≡◌ {A = Result (List Cell) RowFault} (Ok cs) (Ok ds) → cs ≡ ds
unfolding cells_or
same_cells cs ds h = ap (λ (r : Result (List Cell) RowFault). cells_or r ds) h

pub same_fault : (e f : RowFault) → ◌≡◌ {A = Result (List Cell) RowFault} (Err e) (Err f) → e ≡ f
unfolding fault_or
same_fault e f h = ap (λ (r : Result (List Cell) RowFault). fault_or r f) h

pub skipped : (one : Result (Option Cell) RowFault) (rest : Result (List Cell) RowFault) → one ≡ Ok None → with_cell one rest ≡ rest
skipped one rest is = ap (λ r. with_cell r rest) is ∙ before_none rest

joined : (c : Cell) (rest : Result (List Cell) RowFault) (cs : List Cell) → before (c ∷ []) rest ≡ Ok cs → (ds : List Cell) × (rest ≡ Ok ds) × (cs ≡ c ∷ ds)
joined c (Ok ds) cs h = (ds, refl, same_cells cs (c ∷ ds) (sym h))
joined c (Err e) cs h = absurd (err≢ok e cs h)

pub taken : (one : Result (Option Cell) RowFault) (rest : Result (List Cell) RowFault) (c : Cell) (cs : List Cell) → one ≡ Ok (Some c) → with_cell one rest ≡ Ok cs → (ds : List Cell) × (rest ≡ Ok ds) × (cs ≡ c ∷ ds)
taken one rest c cs is h = joined c rest cs (sym (ap (λ r. with_cell r rest) is) ∙ h)

pub refused : (one : Result (Option Cell) RowFault) (rest : Result (List Cell) RowFault) (f : RowFault) → one ≡ Err f → with_cell one rest ≡ Err f
refused one rest f is = ap (λ r. with_cell r rest) is

pub refused_rest : (c : Cell) (rest : Result (List Cell) RowFault) (f : RowFault) → before (c ∷ []) rest ≡ Err f → rest ≡ Err f
refused_rest c (Ok ds) f h = absurd (ok≢err f (c ∷ ds) h)
refused_rest c (Err e) f h = h

-- ---- the cells

abbrev Cells : Members → List Cell → Type 0
Cells all cs = (name : List ℕ) (d : Data) → IsOther all name d → (v : Value) × Contains cs (named_cell name v) × HoldsValue d v

more_cells : (c : Cell) (cs : List Cell) (d : Data) (name : List ℕ) → (v : Value) × Contains cs (named_cell name v) × HoldsValue d v → (v : Value) × Contains (c ∷ cs) (named_cell name v) × HoldsValue d v
more_cells c cs d name h = (h.0, Contains-append_right (c ∷ []) cs (named_cell name h.0) h.1, h.2)

whole_at : (k : List ℕ) (e : Data) (ms : Members) (cs : List Cell) → Case k e → with_cell (cell_of k e) (cells_of ms) ≡ Ok cs → ((ds : List Cell) → cells_of ms ≡ Ok ds → Cells ms ds) → Cells (member k e ms) cs
whole_at k e ms cs (the_time t is) h rest name d x = elim (found_cases name k e d ms x.has) [
  | inl here ↦ absurd (x.other (here.0 ∙ t))
  | inr there ↦ rest cs (sym (skipped _ _ is) ∙ h) name d record { has = there; other = x.other; there = x.there }
]
whole_at k e ms cs (bad_name t b is) h rest name d x = absurd (err≢ok _ cs (sym (refused _ _ _ is) ∙ h))
whole_at k e ms cs (missing t b m is) h rest name d x = elim (found_cases name k e d ms x.has) [
  | inl here ↦ absurd (x.there (sym here.1 ∙ m))
  | inr there ↦ rest cs (sym (skipped _ _ is) ∙ h) name d record { has = there; other = x.other; there = x.there }
]
whole_at k e ms cs (held t b m v holds is) h rest name d x =
    let both = taken (cell_of k e) (cells_of ms) (named_cell k v) cs is h in
    let P : List Cell → Type 0 = λ all. (w : Value) × Contains all (named_cell name w) × HoldsValue d w in
    elim (found_cases name k e d ms x.has) [
      | inl here ↦ subst P (sym both.2) (v, (0, omega arith, ap (λ n. named_cell n v) (sym here.0)), subst (λ f. HoldsValue f v) here.1 holds)
      | inr there ↦ subst P (sym both.2) (more_cells (named_cell k v) both.0 d name (rest both.0 both.1 name d record { has = there; other = x.other; there = x.there }))
    ]
whole_at k e ms cs (bad_value t b m v is) h rest name d x = absurd (err≢ok _ cs (sym (refused _ _ _ is) ∙ h))

pub cells_whole : (ms : Members) (cs : List Cell) → cells_of ms ≡ Ok cs → Cells ms cs
cells_whole no_members cs h name d x = absurd (found_none d x.has)
cells_whole (member k e ms) cs h name d x = whole_at k e ms cs (case_of k e) h (λ ds is. cells_whole ms ds is) name d x

-- the cell is a member of the object
abbrev pub IsMember : Members → Cell → Type 0
IsMember all c = (d : Data) × IsOther all c.name d × HoldsValue d c.value

lifted : (k : List ℕ) (e : Data) (ms : Members) (name : List ℕ) (d : Data) → Ascending (member k e ms) → IsOther ms name d → IsOther (member k e ms) name d
unfolding IsStrictlySortedBy
lifted k e ms name d all x = record { has = found_later name k e ms (found_all (Below k) name d ms all.0 x.has) ∙ x.has; other = x.other; there = x.there }

all_lifted : (k : List ℕ) (e : Data) (ms : Members) (cs : List Cell) → Ascending (member k e ms) → AllByRecursion (IsMember ms) cs → AllByRecursion (IsMember (member k e ms)) cs
all_lifted k e ms [] all h = tt
all_lifted k e ms (c ∷ cs) all h = ((h.0.0, lifted k e ms c.name h.0.0 all h.0.1, h.0.2), all_lifted k e ms cs all h.1)

only_at : (k : List ℕ) (e : Data) (ms : Members) (cs : List Cell) → Ascending (member k e ms) → Case k e → with_cell (cell_of k e) (cells_of ms) ≡ Ok cs → ((ds : List Cell) → cells_of ms ≡ Ok ds → AllByRecursion (IsMember ms) ds) → AllByRecursion (IsMember (member k e ms)) cs
only_at k e ms cs all (the_time t is) h rest = all_lifted k e ms cs all (rest cs (sym (skipped _ _ is) ∙ h))
only_at k e ms cs all (bad_name t b is) h rest = absurd (err≢ok _ cs (sym (refused _ _ _ is) ∙ h))
only_at k e ms cs all (missing t b m is) h rest = all_lifted k e ms cs all (rest cs (sym (skipped _ _ is) ∙ h))
only_at k e ms cs all (held t b m v holds is) h rest =
    let both = taken (cell_of k e) (cells_of ms) (named_cell k v) cs is h in
    let one : IsMember (member k e ms) (named_cell k v) = (e, record { has = found_here k e ms; other = t; there = m }, holds) in
    subst (AllByRecursion (IsMember (member k e ms))) (sym both.2) (one, all_lifted k e ms both.0 all (rest both.0 both.1))
only_at k e ms cs all (bad_value t b m v is) h rest = absurd (err≢ok _ cs (sym (refused _ _ _ is) ∙ h))

pub cells_only : (ms : Members) (cs : List Cell) → Ascending ms → cells_of ms ≡ Ok cs → AllByRecursion (IsMember ms) cs
unfolding IsStrictlySortedBy
cells_only no_members cs all h = subst (AllByRecursion (IsMember no_members)) (same_cells [] cs h) tt
cells_only (member k e ms) cs all h = only_at k e ms cs all (case_of k e) h (λ ds is. cells_only ms ds all.1 is)
