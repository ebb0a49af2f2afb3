-- The first fault of an object's members, against what the members say.
use Rattle.std.proofs.Common.{◌≡◌, ◌≢◌, inl, inr, ℕ, List, [], Option, Some, None, Ok, Err, true, false, true≢false, refl, ap, sym, subst, ◌∙◌}
use Rattle.std.specs.List.Sorted.{IsStrictlySortedBy}
use Rattle.serde_json.specs.Data.{Data, null, Members, no_members, member}
use Rattle.row_model.specs.Values.{time_name}
use Rattle.row_model.specs.declared.rows.Value.{Value}
use Rattle.row_model.specs.declared.rows.Cell.{Cell}
use Rattle.row_json.specs.Row.{is_bad_name, named_cell, cell_of, cells_of}
use Rattle.row_json.specs.Meaning.{HoldsValue, IsFine, IsFaultOf, IsFirstFault}
use Rattle.row_model.specs.declared.row_fault.RowFault.{RowFault}
use Rattle.row_model.specs.declared.row_fault.RowFault.TheVariants.{Json, NotObject, NoTime, TooMany, Name, NoMemory}
use Rattle.row_model.specs.declared.row_fault.RowFault.TheVariants as fault
use Rattle.row_json.proofs.Rows.{with_cell}
use Rattle.row_json.specs.QuickRow.{Ascending, Below}
use Rattle.row_json.proofs.Found.{not_below_itself, not_both_below, found_here, found_later, found_cases, found_none, found_all}
use Rattle.row_json.proofs.Cells.{Case, the_time, bad_name, missing, held, bad_value, case_of, ok≢err, same_fault, skipped, refused, refused_rest}

-- ---- the fault that is read is the first

-- the first member is at fault
fault_here : (k : List ℕ) (e : Data) (ms : Members) (f : RowFault) → Ascending (member k e ms) → k ≢ time_name → IsFaultOf k e f → IsFirstFault (member k e ms) f
unfolding IsStrictlySortedBy
fault_here k e ms f all other is = record {
  name = k;
  value = e;
  has = found_here k e ms;
  other = other;
  is = is;
  first = λ j d has no_time below. elim (found_cases j k e d ms has) [
    | inl here ↦ absurd (not_below_itself k (subst (λ n. Below n k) here.0 below))
    | inr there ↦ absurd (not_both_below j k below (found_all (Below k) j d ms all.0 there))
  ];
}

-- the first member is fine, or is the time
fault_later : (k : List ℕ) (e : Data) (ms : Members) (f : RowFault) → Ascending (member k e ms) → (k ≢ time_name → IsFine k e) → IsFirstFault ms f → IsFirstFault (member k e ms) f
unfolding IsStrictlySortedBy
fault_later k e ms f all fine x = record {
  name = x.name;
  value = x.value;
  has = found_later x.name k e ms (found_all (Below k) x.name x.value ms all.0 x.has) ∙ x.has;
  other = x.other;
  is = x.is;
  first = λ j d has no_time below. elim (found_cases j k e d ms has) [
    | inl here ↦
        let is_fine : IsFine k d = subst (IsFine k) here.1 (fine (λ is. no_time (here.0 ∙ is))) in
        subst (λ n. IsFine n d) (sym here.0) is_fine
    | inr there ↦ x.first j d there no_time below
  ];
}

first_at : (k : List ℕ) (e : Data) (ms : Members) (f : RowFault) → Ascending (member k e ms) → Case k e → with_cell (cell_of k e) (cells_of ms) ≡ Err f → (cells_of ms ≡ Err f → IsFirstFault ms f) → IsFirstFault (member k e ms) f
first_at k e ms f all (the_time t is) h rest =
    fault_later k e ms f all (λ other. absurd (other t)) (rest (sym (skipped _ _ is) ∙ h))
first_at k e ms f all (bad_name t b is) h rest =
    fault_here k e ms f all t (subst (IsFaultOf k e) (same_fault (Name k) f (sym (refused _ _ _ is) ∙ h)) (refl, b))
first_at k e ms f all (missing t b m is) h rest =
    fault_later k e ms f all (λ other. (b, inl m)) (rest (sym (skipped _ _ is) ∙ h))
first_at k e ms f all (held t b m v holds is) h rest =
    fault_later k e ms f all (λ other. (b, inr (v, holds))) (rest (refused_rest (named_cell k v) (cells_of ms) f (sym (ap (λ r. with_cell r (cells_of ms)) is) ∙ h)))
first_at k e ms f all (bad_value t b m v is) h rest =
    fault_here k e ms f all t (subst (IsFaultOf k e) (same_fault (fault.Value k) f (sym (refused _ _ _ is) ∙ h)) (refl, b, m, v))

pub first_fault : (ms : Members) (f : RowFault) → Ascending ms → cells_of ms ≡ Err f → IsFirstFault ms f
unfolding IsStrictlySortedBy
first_fault no_members f all h = absurd (ok≢err f [] h)
first_fault (member k e ms) f all h = first_at k e ms f all (case_of k e) h (λ is. first_fault ms f all.1 is)

-- ---- the first fault is the one that is read

not_both : {A : Type 0} (name : List ℕ) → is_bad_name name ≡ true → is_bad_name name ≡ false → A
not_both name t f = absurd (true≢false (sym t ∙ f))

not_fine : (name : List ℕ) (d : Data) → is_bad_name name ≡ false → d ≢ null → ((v : Value) → ¬ HoldsValue d v) → IsFine name d → ⊥
not_fine name d b m v h = elim h.1 [
  | inl is ↦ m is
  | inr some ↦ v some.0 some.1
]

faulty : (k : List ℕ) (e : Data) (f : RowFault) → Case k e → k ≢ time_name → IsFaultOf k e f → cell_of k e ≡ Err f
faulty k e (Name n) (the_time t is) other h = absurd (other t)
faulty k e (Name n) (bad_name t b is) other h = is ∙ ap (λ m. Err (Name m)) (sym h.0)
faulty k e (Name n) (missing t b m is) other h = not_both k h.1 b
faulty k e (Name n) (held t b m v holds is) other h = not_both k h.1 b
faulty k e (Name n) (bad_value t b m v is) other h = not_both k h.1 b
faulty k e (fault.Value n) (the_time t is) other h = absurd (other t)
faulty k e (fault.Value n) (bad_name t b is) other h = not_both k b h.1
faulty k e (fault.Value n) (missing t b m is) other h = absurd (h.2 m)
faulty k e (fault.Value n) (held t b m v holds is) other h = absurd (h.3 v holds)
faulty k e (fault.Value n) (bad_value t b m v is) other h = is ∙ ap (λ j. Err (fault.Value j)) (sym h.0)
faulty k e Json one other h = absurd h
faulty k e NotObject one other h = absurd h
faulty k e NoTime one other h = absurd h
faulty k e TooMany one other h = absurd h
faulty k e NoMemory one other h = absurd h

passed_on : (one : Option Cell) (f : RowFault) → with_cell (Ok one) (Err f) ≡ Err f
passed_on None f = refl
passed_on (Some c) f = refl

passed : (k : List ℕ) (e : Data) → Case k e → (k ≢ time_name → IsFine k e) → (one : Option Cell) × (cell_of k e ≡ Ok one)
passed k e (the_time t is) fine = (None, is)
passed k e (bad_name t b is) fine = not_both k b (fine t).0
passed k e (missing t b m is) fine = (None, is)
passed k e (held t b m v holds is) fine = (Some (named_cell k v), is)
passed k e (bad_value t b m v is) fine = absurd (not_fine k e b m v (fine t))

pub fault_first : (ms : Members) (f : RowFault) → Ascending ms → IsFirstFault ms f → cells_of ms ≡ Err f
unfolding IsStrictlySortedBy
fault_first no_members f all x = absurd (found_none x.value x.has)
fault_first (member k e ms) f all x = elim (found_cases x.name k e x.value ms x.has) [
  | inl here ↦
      let is : IsFaultOf k x.value f = subst (λ n. IsFaultOf n x.value f) here.0 x.is in
      let at_k : IsFaultOf k e f = subst (λ d. IsFaultOf k d f) (sym here.1) is in
      refused (cell_of k e) (cells_of ms) f (faulty k e f (case_of k e) (λ t. x.other (here.0 ∙ t)) at_k)
  | inr there ↦
      let below : Below k x.name = found_all (Below k) x.name x.value ms all.0 there in
      let one = passed k e (case_of k e) (λ t. x.first k e (found_here k e ms) t below) in
      let more : IsFirstFault ms f = record {
        name = x.name;
        value = x.value;
        has = there;
        other = x.other;
        is = x.is;
        first = λ j d has no_time h. x.first j d (found_later j k e ms (found_all (Below k) j d ms all.0 has) ∙ has) no_time h;
      } in
      let rest : cells_of ms ≡ Err f = fault_first ms f all.1 more in
      ap (λ r. with_cell r (cells_of ms)) one.1 ∙ ap (with_cell (Ok one.0)) rest ∙ passed_on one.0 f
]
