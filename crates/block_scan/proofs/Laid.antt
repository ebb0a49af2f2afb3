-- Places laid out by slot.
use Rattle.std.proofs.Common.{◌≡◌, ℕ, suc, ◌+◌, ◌<◌, ◌≤◌, Bool, true, false, cond, eqb, ltb, List, [], ◌∷◌, ◌++◌, length, filter, take, get_or, drop, set, Vec, Global, refl, sym, ap, ap₂, subst, ◌∙◌, arith}
use Rattle.std.specs.List.{AllByRecursion, flat_map, range_with_len}
use Rattle.std.proofs.lemmas.Bool.{eqb-true, ltb-true, ltb-false}
use Rattle.std.proofs.lemmas.List.{append-nil, get_or-map, get_or_past, map-set, take-append-drop}
use Rattle.std.proofs.lemmas.List.Concat.{flat_map-append, flat_map-cons}
use Rattle.block_scan.specs.declared.slots.Slots.{Slots}
use Rattle.block_scan.specs.Slots.{AreInSlots, AreLaid, gathered, is_used, list_at, lists_in, slot_at, slots_in}
use Rattle.block_scan.proofs.Lists.{all_append, all_filter, filter_range_more}

pub put_in : (lists : List (Vec ℕ Global)) (slot : ℕ) (v w : Vec ℕ Global) (place : ℕ) → slot < length lists → v ≡ get_or lists slot v → w.items ≡ v.items ++ place ∷ []
    → lists_in (set lists slot w) ≡ set (lists_in lists) slot (list_at (lists_in lists) slot ++ place ∷ [])
put_in lists slot v w place low is more =
    let items = λ (u : Vec ℕ Global). u.items in
    let old : v.items ≡ list_at (lists_in lists) slot = ap items is ∙ sym (get_or-map items lists slot v [] low) in
    map-set items lists slot w ∙ ap (set (lists_in lists) slot) (more ∙ ap (λ (l : List ℕ). l ++ place ∷ []) old)

-- ---- the slots that have places

pub used_more : (lists : List (Vec ℕ Global)) (used now : List ℕ) (slot : ℕ) (list : Vec ℕ Global) (places : List ℕ) → slot < length lists → list ≡ get_or lists slot list → places ≡ list.items
    → used ≡ filter (λ s. is_used (list_at (lists_in lists) s)) (range_with_len 0 slot) → now ≡ used ++ cond (is_used places) (slot ∷ []) []
    → now ≡ filter (λ s. is_used (list_at (lists_in lists) s)) (range_with_len 0 (slot + 1))
used_more lists used now slot list places low is same so_far pushed =
    let items = λ (u : Vec ℕ Global). u.items in
    let test = λ (s : ℕ). is_used (list_at (lists_in lists) s) in
    let here : places ≡ list_at (lists_in lists) slot = same ∙ ap items is ∙ sym (get_or-map items lists slot list [] low) in
    let from : 0 + slot ≡ slot = omega arith in
    let count : suc slot ≡ slot + 1 = omega arith in
    pushed ∙ ap (λ (l : List ℕ). l ++ cond (is_used places) (slot ∷ []) []) so_far
    ∙ ap (λ (l : List ℕ). filter test (range_with_len 0 slot) ++ cond (is_used l) (slot ∷ []) []) here
    ∙ sym (filter_range_more test 0 slot slot from)
    ∙ ap (λ (m : ℕ). filter test (range_with_len 0 m)) count

-- ---- what holds of the places of all slots

pub all_gathered : (P : ℕ → Type 0) (lists : List (List ℕ)) → ((s : ℕ) → AllByRecursion P (list_at lists s)) → (slots : List ℕ) → AllByRecursion P (gathered lists slots)
all_gathered P lists each [] = tt
all_gathered P lists each (s ∷ slots) = subst (AllByRecursion P) (sym (flat_map-cons (list_at lists) s slots)) (all_append P (list_at lists s) (gathered lists slots) (each s) (all_gathered P lists each slots))

same_slot : (slot : ℕ → ℕ) (s : ℕ) (places : List ℕ) → AllByRecursion (λ i. slot i ≡ s) (filter (λ i. eqb (slot i) s) places)
same_slot slot s [] = tt
same_slot slot s (i ∷ places) = by (eqb (slot i) s) refl (same_slot slot s places)
  where
    by : (b : Bool) → eqb (slot i) s ≡ b → AllByRecursion (λ k. slot k ≡ s) (filter (λ k. eqb (slot k) s) places)
        → AllByRecursion (λ k. slot k ≡ s) (cond b (i ∷ filter (λ k. eqb (slot k) s) places) (filter (λ k. eqb (slot k) s) places))
    by true e rest = (eqb-true (slot i) s e, rest)
    by false e rest = rest

module _ (slot : ℕ → ℕ) (n : ℕ) (places : List ℕ) (lists : List (List ℕ)) (laid : AreLaid slot n places lists) where
  at_slot : (P : ℕ → Type 0) (s : ℕ) → AllByRecursion P (filter (λ i. eqb (slot i) s) places) → AllByRecursion P (list_at lists s)
  at_slot P s all = by (ltb s n) refl
    where
      by : (b : Bool) → ltb s n ≡ b → AllByRecursion P (list_at lists s)
      by true e = subst (AllByRecursion P) (sym (laid.each s (ltb-true s n e))) all
      by false e = subst (AllByRecursion P) (sym (get_or_past lists s [] (omega (arith, laid.count, ltb-false s n e)))) tt

  pub laid_all : (P : ℕ → Type 0) → AllByRecursion P places → (s : ℕ) → AllByRecursion P (list_at lists s)
  laid_all P all s = at_slot P s (all_filter P (λ i. eqb (slot i) s) places all)

  pub laid_same : (s : ℕ) → AllByRecursion (λ i. slot i ≡ s) (list_at lists s)
  laid_same s = at_slot (λ i. slot i ≡ s) s (same_slot slot s places)

  pub gathered_is : (slots : List ℕ) → AllByRecursion (λ s. s < n) slots → gathered lists slots ≡ flat_map (λ s. filter (λ i. eqb (slot i) s) places) slots
  gathered_is [] all = refl
  gathered_is (s ∷ slots) all =
      let each = λ (t : ℕ). filter (λ i. eqb (slot i) t) places in
      flat_map-cons (list_at lists) s slots ∙ ap₂ (λ (l m : List ℕ). l ++ m) (laid.each s all.0) (gathered_is slots all.1) ∙ sym (flat_map-cons each s slots)

pub laid_in_slots : (rows : ℕ) (slots : Slots) (places : List ℕ) (lists : List (List ℕ)) → AreLaid (slot_at slots) (slots_in slots) places lists → AllByRecursion (λ i. i < rows) places → AreInSlots rows slots lists
laid_in_slots rows slots places lists laid inside = record {
  count = laid.count;
  inside = laid_all (slot_at slots) (slots_in slots) places lists laid (λ i. i < rows) inside;
  same = laid_same (slot_at slots) (slots_in slots) places lists laid;
}

-- ---- the places of one slot, and of two parts of the slots

pub one_list : (lists : List (Vec ℕ Global)) (slots : List ℕ) (list : Vec ℕ Global) (places : List ℕ) → 1 ≤ length slots → length slots < 2 → get_or slots 0 0 < length lists → list ≡ get_or lists (get_or slots 0 0) list
    → places ≡ list.items → gathered (lists_in lists) slots ≡ places
one_list lists [] list places some few low is same = absurd (omega (arith, some))
one_list lists (s ∷ []) list places some few low is same =
    let items = λ (u : Vec ℕ Global). u.items in
    flat_map-cons (list_at (lists_in lists)) s [] ∙ append-nil (list_at (lists_in lists) s)
    ∙ get_or-map items lists s list [] low ∙ sym (ap items is) ∙ sym same
one_list lists (s ∷ (t ∷ slots)) list places some few low is same = absurd (omega (arith, few))

pub two_parts : (lists : List (List ℕ)) (slots front back : List ℕ) (m : ℕ) → front ≡ take m slots → back ≡ drop m slots → gathered lists front ++ gathered lists back ≡ gathered lists slots
two_parts lists slots front back m low high =
    sym (flat_map-append (list_at lists) front back) ∙ ap₂ (λ (l r : List ℕ). gathered lists (l ++ r)) low high ∙ ap (gathered lists) (take-append-drop m slots)

pub first_below : (n : ℕ) (slots : List ℕ) → 1 ≤ length slots → AllByRecursion (λ s. s < n) slots → get_or slots 0 0 < n
first_below n [] some all = absurd (omega (arith, some))
first_below n (s ∷ slots) some all = all.0
