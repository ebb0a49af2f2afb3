-- The slots that have places, in any order: their places have the groups of all places.
use Rattle.std.proofs.Common.{◌≡◌, ◌≢◌, ℕ, zero, suc, ◌+◌, ◌<◌, ◌≤◌, Bool, true, false, ◌&&◌, ◌||◌, not, cond, eqb, List, [], ◌∷◌, ◌++◌, length, map, filter, refl, sym, ap, ap₂, ◌∙◌, arith, eq-eqb, length-append}
use Rattle.std.specs.List.{AllByRecursion, IsDistinct, flat_map, list_any, range_with_len}
use Rattle.std.specs.List.Sorted.{IsPermutation}
use Rattle.std.proofs.lemmas.Bool.{eqb-true, eqb-false, false≢true}
use Rattle.std.proofs.lemmas.List.{map-append}
use Rattle.std.proofs.lemmas.List.Concat.{flat_map-cons}
use Rattle.std.proofs.lemmas.List.Elements.{All-from_recursion, filter_agree, recursion_from_All}
use Rattle.std.proofs.lemmas.List.Filters.{length-filter_both}
use Rattle.std.proofs.lemmas.List.Sorted.{All-permutation, list_any-IsPermutation}
use Rattle.std.proofs.lemmas.Map.Keys.{IsDistinct-IsPermutation, IsDistinct-cons, IsDistinct-from_apart, IsDistinct-head, IsDistinct-tail}
use Rattle.row_model.specs.declared.rows.Row.{Row}
use Rattle.leaf_model.specs.declared.queries.Query.{Query}
use Rattle.leaf_model.specs.Groups.{groups}
use Rattle.group_table.specs.Joined.{joined}
use Rattle.group_table.proofs.Laws.{groups-append}
use Rattle.block_scan.specs.Slots.{AreLaid, gathered, is_used, list_at, used_slots}
use Rattle.block_scan.proofs.Lists.{all_weaker, all_within, both_tests, filter_alike, filter_true, or_left, or_right, weaker_test}
use Rattle.block_scan.proofs.Split.{groups_split}
use Rattle.block_scan.proofs.Laid.{gathered_is}

-- ---- slots in any order, each once

abbrev pub is_among : ℕ → List ℕ → Bool
is_among t slots = list_any (eqb t) slots

not_among : (s : ℕ) (slots : List ℕ) → AllByRecursion (λ t. eqb s t ≡ false) slots → is_among s slots ≡ false
not_among s [] apart = refl
not_among s (t ∷ slots) apart = ap (λ (b : Bool). b || is_among s slots) apart.0 ∙ not_among s slots apart.1

-- the places of the first of some slots, and those of the others
module _ (slot : ℕ → ℕ) (places : List ℕ) (s : ℕ) (slots : List ℕ) (apart : AllByRecursion (λ t. eqb s t ≡ false) slots) where
  abbrev all_of : List ℕ
  all_of = filter (λ i. is_among (slot i) (s ∷ slots)) places

  pub first_slot : filter (λ i. eqb (slot i) s) all_of ≡ filter (λ i. eqb (slot i) s) places
  first_slot = weaker_test (λ i. is_among (slot i) (s ∷ slots)) (λ i. eqb (slot i) s) (λ i e. or_left (eqb (slot i) s) (is_among (slot i) slots) e) places

  either : (i : ℕ) (b : Bool) → eqb (slot i) s ≡ b → ((b || is_among (slot i) slots) && not b) ≡ is_among (slot i) slots
  either i true e = sym (ap (λ (t : ℕ). is_among t slots) (eqb-true (slot i) s e) ∙ not_among s slots apart)
  either i false e = by (is_among (slot i) slots)
    where
      by : (c : Bool) → (c && true) ≡ c
      by true = refl
      by false = refl

  pub other_slots : filter (λ i. not (eqb (slot i) s)) all_of ≡ filter (λ i. is_among (slot i) slots) places
  other_slots =
      both_tests (λ i. is_among (slot i) (s ∷ slots)) (λ i. not (eqb (slot i) s)) places
      ∙ filter_agree _ (λ i. is_among (slot i) slots) (λ i. either i (eqb (slot i) s) refl) places

module _ (slot : ℕ → ℕ) (places : List ℕ) where
  abbrev in_turn : List ℕ → List ℕ
  in_turn slots = flat_map (λ s. filter (λ i. eqb (slot i) s) places) slots

  abbrev of_slots : List ℕ → List ℕ
  of_slots slots = filter (λ i. is_among (slot i) slots) places

  none_of : (xs : List ℕ) → filter (λ i. is_among (slot i) []) xs ≡ []
  none_of [] = refl
  none_of (i ∷ xs) = none_of xs

  pub in_turn_groups : (q : Query) (row : ℕ → Row) (slots : List ℕ) → IsDistinct eqb slots → groups q (map row (in_turn slots)) ≡ groups q (map row (of_slots slots))
  in_turn_groups q row [] distinct = ap (λ (l : List ℕ). groups q (map row l)) (sym (none_of places))
  in_turn_groups q row (s ∷ slots) distinct =
      let here = filter (λ i. eqb (slot i) s) places in
      let all = of_slots (s ∷ slots) in
      ap (λ (l : List ℕ). groups q (map row l)) (flat_map-cons (λ t. filter (λ i. eqb (slot i) t) places) s slots)
      ∙ ap (groups q) (map-append row here (in_turn slots))
      ∙ groups-append q (map row here) (map row (in_turn slots))
      ∙ ap (joined (groups q (map row here))) (in_turn_groups q row slots (IsDistinct-tail eqb s slots distinct))
      ∙ sym (groups-append q (map row here) (map row (of_slots slots)))
      ∙ ap₂ (λ (l m : List ℕ). groups q (map row l ++ map row m)) (sym (first_slot slot places s slots (IsDistinct-head eqb s slots distinct))) (sym (other_slots slot places s slots (IsDistinct-head eqb s slots distinct)))
      ∙ groups_split q row (λ i. eqb (slot i) s) all

  pub in_turn_length : (slots : List ℕ) → IsDistinct eqb slots → length (in_turn slots) ≡ length (of_slots slots)
  in_turn_length [] distinct = ap (λ (l : List ℕ). length l) (sym (none_of places))
  in_turn_length (s ∷ slots) distinct =
      let here = filter (λ i. eqb (slot i) s) places in
      let all = of_slots (s ∷ slots) in
      ap (λ (l : List ℕ). length l) (flat_map-cons (λ t. filter (λ i. eqb (slot i) t) places) s slots)
      ∙ length-append here (in_turn slots) ∙ ap (λ (k : ℕ). length here + k) (in_turn_length slots (IsDistinct-tail eqb s slots distinct))
      ∙ ap₂ (λ (l m : List ℕ). length l + length m) (sym (first_slot slot places s slots (IsDistinct-head eqb s slots distinct))) (sym (other_slots slot places s slots (IsDistinct-head eqb s slots distinct)))
      ∙ length-filter_both (λ i. eqb (slot i) s) (λ i. not (eqb (slot i) s)) (λ i. refl) all

-- ---- the slots that have places are such

all_apart : (p : ℕ → Bool) (s a n : ℕ) → s < a → AllByRecursion (λ t. eqb s t ≡ false) (filter p (range_with_len a n))
all_apart p s a zero less = tt
all_apart p s a (suc n) less = by (p a) (all_apart p s (a + 1) n (omega (arith, less)))
  where
    differ : (b : Bool) → eqb s a ≡ b → eqb s a ≡ false
    differ true e = absurd (omega (arith, less, eqb-true s a e))
    differ false e = e

    by : (b : Bool) → AllByRecursion (λ t. eqb s t ≡ false) (filter p (range_with_len (a + 1) n))
        → AllByRecursion (λ t. eqb s t ≡ false) (cond b (a ∷ filter p (range_with_len (a + 1) n)) (filter p (range_with_len (a + 1) n)))
    by true rest = (differ (eqb s a) refl, rest)
    by false rest = rest

pub distinct_range : (p : ℕ → Bool) (a n : ℕ) → IsDistinct eqb (filter p (range_with_len a n))
distinct_range p a zero = IsDistinct-from_apart eqb [] (λ i j d less low. absurd (omega (arith, low)))
distinct_range p a (suc n) = by (p a) (distinct_range p (a + 1) n)
  where
    by : (b : Bool) → IsDistinct eqb (filter p (range_with_len (a + 1) n))
        → IsDistinct eqb (cond b (a ∷ filter p (range_with_len (a + 1) n)) (filter p (range_with_len (a + 1) n)))
    by true rest = IsDistinct-cons eqb a (filter p (range_with_len (a + 1) n)) (all_apart p a (a + 1) n (omega arith)) rest
    by false rest = rest

pub among_range : (p : ℕ → Bool) (t a n : ℕ) → a ≤ t → t < a + n → p t ≡ true → is_among t (filter p (range_with_len a n)) ≡ true
among_range p t a zero low high e = absurd (omega (arith, low, high))
among_range p t a (suc n) low high e = by (λ apart. among_range p t (a + 1) n (omega (arith, low, apart)) (omega (arith, high)) e) (eqb t a) refl (p a) refl
  where
    behind : (c : Bool) → is_among t (filter p (range_with_len (a + 1) n)) ≡ true → is_among t (cond c (a ∷ filter p (range_with_len (a + 1) n)) (filter p (range_with_len (a + 1) n))) ≡ true
    behind true rest = or_right (eqb t a) (is_among t (filter p (range_with_len (a + 1) n))) rest
    behind false rest = rest

    by : (t ≢ a → is_among t (filter p (range_with_len (a + 1) n)) ≡ true) → (b : Bool) → eqb t a ≡ b → (c : Bool) → p a ≡ c
        → is_among t (cond c (a ∷ filter p (range_with_len (a + 1) n)) (filter p (range_with_len (a + 1) n))) ≡ true
    by rest true d true f = or_left (eqb t a) (is_among t (filter p (range_with_len (a + 1) n))) d
    by rest true d false f = absurd (false≢true (sym f ∙ ap p (sym (eqb-true t a d)) ∙ e))
    by rest false d c f = behind c (rest (eqb-false t a d))

-- a slot that some place stands in has places
all_used : (slot : ℕ → ℕ) (places : List ℕ) → AllByRecursion (λ i. is_used (filter (λ k. eqb (slot k) (slot i)) places) ≡ true) places
all_used slot [] = tt
all_used slot (x ∷ places) = (
  ap (λ (b : Bool). is_used (cond b (x ∷ filter (λ k. eqb (slot k) (slot x)) places) (filter (λ k. eqb (slot k) (slot x)) places))) (eq-eqb (slot x) (slot x) refl),
  all_weaker (λ i. is_used (filter (λ k. eqb (slot k) (slot i)) places) ≡ true) (λ i. is_used (filter (λ k. eqb (slot k) (slot i)) (x ∷ places)) ≡ true) (λ i e. behind i (eqb (slot x) (slot i)) e) places (all_used slot places),
)
  where
    behind : (i : ℕ) (b : Bool) → is_used (filter (λ k. eqb (slot k) (slot i)) places) ≡ true
        → is_used (cond b (x ∷ filter (λ k. eqb (slot k) (slot i)) places) (filter (λ k. eqb (slot k) (slot i)) places)) ≡ true
    behind i true e = refl
    behind i false e = e

flips : (x y : ℕ) → eqb x y ≡ eqb y x
flips x y = by (eqb x y) (eqb y x) refl refl
  where
    by : (b c : Bool) → eqb x y ≡ b → eqb y x ≡ c → b ≡ c
    by true true d e = refl
    by true false d e = absurd (eqb-false y x e (sym (eqb-true x y d)))
    by false true d e = absurd (eqb-false x y d (sym (eqb-true y x e)))
    by false false d e = refl

module _ (slot : ℕ → ℕ) (n : ℕ) (places : List ℕ) (lists : List (List ℕ)) (slots : List ℕ)
    (laid : AreLaid slot n places lists) (sized : AllByRecursion (λ i. slot i < n) places) (mixed : IsPermutation (used_slots lists) slots) where
  pub all_below : AllByRecursion (λ s. s < n) slots
  all_below =
      recursion_from_All (λ s. s < n) slots
      (All-permutation (λ s. s < n) (used_slots lists) slots mixed
      (All-from_recursion (λ s. s < n) (used_slots lists) (all_within (λ s. is_used (list_at lists s)) 0 (length lists) n (omega (arith, laid.count)))))

  distinct : IsDistinct eqb slots
  distinct = IsDistinct-IsPermutation eqb flips (used_slots lists) slots mixed (distinct_range (λ s. is_used (list_at lists s)) 0 (length lists))

  among : (i : ℕ) → slot i < n → is_used (filter (λ k. eqb (slot k) (slot i)) places) ≡ true → is_among (slot i) slots ≡ true
  among i low used =
      sym (list_any-IsPermutation (eqb (slot i)) (used_slots lists) slots mixed)
      ∙ among_range (λ s. is_used (list_at lists s)) (slot i) 0 (length lists) (omega arith) (omega (arith, low, laid.count)) (ap is_used (laid.each (slot i) low) ∙ used)

  all_among : (xs : List ℕ) → AllByRecursion (λ i. slot i < n) xs → AllByRecursion (λ i. is_used (filter (λ k. eqb (slot k) (slot i)) places) ≡ true) xs → AllByRecursion (λ i. is_among (slot i) slots ≡ true) xs
  all_among [] low used = tt
  all_among (i ∷ xs) low used = (among i low.0 used.0, all_among xs low.1 used.1)

  all_there : of_slots slot places slots ≡ places
  all_there =
      filter_alike (λ i. is_among (slot i) slots ≡ true) (λ i. is_among (slot i) slots) (λ i. true) (λ i e. e) places (all_among places sized (all_used slot places))
      ∙ filter_true places

  -- the places of all slots have the groups of all places, and are as many
  pub gathered_groups : (q : Query) (row : ℕ → Row) → groups q (map row (gathered lists slots)) ≡ groups q (map row places)
  gathered_groups q row =
      ap (λ (l : List ℕ). groups q (map row l)) (gathered_is slot n places lists laid slots all_below)
      ∙ in_turn_groups slot places q row slots distinct ∙ ap (λ (l : List ℕ). groups q (map row l)) all_there

  pub gathered_length : length (gathered lists slots) ≡ length places
  gathered_length =
      ap (λ (l : List ℕ). length l) (gathered_is slot n places lists laid slots all_below)
      ∙ in_turn_length slot places slots distinct ∙ ap (λ (l : List ℕ). length l) all_there
