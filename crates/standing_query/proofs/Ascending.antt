-- Names that ascend, each once, are told by which names stand among them.
use Rattle.std.proofs.Common.{◌≡◌, ℕ, Bool, true, false, not, ◌&&◌, ◌||◌, List, [], ◌∷◌, map, cond, refl, sym, ap, ◌∙◌, true≢false}
use Rattle.std.specs.Prelude.{bytes_eq, if◌then◌else◌}
use Rattle.std.specs.List.{AllByRecursion, dedup, dedup_from, filter, list_any}
use Rattle.std.specs.List.Sorted.{IsStrictlySortedBy}
use Rattle.std.specs.Ordering.{ordering_reverse}
use Rattle.std.specs.declared.cmp.Ordering.{Ordering}
use Rattle.std.specs.declared.cmp.Ordering.TheVariants.{Less, Equal, Greater}
use Rattle.std.proofs.lemmas.Cmp.{nat_list_cmp_total, tied_itself}
use Rattle.std.proofs.lemmas.Map.Lookups.{exact_bytes}
use Rattle.std.proofs.lemmas.Map.Views.{any-filter_same}
use Rattle.std.proofs.lemmas.List.Kept.{IsStrictlySortedBy-filter}
use Rattle.std.proofs.lemmas.Slice.Eq.{bytes_eq-Decides}
use Rattle.row_model.specs.Values.{time_name}
use Rattle.row_model.specs.Texts.{text_cmp}
use Rattle.standing_query.specs.Names.{has, is_cell}
use Rattle.standing_query.specs.Spread.{names_before}
use Rattle.standing_query.proofs.Names.{has_with, names_kept, self, with_name, with_name_at}

abbrev Ascends : List (List ℕ) → Type 0
Ascends names = IsStrictlySortedBy text_cmp names

abbrev Above : List ℕ → List (List ℕ) → Type 0
Above n names = AllByRecursion (λ m. text_cmp n m ≡ Less) names

-- ---- names that are put in one by one ascend

above_further : (n m : List ℕ) (ms : List (List ℕ)) → text_cmp n m ≡ Less → Above m ms → Above n ms
above_further n m [] less above = tt
above_further n m (k ∷ ks) less above = (nat_list_cmp_total.trans n m k less above.0, above_further n m ks less above.1)

above_with_at : (k n m : List ℕ) (ms further : List (List ℕ)) (o : Ordering) → text_cmp k n ≡ Less → Above k (m ∷ ms) → Above k further → Above k (with_name_at o n m ms further)
above_with_at k n m ms further Less less above more = (less, above)
above_with_at k n m ms further Equal less above more = above
above_with_at k n m ms further Greater less above more = (above.0, more)

above_with : (k n : List ℕ) (ms : List (List ℕ)) → text_cmp k n ≡ Less → Above k ms → Above k (with_name n ms)
above_with k n [] less above = (less, tt)
above_with k n (m ∷ ms) less above = above_with_at k n m ms (with_name n ms) (text_cmp n m) less above (above_with k n ms less above.1)

ascends_at : (n m : List ℕ) (ms further : List (List ℕ)) (o : Ordering) → text_cmp n m ≡ o → Ascends (m ∷ ms) → (text_cmp m n ≡ Less → Above m further) → Ascends further
    → Ascends (with_name_at o n m ms further)
unfolding IsStrictlySortedBy
ascends_at n m ms further Less h up above more = ((h, above_further n m ms h up.0), up)
ascends_at n m ms further Equal h up above more = up
ascends_at n m ms further Greater h up above more = (above (nat_list_cmp_total.antisymm m n ∙ ap ordering_reverse h), more)

ascends_with : (n : List ℕ) (ms : List (List ℕ)) → Ascends ms → Ascends (with_name n ms)
unfolding IsStrictlySortedBy
ascends_with n [] up = (tt, tt)
ascends_with n (m ∷ ms) up = ascends_at n m ms (with_name n ms) (text_cmp n m) refl up (λ less. above_with m n ms less up.0) (ascends_with n ms up.1)

ascends_or : (x : Bool) (n : List ℕ) (further : List (List ℕ)) → Ascends further → Ascends (if x then further else with_name n further)
ascends_or true n further up = up
ascends_or false n further up = ascends_with n further up

ascends_before : (names : List (List ℕ)) → Ascends (names_before names [])
unfolding IsStrictlySortedBy
ascends_before [] = tt
ascends_before (n ∷ ns) = ascends_or (bytes_eq n time_name) n (names_before ns []) (ascends_before ns)

-- ---- two lists that ascend and have the same names

not_below : (n m : List ℕ) (x : Bool) → bytes_eq n m ≡ x → text_cmp n m ≡ Less → x ≡ false
not_below n m false e less = refl
not_below n m true e less =
    let same : n ≡ m = (bytes_eq-Decides n m).0 e in
    let tie : text_cmp n m ≡ Equal = ap (λ (j : List ℕ). text_cmp n j) (sym same) ∙ tied_itself nat_list_cmp_total n in
    cc

lacks : (n : List ℕ) (ms : List (List ℕ)) → Above n ms → has n ms ≡ false
lacks n [] above = refl
lacks n (m ∷ ms) above = let other : bytes_eq n m ≡ false = not_below n m (bytes_eq n m) refl above.0 in rw other (lacks n ms above.1)

first : (n : List ℕ) (ns : List (List ℕ)) → has n (n ∷ ns) ≡ true
first n ns = rw (self n) refl

-- a name that is below the first of others is not among them
missing : (n m : List ℕ) (ns ms : List (List ℕ)) → Ascends (m ∷ ms) → text_cmp n m ≡ Less → has n (n ∷ ns) ≡ has n (m ∷ ms) → ⊥
unfolding IsStrictlySortedBy
missing n m ns ms up less same = true≢false (sym (first n ns) ∙ same ∙ lacks n (m ∷ ms) (less, above_further n m ms less up.0))

others_at : (k n : List ℕ) (ns ms : List (List ℕ)) (x : Bool) → bytes_eq k n ≡ x → Above n ns → Above n ms → (x || has k ns) ≡ (x || has k ms) → has k ns ≡ has k ms
others_at k n ns ms false e up vp same = same
others_at k n ns ms true e up vp same =
    let is : k ≡ n = (bytes_eq-Decides k n).0 e in
    ap (λ (j : List ℕ). has j ns) is ∙ (lacks n ns up ∙ (sym (lacks n ms vp) ∙ ap (λ (j : List ℕ). has j ms) (sym is)))

one_first : (n m : List ℕ) (ns ms : List (List ℕ)) (o : Ordering) → text_cmp n m ≡ o → Ascends (n ∷ ns) → Ascends (m ∷ ms) → ((k : List ℕ) → has k (n ∷ ns) ≡ has k (m ∷ ms)) → n ≡ m
one_first n m ns ms Less h up vp same = absurd (missing n m ns ms vp h (same n))
one_first n m ns ms Equal h up vp same = exact_bytes n m h
one_first n m ns ms Greater h up vp same = absurd (missing m n ms ns up (nat_list_cmp_total.antisymm m n ∙ ap ordering_reverse h) (sym (same m)))

pub only_list : (ns ms : List (List ℕ)) → Ascends ns → Ascends ms → ((k : List ℕ) → has k ns ≡ has k ms) → ns ≡ ms
unfolding IsStrictlySortedBy
only_list [] [] up vp same = refl
only_list [] (m ∷ ms) up vp same = absurd (true≢false (sym (first m ms) ∙ sym (same m)))
only_list (n ∷ ns) [] up vp same = absurd (true≢false (sym (first n ns) ∙ same n))
only_list (n ∷ ns) (m ∷ ms) up vp same =
    let is : n ≡ m = one_first n m ns ms (text_cmp n m) refl up vp same in
    let rest : ns ≡ ms = only_list ns ms up.1 vp.1 (λ k. others_at k n ns ms (bytes_eq k n) refl up.0 (rw is vp.0) (same k ∙ ap (λ (j : List ℕ). bytes_eq k j || has k ms) (sym is))) in
    ap (λ (j : List ℕ). j ∷ ns) is ∙ ap (λ (xs : List (List ℕ)). m ∷ xs) rest

-- ---- the names of a query's cells are those that it reads, ascending, without `time`

not_time : (n m : List ℕ) → bytes_eq n time_name ≡ true → bytes_eq m time_name ≡ false → bytes_eq n m ≡ false
not_time n m time other = by (bytes_eq n m) refl
  where
    by : (x : Bool) → bytes_eq n m ≡ x → x ≡ false
    by false e = refl
    by true e =
        let same : n ≡ m = (bytes_eq-Decides n m).0 e in
        absurd (true≢false (sym time ∙ (ap (λ (j : List ℕ). bytes_eq j time_name) same ∙ other)))

no_time_at : (x : Bool) (n m : List ℕ) (further : List (List ℕ)) → bytes_eq m time_name ≡ x → bytes_eq n time_name ≡ true → has n further ≡ false
    → has n (if x then further else with_name m further) ≡ false
no_time_at true n m further e time rest = rest
no_time_at false n m further e time rest = has_with n m further ∙ rw (not_time n m time e) rest

no_time : (n : List ℕ) (names : List (List ℕ)) → bytes_eq n time_name ≡ true → has n (names_before names []) ≡ false
no_time n [] time = refl
no_time n (m ∷ ms) time = no_time_at (bytes_eq m time_name) n m (names_before ms []) refl time (no_time n ms time)

has_before : (k : List ℕ) (names : List (List ℕ)) → has k (names_before names []) ≡ (is_cell k && has k names)
has_before k names = by (bytes_eq k time_name) refl
  where
    by : (x : Bool) → bytes_eq k time_name ≡ x → has k (names_before names []) ≡ (not x && has k names)
    by true e = no_time k names e
    by false e = names_kept k names e

has_cells : (k : List ℕ) (names : List (List ℕ)) → has k (filter is_cell names) ≡ (is_cell k && has k names)
has_cells k names = any-filter_same (bytes_eq k) is_cell (is_cell k) (λ m e. ap is_cell (sym ((bytes_eq-Decides k m).0 e))) names

pub cells_are : (read names : List (List ℕ)) → Ascends names → ((k : List ℕ) → has k names ≡ has k read) → filter is_cell names ≡ names_before read []
cells_are read names up same =
    only_list (filter is_cell names) (names_before read []) (IsStrictlySortedBy-filter text_cmp is_cell names up) (ascends_before read)
    (λ k. has_cells k names ∙ (ap (λ x. is_cell k && x) (same k) ∙ sym (has_before k read)))

-- ---- what a removal of equal neighbours leaves

module _ {X : Type 0} (same : X → X → Bool) (test : X → Bool) (alike : (x y : X) → same x y ≡ true → test x ≡ test y) where
  or_same : (x y z : Bool) → x ≡ y → (y || z) ≡ (y || (x || z))
  or_same true true z e = refl
  or_same false false z e = refl
  or_same true false z e = absurd (true≢false e)
  or_same false true z e = absurd (true≢false (sym e))

  any_at : (k x : X) (xs without further : List X) (t : Bool) → same x k ≡ t → list_any test without ≡ (test k || list_any test xs) → list_any test further ≡ (test x || list_any test xs)
      → list_any test (cond t without (k ∷ further)) ≡ (test k || (test x || list_any test xs))
  any_at k x xs without further true e left right = left ∙ or_same (test x) (test k) (list_any test xs) (alike x k e)
  any_at k x xs without further false e left right = ap (λ y. test k || y) right

  any_from : (k : X) (xs : List X) → list_any test (dedup_from same k xs) ≡ (test k || list_any test xs)
  any_from k [] = refl
  any_from k (x ∷ xs) = any_at k x xs (dedup_from same k xs) (dedup_from same x xs) (same x k) refl (any_from k xs) (any_from x xs)

  pub any_dedup : (xs : List X) → list_any test (dedup same xs) ≡ list_any test xs
  any_dedup [] = refl
  any_dedup (x ∷ xs) = any_from x xs

-- ---- names behind references

module _ {X : Type 0} (f : X → List ℕ) where
  pub has_map : (k : List ℕ) (xs : List X) → has k (map f xs) ≡ list_any (λ x. bytes_eq k (f x)) xs
  has_map k [] = refl
  has_map k (x ∷ xs) = ap (λ y. bytes_eq k (f x) || y) (has_map k xs)

  above_map : (k : List ℕ) (xs : List X) → AllByRecursion (λ x. text_cmp k (f x) ≡ Less) xs → Above k (map f xs)
  above_map k [] above = tt
  above_map k (x ∷ xs) above = (above.0, above_map k xs above.1)

  pub ascends_map : (xs : List X) → IsStrictlySortedBy (λ x y. text_cmp (f x) (f y)) xs → Ascends (map f xs)
  unfolding IsStrictlySortedBy
  ascends_map [] up = tt
  ascends_map (x ∷ xs) up = (above_map (f x) xs up.0, ascends_map xs up.1)
