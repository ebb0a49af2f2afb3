-- Leaves that are sorted by their replies stand in one list each, in ascending order.
use Rattle.std.proofs.Common.{◌≡◌, ◌⊎◌, inl, inr, ℕ, suc, ◌+◌, ◌≤◌, List, [], ◌∷◌, ◌++◌, length, map, refl, sym, subst, arith}
use Rattle.std.specs.List.{AllByRecursion, range_with_len}
use Rattle.std.specs.List.Sorted.{IsPermutation}
use Rattle.std.proofs.lemmas.List.Sorted.{IsPermutation-refl, IsPermutation-cons, IsPermutation-trans, IsPermutation-middle, IsPermutation-append_right}
use Rattle.leaf_table.specs.declared.replies.Reply.{Reply}
use Rattle.leaf_table.specs.declared.replies.Reply.TheVariants as told
use Rattle.aggregator.specs.declared.lists.Named.{Named}
use Rattle.aggregator.specs.declared.fanned.Fanned.{Fanned}
use Rattle.aggregator.specs.Sorts.{with_number, named_of, shut_of, starved_of, worn_of, by_leaf, leaves_in, Sorts, AscendsFrom, Divides}
use Rattle.aggregator.specs.Merges.{IsAnswer}
use Rattle.aggregator.proofs.Sorted.{Sorting, sorting_ends}

-- ---- each list ascends

-- a leaf gives nothing, or itself
abbrev GivesItself : {X : Type 0} → (X → ℕ) → (ℕ → Reply → List X) → Type 0
GivesItself {X} number gives = (leaf : ℕ) (r : Reply) → (gives leaf r ≡ []) ⊎ ((x : X) × (gives leaf r ≡ x ∷ []) × (number x ≡ leaf))

-- what the leaves from one on give to a list ascends from there
pub ascends : {X : Type 0} (number : X → ℕ) (gives : ℕ → Reply → List X) → GivesItself number gives
    → (low leaf : ℕ) (rs : List Reply) → low ≤ leaf → AscendsFrom number low (by_leaf gives leaf rs)
ascends number gives one low leaf [] h = tt
ascends {X} number gives one low leaf (r ∷ rs) h = by (one leaf r) (λ from is. ascends number gives one from (suc leaf) rs is)
  where
    by : (gives leaf r ≡ []) ⊎ ((x : X) × (gives leaf r ≡ x ∷ []) × (number x ≡ leaf))
        → ((from : ℕ) → from ≤ suc leaf → AscendsFrom number from (by_leaf gives (suc leaf) rs))
        → AscendsFrom number low (gives leaf r ++ by_leaf gives (suc leaf) rs)
    by (inl none) behind = subst (λ (xs : List X). AscendsFrom number low (xs ++ by_leaf gives (suc leaf) rs)) (sym none) (behind low (omega (arith, h)))
    by (inr here) behind =
        let at = here.2 in
        let low_is : low ≤ number here.0 = omega (arith, h, at) in
        subst (λ (xs : List X). AscendsFrom number low (xs ++ by_leaf gives (suc leaf) rs)) (sym here.1) (low_is, behind (suc (number here.0)) (omega (arith, at)))

pub named_itself : GivesItself (λ (n : Named). n.leaf) named_of
named_itself leaf (told.Groups number gs) = inr (with_number leaf number, refl, refl)
named_itself leaf (told.Shut number) = inl refl
named_itself leaf (told.NoMemory number) = inl refl
named_itself leaf told.Worn = inl refl
named_itself leaf (told.Added number kept late) = inl refl
named_itself leaf (told.Removed number rows) = inl refl
named_itself leaf (told.Full number) = inl refl

pub shut_itself : GivesItself (λ (n : Named). n.leaf) shut_of
shut_itself leaf (told.Groups number gs) = inl refl
shut_itself leaf (told.Shut number) = inr (with_number leaf number, refl, refl)
shut_itself leaf (told.NoMemory number) = inl refl
shut_itself leaf told.Worn = inl refl
shut_itself leaf (told.Added number kept late) = inl refl
shut_itself leaf (told.Removed number rows) = inl refl
shut_itself leaf (told.Full number) = inl refl

pub starved_itself : GivesItself (λ (n : Named). n.leaf) starved_of
starved_itself leaf (told.Groups number gs) = inl refl
starved_itself leaf (told.Shut number) = inl refl
starved_itself leaf (told.NoMemory number) = inr (with_number leaf number, refl, refl)
starved_itself leaf told.Worn = inl refl
starved_itself leaf (told.Added number kept late) = inl refl
starved_itself leaf (told.Removed number rows) = inl refl
starved_itself leaf (told.Full number) = inl refl

pub worn_itself : GivesItself (λ (n : ℕ). n) worn_of
worn_itself leaf (told.Groups number gs) = inl refl
worn_itself leaf (told.Shut number) = inl refl
worn_itself leaf (told.NoMemory number) = inl refl
worn_itself leaf told.Worn = inr (leaf, refl, refl)
worn_itself leaf (told.Added number kept late) = inl refl
worn_itself leaf (told.Removed number rows) = inl refl
worn_itself leaf (told.Full number) = inl refl

-- ---- each leaf stands once

-- a number in the second, third or fourth of four lists may stand before them all
second : (l : ℕ) (xs ys zs us all : List ℕ) → IsPermutation (xs ++ (ys ++ (zs ++ us))) all → IsPermutation (xs ++ ((l ∷ ys) ++ (zs ++ us))) (l ∷ all)
second l xs ys zs us all h =
    IsPermutation-trans (xs ++ (l ∷ (ys ++ (zs ++ us)))) (l ∷ (xs ++ (ys ++ (zs ++ us)))) (l ∷ all)
    (IsPermutation-middle xs l (ys ++ (zs ++ us))) (IsPermutation-cons l (xs ++ (ys ++ (zs ++ us))) all h)

third : (l : ℕ) (xs ys zs us all : List ℕ) → IsPermutation (xs ++ (ys ++ (zs ++ us))) all → IsPermutation (xs ++ (ys ++ ((l ∷ zs) ++ us))) (l ∷ all)
third l xs ys zs us all h =
    IsPermutation-trans (xs ++ (ys ++ (l ∷ (zs ++ us)))) (xs ++ (l ∷ (ys ++ (zs ++ us)))) (l ∷ all)
    (IsPermutation-append_right xs (ys ++ (l ∷ (zs ++ us))) (l ∷ (ys ++ (zs ++ us))) (IsPermutation-middle ys l (zs ++ us))) (second l xs ys zs us all h)

fourth : (l : ℕ) (xs ys zs us all : List ℕ) → IsPermutation (xs ++ (ys ++ (zs ++ us))) all → IsPermutation (xs ++ (ys ++ (zs ++ (l ∷ us)))) (l ∷ all)
fourth l xs ys zs us all h =
    IsPermutation-trans (xs ++ (ys ++ (zs ++ (l ∷ us)))) (xs ++ (ys ++ (l ∷ (zs ++ us)))) (l ∷ all)
    (IsPermutation-append_right xs (ys ++ (zs ++ (l ∷ us))) (ys ++ (l ∷ (zs ++ us)))
    (IsPermutation-append_right ys (zs ++ (l ∷ us)) (l ∷ (zs ++ us)) (IsPermutation-middle zs l us)))
    (third l xs ys zs us all h)

abbrev numbers : List Named → List ℕ
numbers ns = map (λ (n : Named). n.leaf) ns

-- the leaves from one on, by the lists of their replies
abbrev leaves_from : ℕ → List Reply → List ℕ
leaves_from leaf rs = map (λ (n : Named). n.leaf) (by_leaf named_of leaf rs) ++ (map (λ (n : Named). n.leaf) (by_leaf shut_of leaf rs) ++ (map (λ (n : Named). n.leaf) (by_leaf starved_of leaf rs) ++ by_leaf worn_of leaf rs))

each_once : (leaf : ℕ) (rs : List Reply) → AllByRecursion IsAnswer rs → IsPermutation (leaves_from leaf rs) (range_with_len leaf (length rs))
each_once leaf [] are = IsPermutation-refl []
each_once leaf (r ∷ rs) are = by r are.0 (subst (λ (n : ℕ). IsPermutation (leaves_from (suc leaf) rs) (range_with_len n (length rs))) (next leaf) (each_once (suc leaf) rs are.1))
  where
    next : (n : ℕ) → suc n ≡ n + 1
    next n = omega arith

    by : (x : Reply) → IsAnswer x → IsPermutation (leaves_from (suc leaf) rs) (range_with_len (leaf + 1) (length rs)) → IsPermutation (leaves_from leaf (x ∷ rs)) (leaf ∷ range_with_len (leaf + 1) (length rs))
    by (told.Groups number gs) is behind = IsPermutation-cons leaf (leaves_from (suc leaf) rs) (range_with_len (leaf + 1) (length rs)) behind
    by (told.Shut number) is behind = second leaf (numbers (by_leaf named_of (suc leaf) rs)) (numbers (by_leaf shut_of (suc leaf) rs)) (numbers (by_leaf starved_of (suc leaf) rs)) (by_leaf worn_of (suc leaf) rs) (range_with_len (leaf + 1) (length rs)) behind
    by (told.NoMemory number) is behind = third leaf (numbers (by_leaf named_of (suc leaf) rs)) (numbers (by_leaf shut_of (suc leaf) rs)) (numbers (by_leaf starved_of (suc leaf) rs)) (by_leaf worn_of (suc leaf) rs) (range_with_len (leaf + 1) (length rs)) behind
    by told.Worn is behind = fourth leaf (numbers (by_leaf named_of (suc leaf) rs)) (numbers (by_leaf shut_of (suc leaf) rs)) (numbers (by_leaf starved_of (suc leaf) rs)) (by_leaf worn_of (suc leaf) rs) (range_with_len (leaf + 1) (length rs)) behind
    by (told.Added number kept late) is behind = absurd is
    by (told.Removed number rows) is behind = absurd is
    by (told.Full number) is behind = absurd is

divides : (rs : List Reply) (f : Fanned) → AllByRecursion IsAnswer rs → Sorts rs f → Divides (length rs) f
divides rs f are sorts = record {
  once = subst (λ (ls : List ℕ). IsPermutation ls (range_with_len 0 (length rs))) (sym same) (each_once 0 rs are);
  named = subst (AscendsFrom (λ (n : Named). n.leaf) 0) (sym sorts.named) (ascends (λ (n : Named). n.leaf) named_of named_itself 0 0 rs zero_least);
  shut = subst (AscendsFrom (λ (n : Named). n.leaf) 0) (sym sorts.shut) (ascends (λ (n : Named). n.leaf) shut_of shut_itself 0 0 rs zero_least);
  starved = subst (AscendsFrom (λ (n : Named). n.leaf) 0) (sym sorts.starved) (ascends (λ (n : Named). n.leaf) starved_of starved_itself 0 0 rs zero_least);
  worn = subst (AscendsFrom (λ (n : ℕ). n) 0) (sym sorts.worn) (ascends (λ (n : ℕ). n) worn_of worn_itself 0 0 rs zero_least);
}
  where
    zero_least : 0 ≤ 0
    zero_least = omega arith

    same : leaves_in f ≡ leaves_from 0 rs
    same = rw (sorts.named, sorts.shut, sorts.starved, sorts.worn) refl

-- where no other replies came, sorted leaves stand in one list each
pub divided_at_the_end : (all : List Reply) (leaf : ℕ) (rest : List Reply) (f : Fanned) → Sorting all leaf rest f → rest ≡ [] → AllByRecursion IsAnswer all → Divides (length all) f
divided_at_the_end all leaf rest f so_far none are = divides all f are (sorting_ends all leaf f (subst (λ (rs : List Reply). Sorting all leaf rs f) none so_far))
