-- A group goes into an ascending table at the place that a search finds.
use Rattle.std.proofs.Common.{◌≡◌, ℕ, suc, zero, ◌≤◌, ◌<◌, true, false, List, [], ◌∷◌, ◌++◌, length, drop, take, refl, ap, arith}
use Rattle.std.specs.List.{AllByRecursion, slice_index_or, slice_set}
use Rattle.std.specs.List.Sorted.{IsPartitionPoint, IsPartitionedBy}
use Rattle.std.specs.Ordering.{is_lt, is_eq}
use Rattle.std.specs.declared.cmp.Ordering.{Ordering}
use Rattle.std.specs.declared.cmp.Ordering.TheVariants.{Less, Equal, Greater}
use Rattle.leaf_model.specs.declared.groups.Key.{Key}
use Rattle.leaf_model.specs.declared.groups.Group.{Group}
use Rattle.leaf_model.specs.Groups.{keys_cmp}
use Rattle.group_table.specs.Joined.{joined_group, joined}
use Rattle.group_table.specs.Table.{keys_in, Above, Ascends, is_first, put_first}
use Rattle.group_table.proofs.Laws.{joined-nil, chain, tie_right}

is_less : (o : Ordering) → is_lt o ≡ true → o ≡ Less
is_less Less h = refl
is_less Equal h = cc
is_less Greater h = cc

above_at : (k : List Key) (gs : List Group) (j : ℕ) (d : Group) → Above k (keys_in gs) → j < length gs → keys_cmp k (slice_index_or gs j d).keys ≡ Less
above_at k [] j d up h = absurd (omega arith)
above_at k (g ∷ gs) zero d up h = up.0
above_at k (g ∷ gs) (suc j) d up h = above_at k gs j d up.1 (omega arith)

pub shaped_at : (n : ℕ) (gs : List Group) (j : ℕ) (d : Group) → AllByRecursion (λ (g : Group). length g.folds ≡ n) gs → j < length gs → length (slice_index_or gs j d).folds ≡ n
shaped_at n [] j d all h = absurd (omega arith)
shaped_at n (g ∷ gs) zero d all h = all.0
shaped_at n (g ∷ gs) (suc j) d all h = shaped_at n gs j d all.1 (omega arith)

-- no group below the keys comes after one that is not
pub parted : (ks : List Key) (gs : List Group) → Ascends (keys_in gs) → IsPartitionedBy (λ (g : Group). is_lt (keys_cmp g.keys ks)) gs
parted ks [] up i j d le lt e = absurd (omega arith)
parted ks (g ∷ gs) up zero zero d le lt e = e
parted ks (g ∷ gs) up zero (suc j) d le lt e =
    let other = slice_index_or gs j d in
    ap is_lt (chain g.keys other.keys ks (above_at g.keys gs j d up.0 (omega arith)) (is_less (keys_cmp other.keys ks) e))
parted ks (g ∷ gs) up (suc i) zero d le lt e = absurd (omega arith)
parted ks (g ∷ gs) up (suc i) (suc j) d le lt e = parted ks gs up.1 i j d (omega arith) (omega arith) e

abbrev IsPlace : List Key → List Group → ℕ → Type 0
IsPlace ks gs i = IsPartitionPoint (λ (g : Group). is_lt (keys_cmp g.keys ks) ≡ true) (λ (g : Group). is_lt (keys_cmp g.keys ks) ≡ false) gs i

first-at : (g a : Group) (rest : List Group) (o : Ordering) → keys_cmp a.keys g.keys ≡ o → is_lt o ≡ false → joined (a ∷ rest) (g ∷ []) ≡ put_first g (a ∷ rest)
first-at g a rest Less h e = cc
first-at g a rest Equal h e = rw h (ap (λ gs. joined_group a g ∷ gs) (joined-nil rest))
first-at g a rest Greater h e = rw h (ap (λ gs. g ∷ a ∷ gs) (joined-nil rest))

-- a table joined with one group has it at its place
pub placed : (g : Group) (gs : List Group) (i : ℕ) → i ≤ length gs → IsPlace g.keys gs i → joined gs (g ∷ []) ≡ take i gs ++ put_first g (drop i gs)
placed g [] zero h parts = refl
placed g (a ∷ gs) zero h parts = first-at g a gs (keys_cmp a.keys g.keys) refl (parts.1 0 a (omega arith) (omega arith))
placed g [] (suc i) h parts = absurd (omega arith)
placed g (a ∷ gs) (suc i) h parts =
    let before = is_less (keys_cmp a.keys g.keys) (parts.0 0 a (omega arith) (omega arith)) in
    let rest = placed g gs i (omega arith) ((λ k d l u. parts.0 (suc k) d (omega arith) (omega arith)), (λ k d l u. parts.1 (suc k) d (omega arith) (omega arith))) in
    rw before (ap (λ hs. a ∷ hs) rest)

-- a group of these keys is joined where it stands
pub put_into : (g : Group) (gs : List Group) (i : ℕ) (d : Group) → is_first g.keys (drop i gs) ≡ true
    → slice_set gs i (joined_group (slice_index_or gs i d) g) ≡ take i gs ++ put_first g (drop i gs)
put_into g [] zero d h = cc
put_into g [] (suc i) d h = cc
put_into g (a ∷ gs) zero d h = rw h refl
put_into g (a ∷ gs) (suc i) d h = ap (λ hs. a ∷ hs) (put_into g gs i d h)

is_equal : (o : Ordering) → is_eq o ≡ true → o ≡ Equal
is_equal Less h = cc
is_equal Equal h = refl
is_equal Greater h = cc

above_first : (k : List Key) (g : Group) (gs : List Group) (i : ℕ) → Above k (keys_in gs) → is_first g.keys (drop i gs) ≡ true → keys_cmp k g.keys ≡ Less
above_first k g [] zero up h = cc
above_first k g [] (suc i) up h = cc
above_first k g (a ∷ gs) zero up h = tie_right k a.keys g.keys Less up.0 (is_equal (keys_cmp a.keys g.keys) h)
above_first k g (a ∷ gs) (suc i) up h = above_first k g gs i up.1 h

-- where a group of these keys stands is their place, however it was found
pub found : (g : Group) (gs : List Group) (i : ℕ) → Ascends (keys_in gs) → is_first g.keys (drop i gs) ≡ true → joined gs (g ∷ []) ≡ take i gs ++ put_first g (drop i gs)
found g [] zero up h = cc
found g [] (suc i) up h = cc
found g (a ∷ gs) zero up h = first-at g a gs Equal (is_equal (keys_cmp a.keys g.keys) h) refl
found g (a ∷ gs) (suc i) up h = rw (above_first a.keys g gs i up.0 h) (ap (λ hs. a ∷ hs) (found g gs i up.1 h))
