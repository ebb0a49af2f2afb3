-- What rows can give stays within what rows can give when groups join, so that it fits.
use Rattle.std.proofs.Common.{ℕ, ◌+◌, ◌^◌, ◌≤◌, ◌<◌, List, [], ◌∷◌, arith}
use Rattle.std.specs.List.{AllByRecursion}
use Rattle.std.proofs.lemmas.Int.{ints}
use Rattle.std.specs.declared.cmp.Ordering.{Ordering}
use Rattle.std.specs.declared.cmp.Ordering.TheVariants.{Less, Equal, Greater}
use Rattle.leaf_model.specs.declared.groups.Fold.{Fold}
use Rattle.leaf_model.specs.declared.groups.Group.{Group}
use Rattle.leaf_model.specs.Groups.{keys_cmp}
use Rattle.group_table.specs.Joined.{joined_fold, joined_folds, joined_group, joined, next_of, FitsFold, FitsGroup, IsFoldWithin, IsWithin}

fold_grows : (m n : ℕ) (f : Fold) → m ≤ n → IsFoldWithin m f → IsFoldWithin n f
fold_grows m n f h w = record { seen = omega (arith, w.seen); low = omega (arith, ints, w.low); high = omega (arith, ints, w.high) }

folds_grow : (m n : ℕ) (fs : List Fold) → m ≤ n → AllByRecursion (IsFoldWithin m) fs → AllByRecursion (IsFoldWithin n) fs
folds_grow m n [] h w = tt
folds_grow m n (f ∷ fs) h w = (fold_grows m n f h w.0, folds_grow m n fs h w.1)

group_grows : (m n : ℕ) (g : Group) → m ≤ n → IsWithin m g → IsWithin n g
group_grows m n g h w = record { count = omega (arith, w.count); folds = folds_grow m n g.folds h w.folds }

pub groups_grow : (m n : ℕ) (gs : List Group) → m ≤ n → AllByRecursion (IsWithin m) gs → AllByRecursion (IsWithin n) gs
groups_grow m n [] h w = tt
groups_grow m n (g ∷ gs) h w = (group_grows m n g h w.0, groups_grow m n gs h w.1)

fold_joins : (m n : ℕ) (a b : Fold) → IsFoldWithin m a → IsFoldWithin n b → IsFoldWithin (m + n) (joined_fold a b)
fold_joins m n a b v w = record { seen = omega (arith, v.seen, w.seen); low = omega (arith, ints, v.low, w.low); high = omega (arith, ints, v.high, w.high) }

folds_join : (m n : ℕ) (fs hs : List Fold) → AllByRecursion (IsFoldWithin m) fs → AllByRecursion (IsFoldWithin n) hs → AllByRecursion (IsFoldWithin (m + n)) (joined_folds fs hs)
folds_join m n [] hs v w = tt
folds_join m n (f ∷ fs) [] v w = tt
folds_join m n (f ∷ fs) (h ∷ hs) v w = (fold_joins m n f h v.0 w.0, folds_join m n fs hs v.1 w.1)

group_joins : (m n : ℕ) (a b : Group) → IsWithin m a → IsWithin n b → IsWithin (m + n) (joined_group a b)
group_joins m n a b v w = record { count = omega (arith, v.count, w.count); folds = folds_join m n a.folds b.folds v.folds w.folds }

abbrev Within : ℕ → List Group → Type 0
Within n gs = AllByRecursion (IsWithin n) gs

next_within : (m n : ℕ) (a b : Group) (left both right : List Group) (o : Ordering) → IsWithin m a → IsWithin n b
    → Within (m + n) left → Within (m + n) both → Within (m + n) right → Within (m + n) (next_of o a b left both right)
next_within m n a b left both right Less v w l s r = (group_grows m (m + n) a (omega arith) v, l)
next_within m n a b left both right Equal v w l s r = (group_joins m n a b v w, s)
next_within m n a b left both right Greater v w l s r = (group_grows n (m + n) b (omega arith) w, r)

from_within : (m n : ℕ) (a : Group) (as_ : List Group) → IsWithin m a → ((bs : List Group) → Within n bs → Within (m + n) (joined as_ bs))
    → (bs : List Group) → Within n bs → Within (m + n) (joined (a ∷ as_) bs)
from_within m n a as_ v ih [] w = (group_grows m (m + n) a (omega arith) v, ih [] w)
from_within m n a as_ v ih (b ∷ bs) w =
    next_within m n a b (joined as_ (b ∷ bs)) (joined as_ bs) (joined (a ∷ as_) bs) (keys_cmp a.keys b.keys) v w.0 (ih (b ∷ bs) w) (ih bs w.1) (from_within m n a as_ v ih bs w.1)

pub joined_within : (m n : ℕ) (as_ bs : List Group) → AllByRecursion (IsWithin m) as_ → AllByRecursion (IsWithin n) bs → AllByRecursion (IsWithin (m + n)) (joined as_ bs)
joined_within m n [] bs v w = groups_grow n (m + n) bs (omega arith) w
joined_within m n (a ∷ as_) bs v w = from_within m n a as_ v.0 (λ cs. joined_within m n as_ cs v.1) bs w

fold_fits : (n : ℕ) (f : Fold) → n < 2 ^ 64 → IsFoldWithin n f → FitsFold f
fold_fits n f h w = record { seen = omega (arith, h, w.seen); sum = omega (arith, ints, h, w.low, w.high) }

folds_fit : (n : ℕ) (fs : List Fold) → n < 2 ^ 64 → AllByRecursion (IsFoldWithin n) fs → AllByRecursion FitsFold fs
folds_fit n [] h w = tt
folds_fit n (f ∷ fs) h w = (fold_fits n f h w.0, folds_fit n fs h w.1)

pub groups_fit : (n : ℕ) (gs : List Group) → n < 2 ^ 64 → AllByRecursion (IsWithin n) gs → AllByRecursion FitsGroup gs
groups_fit n [] h w = tt
groups_fit n (g ∷ gs) h w = (record { count = omega (arith, w.0.count); folds = folds_fit n g.folds h w.0.folds }, groups_fit n gs h w.1)

-- what `merge` asks of two tables, from the numbers of rows that they come from
pub joined_fit : (m n : ℕ) (as_ bs : List Group) → m + n < 2 ^ 64 → AllByRecursion (IsWithin m) as_ → AllByRecursion (IsWithin n) bs → AllByRecursion FitsGroup (joined as_ bs)
joined_fit m n as_ bs h v w = groups_fit (m + n) (joined as_ bs) h (joined_within m n as_ bs v w)
