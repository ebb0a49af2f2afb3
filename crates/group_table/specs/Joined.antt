-- Two ascending lists of groups, merged into one.
use Rattle.std.specs.Prelude.{ℕ, ◌+◌, ◌<◌, ◌^◌, List, [], ◌∷◌, ℤ, pos, ◌+ℤ◌, ◌≤ℤ◌, ◌*◌, ◌≤◌, Option, Some, None, FitsSigned}
use Rattle.std.specs.List.{AllByRecursion}
use Rattle.std.specs.Int.{int_min, int_max, w128}
use Rattle.std.specs.declared.cmp.Ordering.{Ordering}
use Rattle.std.specs.declared.cmp.Ordering.TheVariants.{Less, Equal, Greater}
use Rattle.leaf_model.specs.declared.groups.Fold.{Fold}
use Rattle.leaf_model.specs.declared.groups.Group.{Group}
use Rattle.leaf_model.specs.Groups.{keys_cmp}

-- the chosen one of two numbers, or the one that is there
abbrev pub either : (ℤ → ℤ → ℤ) → Option ℤ → Option ℤ → Option ℤ
either choose None b = b
either choose (Some a) None = Some a
either choose (Some a) (Some b) = Some (choose a b)

-- the fold of two lists of integers together
abbrev pub joined_fold : Fold → Fold → Fold
joined_fold a b = record { seen = a.seen + b.seen; sum = a.sum +ℤ b.sum; min = either int_min a.min b.min; max = either int_max a.max b.max }

abbrev pub joined_folds : List Fold → List Fold → List Fold
joined_folds [] bs = []
joined_folds (a ∷ as_) [] = []
joined_folds (a ∷ as_) (b ∷ bs) = joined_fold a b ∷ joined_folds as_ bs

-- the group of two lists of rows with the same keys
abbrev pub joined_group : Group → Group → Group
joined_group a b = record { keys = a.keys; count = a.count + b.count; folds = joined_folds a.folds b.folds }

-- a fold that fits its type: a number below 2^64, and a sum that is an i128
pub record FitsFold (f : Fold) : Type 0 where
  pub seen : f.seen < 2 ^ 64
  pub sum : FitsSigned w128 f.sum

pub record FitsGroup (g : Group) : Type 0 where
  pub count : g.count < 2 ^ 64
  pub folds : AllByRecursion FitsFold g.folds

-- a fold of at most n integers, each an i64
pub record IsFoldWithin (n : ℕ) (f : Fold) : Type 0 where
  pub seen : f.seen ≤ n
  pub low : pos 0 ≤ℤ (f.sum +ℤ pos (n * 2 ^ 63))
  pub high : f.sum ≤ℤ pos (n * 2 ^ 63)

pub record IsWithin (n : ℕ) (g : Group) : Type 0 where
  pub count : g.count ≤ n
  pub folds : AllByRecursion (IsFoldWithin n) g.folds

-- the merge of two lists that begin with a and b, by the order of their keys; the merges of what follows are given
abbrev pub next_of : Ordering → Group → Group → List Group → List Group → List Group → List Group
next_of Less a b left both right = a ∷ left
next_of Equal a b left both right = joined_group a b ∷ both
next_of Greater a b left both right = b ∷ right

-- a and the groups after it, merged with a list; `rest` merges the groups after it
abbrev pub joined_from : Group → (List Group → List Group) → List Group → List Group
joined_from a rest [] = a ∷ rest []
joined_from a rest (b ∷ bs) = next_of (keys_cmp a.keys b.keys) a b (rest (b ∷ bs)) (rest bs) (joined_from a rest bs)

-- both lists merged, ascending by key; two groups with the same keys are joined
abbrev pub joined : List Group → List Group → List Group
joined [] bs = bs
joined (a ∷ as_) bs = joined_from a (λ cs. joined as_ cs) bs

-- the relation holds of the first groups, if both lists have one
abbrev pub IfBoth : (Group → Group → Type 0) → List Group → List Group → Type 0
IfBoth P [] bs = Unit
IfBoth P (a ∷ as_) [] = Unit
IfBoth P (a ∷ as_) (b ∷ bs) = P a b
