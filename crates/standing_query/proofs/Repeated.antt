-- A row that stands there several times.
use Rattle.std.proofs.Common.{◌≡◌, ℕ, zero, suc, ◌+◌, ◌*◌, ◌^◌, ◌≤◌, ◌<◌, Bool, true, false, List, [], ◌∷◌, map, ℤ, pos, ◌+ℤ◌, ◌*ℤ◌, Option, Some, None, refl, sym, subst, ap, ap₂, ◌∙◌, arith}
use Rattle.std.specs.Prelude.{replicate}
use Rattle.std.specs.List.{AllByRecursion}
use Rattle.std.specs.Int.{int_min, int_max}
use Rattle.std.proofs.lemmas.Int.{ints, clamps}
use Rattle.std.proofs.lemmas.Cmp.{tied_itself}
use lib.IntN.{suc_ℤ-*ℤ, +ℤ_comm, zero-*ℤ, +ℤ_idl}
use Rattle.row_model.specs.declared.rows.Row.{Row}
use Rattle.leaf_model.specs.declared.queries.Query.{Query}
use Rattle.leaf_model.specs.declared.groups.Fold.{Fold}
use Rattle.leaf_model.specs.declared.groups.Group.{Group}
use Rattle.leaf_model.specs.Groups.{groups, passes}
use Rattle.leaf_model.proofs.KeyOrder.{keys_cmp_total}
use Rattle.group_table.specs.Joined.{either, joined, joined_fold, joined_folds, joined_group}
use Rattle.group_table.proofs.Laws.{groups-append, no_row, one_row, single}
use Rattle.group_table.specs.Joined.{FitsGroup, IsWithin}
use Rattle.group_table.proofs.Within.{groups_fit, joined_within}
use Rattle.standing_query.specs.Times.{fold_times, group_times}

either_same : (f : ℤ → ℤ → ℤ) → ((a : ℤ) → f a a ≡ a) → (a : Option ℤ) → either f a a ≡ a
either_same f same None = refl
either_same f same (Some a) = ap (λ (z : ℤ). Some z) (same a)

min_same : (a : ℤ) → int_min a a ≡ a
min_same a = omega (arith, ints, clamps)

max_same : (a : ℤ) → int_max a a ≡ a
max_same a = omega (arith, ints, clamps)

sum_more : (k : ℕ) (s : ℤ) → s +ℤ pos k *ℤ s ≡ pos (suc k) *ℤ s
sum_more k s = +ℤ_comm s (pos k *ℤ s) ∙ sym (suc_ℤ-*ℤ (pos k) s)

sum_once : (s : ℤ) → s ≡ pos 1 *ℤ s
sum_once s = sym (suc_ℤ-*ℤ (pos 0) s ∙ ap (λ (z : ℤ). z +ℤ s) (zero-*ℤ s) ∙ +ℤ_idl s)

count_more : (k n : ℕ) → n + suc k * n ≡ suc (suc k) * n
count_more k n = omega arith

fold_more : (k : ℕ) (f : Fold) → joined_fold f (fold_times (suc k) f) ≡ fold_times (suc (suc k)) f
fold_more k f =
    let n = count_more k f.seen in
    let a = sum_more (suc k) f.sum in
    let b = either_same int_min min_same f.min in
    let c = either_same int_max max_same f.max in
    λ i. record { seen = n i; sum = a i; min = b i; max = c i }

folds_more : (k : ℕ) (fs : List Fold) → joined_folds fs (map (fold_times (suc k)) fs) ≡ map (fold_times (suc (suc k))) fs
folds_more k [] = refl
folds_more k (f ∷ fs) = ap₂ (λ (g : Fold) (gs : List Fold). g ∷ gs) (fold_more k f) (folds_more k fs)

group_more : (k : ℕ) (g : Group) → joined_group g (group_times (suc k) g) ≡ group_times (suc (suc k)) g
group_more k g =
    let n = count_more k g.count in
    let a = folds_more k g.folds in
    λ i. record { keys = g.keys; count = n i; folds = a i }

fold_once : (f : Fold) → f ≡ fold_times 1 f
fold_once f =
    let n : f.seen ≡ 1 * f.seen = omega arith in
    let s = sum_once f.sum in
    λ i. record { seen = n i; sum = s i; min = f.min; max = f.max }

folds_once : (fs : List Fold) → fs ≡ map (fold_times 1) fs
folds_once [] = refl
folds_once (f ∷ fs) = ap₂ (λ (g : Fold) (gs : List Fold). g ∷ gs) (fold_once f) (folds_once fs)

group_once : (g : Group) → g ≡ group_times 1 g
group_once g =
    let n : g.count ≡ 1 * g.count = omega arith in
    let fs = folds_once g.folds in
    λ i. record { keys = g.keys; count = n i; folds = fs i }

-- one group, joined to itself so many times
one_more : (k : ℕ) (g : Group) → joined (g ∷ []) (map (group_times (suc k)) (g ∷ [])) ≡ map (group_times (suc (suc k))) (g ∷ [])
one_more k g =
    let tie = tied_itself keys_cmp_total g.keys in
    rw tie (ap (λ (h : Group). h ∷ []) (group_more k g))

alone_more : (q : Query) (row : Row) (k : ℕ) (x : Bool) → passes q row ≡ x
    → joined (groups q (row ∷ [])) (map (group_times (suc k)) (groups q (row ∷ []))) ≡ map (group_times (suc (suc k))) (groups q (row ∷ []))
alone_more q row k true h =
    let alone = one_row q row h in
    ap (λ (gs : List Group). joined gs (map (group_times (suc k)) gs)) alone ∙ one_more k (single q row) ∙ ap (map (group_times (suc (suc k)))) (sym alone)
alone_more q row k false h =
    let alone = no_row q row h in
    ap (λ (gs : List Group). joined gs (map (group_times (suc k)) gs)) alone ∙ ap (map (group_times (suc (suc k)))) (sym alone)

groups_once : (gs : List Group) → gs ≡ map (group_times 1) gs
groups_once [] = refl
groups_once (g ∷ gs) = ap₂ (λ (h : Group) (hs : List Group). h ∷ hs) (group_once g) (groups_once gs)

-- a row that stands there several times has its own groups, that many times
pub repeated : (q : Query) (row : Row) (k : ℕ) → groups q (replicate (suc k) row) ≡ map (group_times (suc k)) (groups q (row ∷ []))
repeated q row zero = groups_once (groups q (row ∷ []))
repeated q row (suc k) =
    groups-append q (row ∷ []) (replicate (suc k) row)
    ∙ ap (joined (groups q (row ∷ []))) (repeated q row k)
    ∙ alone_more q row k (passes q row) refl

-- ---- and they are within so many rows

one_within : (q : Query) (row : Row) (k : ℕ) → AllByRecursion (IsWithin 1) (groups q (row ∷ [])) → AllByRecursion (IsWithin (suc k)) (groups q (replicate (suc k) row))
one_within q row zero one = one
one_within q row (suc k) one =
    let more : 1 + suc k ≡ suc (suc k) = omega arith in
    subst (λ (n : ℕ). AllByRecursion (IsWithin n) (groups q (replicate (suc (suc k)) row))) more
    (subst (AllByRecursion (IsWithin (1 + suc k))) (sym (groups-append q (row ∷ []) (replicate (suc k) row)))
    (joined_within 1 (suc k) (groups q (row ∷ [])) (groups q (replicate (suc k) row)) one (one_within q row k one)))

pub times_are : (q : Query) (row : Row) (n : ℕ) → 0 < n → map (group_times n) (groups q (row ∷ [])) ≡ groups q (replicate n row)
times_are q row zero some = absurd (omega (arith, some))
times_are q row (suc k) some = sym (repeated q row k)

pub times_within : (q : Query) (row : Row) (n : ℕ) → 0 < n → AllByRecursion (IsWithin 1) (groups q (row ∷ [])) → AllByRecursion (IsWithin n) (groups q (replicate n row))
times_within q row zero some one = absurd (omega (arith, some))
times_within q row (suc k) some one = one_within q row k one

pub times_fit : (q : Query) (row : Row) (n : ℕ) → 0 < n → n ≤ 2 ^ 62 → AllByRecursion (IsWithin 1) (groups q (row ∷ [])) → AllByRecursion FitsGroup (map (group_times n) (groups q (row ∷ [])))
times_fit q row n some few one =
    subst (AllByRecursion FitsGroup) (sym (times_are q row n some)) (groups_fit n (groups q (replicate n row)) (omega (arith, few)) (times_within q row n some one))
