-- Groups join as their lists of rows append.
use Rattle.std.proofs.Common.{◌≡◌, ℕ, ◌+◌, List, [], ◌∷◌, ◌++◌, map, ℤ, pos, ◌+ℤ◌, Option, Some, None, refl, sym, ap, ◌∙◌, arith}
use Rattle.std.specs.List.{fold}
use Rattle.std.specs.Int.{int_min, int_max}
use Rattle.std.proofs.lemmas.Int.{ints, clamps}
use Rattle.std.proofs.lemmas.List.{append-nil, length-append}
use Rattle.std.proofs.lemmas.List.Sums.{fold-append}
use Rattle.std.proofs.lemmas.List.Elements.{filter_map-append}
use Rattle.std.specs.Option.{option_and_then}
use Rattle.row_model.specs.declared.rows.Row.{Row}
use Rattle.leaf_model.specs.declared.queries.Query.{Query}
use Rattle.leaf_model.specs.declared.groups.Key.{Key}
use Rattle.leaf_model.specs.declared.queries.Agg.{Agg}
use Rattle.leaf_model.specs.declared.queries.Agg.TheVariants.{Count, Sum, Min, Max, Avg}
use Rattle.leaf_model.specs.declared.groups.Fold.{Fold}
use Rattle.leaf_model.specs.declared.groups.Group.{Group}
use Rattle.leaf_model.specs.Groups.{least, greatest, fold_of, agg_ints, group_of, ints_of, value_of, as_int}
use Rattle.group_table.specs.Joined.{either, joined_fold, joined_folds, joined_group}

pub add_assoc : (a b c : ℤ) → (a +ℤ b) +ℤ c ≡ a +ℤ (b +ℤ c)
add_assoc a b c = omega (arith, ints)

pub min_assoc : (a b c : ℤ) → int_min (int_min a b) c ≡ int_min a (int_min b c)
min_assoc a b c = omega (arith, ints, clamps)

pub max_assoc : (a b c : ℤ) → int_max (int_max a b) c ≡ int_max a (int_max b c)
max_assoc a b c = omega (arith, ints, clamps)

min_comm : (a b : ℤ) → int_min a b ≡ int_min b a
min_comm a b = omega (arith, ints, clamps)

max_comm : (a b : ℤ) → int_max a b ≡ int_max b a
max_comm a b = omega (arith, ints, clamps)

-- a fold from a value is that value with the fold of the rest
fold_out : (f : ℤ → ℤ → ℤ) → ((a b c : ℤ) → f (f a b) c ≡ f a (f b c)) → (a b : ℤ) (ns : List ℤ) → fold f (f a b) ns ≡ f a (fold f b ns)
fold_out f assoc a b [] = refl
fold_out f assoc a b (n ∷ ns) = ap (λ z. fold f z ns) (assoc a b n) ∙ fold_out f assoc a (f b n) ns

pub sum-append : (ms ns : List ℤ) → fold ◌+ℤ◌ (pos 0) (ms ++ ns) ≡ fold ◌+ℤ◌ (pos 0) ms +ℤ fold ◌+ℤ◌ (pos 0) ns
sum-append ms ns =
    let zero_right : fold ◌+ℤ◌ (pos 0) ms +ℤ pos 0 ≡ fold ◌+ℤ◌ (pos 0) ms = omega (arith, ints) in
    fold-append ◌+ℤ◌ (pos 0) ms ns ∙ ap (λ z. fold ◌+ℤ◌ z ns) (sym zero_right) ∙ fold_out ◌+ℤ◌ add_assoc (fold ◌+ℤ◌ (pos 0) ms) (pos 0) ns

pub least-append : (ms ns : List ℤ) → least (ms ++ ns) ≡ either int_min (least ms) (least ns)
least-append [] ns = refl
least-append (m ∷ ms) [] = ap (λ l. Some (fold int_min m l)) (append-nil ms)
least-append (m ∷ ms) (n ∷ ns) = ap (λ z. Some z) (fold-append int_min m ms (n ∷ ns) ∙ fold_out int_min min_assoc (fold int_min m ms) n ns)

pub greatest-append : (ms ns : List ℤ) → greatest (ms ++ ns) ≡ either int_max (greatest ms) (greatest ns)
greatest-append [] ns = refl
greatest-append (m ∷ ms) [] = ap (λ l. Some (fold int_max m l)) (append-nil ms)
greatest-append (m ∷ ms) (n ∷ ns) = ap (λ z. Some z) (fold-append int_max m ms (n ∷ ns) ∙ fold_out int_max max_assoc (fold int_max m ms) n ns)

pub fold_of-append : (ms ns : List ℤ) → fold_of (ms ++ ns) ≡ joined_fold (fold_of ms) (fold_of ns)
fold_of-append ms ns =
    let a = length-append ms ns in
    let b = sum-append ms ns in
    let c = least-append ms ns in
    let d = greatest-append ms ns in
    λ i. record { seen = a i; sum = b i; min = c i; max = d i }

ints_of-append : (name : List ℕ) (xs ys : List Row) → ints_of name (xs ++ ys) ≡ ints_of name xs ++ ints_of name ys
ints_of-append name xs ys = filter_map-append (λ row. option_and_then as_int (value_of name row)) xs ys

pub agg_ints-append : (agg : Agg) (xs ys : List Row) → agg_ints agg (xs ++ ys) ≡ agg_ints agg xs ++ agg_ints agg ys
agg_ints-append Count xs ys = refl
agg_ints-append (Sum name) xs ys = ints_of-append name xs ys
agg_ints-append (Min name) xs ys = ints_of-append name xs ys
agg_ints-append (Max name) xs ys = ints_of-append name xs ys
agg_ints-append (Avg name) xs ys = ints_of-append name xs ys

folds-append : (aggs : List Agg) (xs ys : List Row)
    → map (λ agg. fold_of (agg_ints agg (xs ++ ys))) aggs ≡ joined_folds (map (λ agg. fold_of (agg_ints agg xs)) aggs) (map (λ agg. fold_of (agg_ints agg ys)) aggs)
folds-append [] xs ys = refl
folds-append (agg ∷ aggs) xs ys =
    let first = ap fold_of (agg_ints-append agg xs ys) ∙ fold_of-append (agg_ints agg xs) (agg_ints agg ys) in
    let rest = folds-append aggs xs ys in
    λ i. first i ∷ rest i

pub group_of-append : (q : Query) (ks : List Key) (xs ys : List Row) → group_of q ks (xs ++ ys) ≡ joined_group (group_of q ks xs) (group_of q ks ys)
group_of-append q ks xs ys =
    let a = length-append xs ys in
    let b = folds-append q.aggs xs ys in
    λ i. record { keys = ks; count = a i; folds = b i }

either_assoc : (f : ℤ → ℤ → ℤ) → ((a b c : ℤ) → f (f a b) c ≡ f a (f b c)) → (a b c : Option ℤ) → either f (either f a b) c ≡ either f a (either f b c)
either_assoc f assoc None b c = refl
either_assoc f assoc (Some a) None c = refl
either_assoc f assoc (Some a) (Some b) None = refl
either_assoc f assoc (Some a) (Some b) (Some c) = ap (λ z. Some z) (assoc a b c)

fold_assoc : (a b c : Fold) → joined_fold (joined_fold a b) c ≡ joined_fold a (joined_fold b c)
fold_assoc a b c =
    let p : (a.seen + b.seen) + c.seen ≡ a.seen + (b.seen + c.seen) = omega arith in
    let r = add_assoc a.sum b.sum c.sum in
    let s = either_assoc int_min min_assoc a.min b.min c.min in
    let t = either_assoc int_max max_assoc a.max b.max c.max in
    λ i. record { seen = p i; sum = r i; min = s i; max = t i }

folds_assoc : (as_ bs cs : List Fold) → joined_folds (joined_folds as_ bs) cs ≡ joined_folds as_ (joined_folds bs cs)
folds_assoc [] bs cs = refl
folds_assoc (a ∷ as_) [] cs = refl
folds_assoc (a ∷ as_) (b ∷ bs) [] = refl
folds_assoc (a ∷ as_) (b ∷ bs) (c ∷ cs) = λ i. fold_assoc a b c i ∷ folds_assoc as_ bs cs i

pub group_assoc : (a b c : Group) → joined_group (joined_group a b) c ≡ joined_group a (joined_group b c)
group_assoc a b c =
    let p : (a.count + b.count) + c.count ≡ a.count + (b.count + c.count) = omega arith in
    let r = folds_assoc a.folds b.folds c.folds in
    λ i. record { keys = a.keys; count = p i; folds = r i }

either_comm : (f : ℤ → ℤ → ℤ) → ((a b : ℤ) → f a b ≡ f b a) → (a b : Option ℤ) → either f a b ≡ either f b a
either_comm f comm None None = refl
either_comm f comm None (Some b) = refl
either_comm f comm (Some a) None = refl
either_comm f comm (Some a) (Some b) = ap (λ z. Some z) (comm a b)

fold_comm : (a b : Fold) → joined_fold a b ≡ joined_fold b a
fold_comm a b =
    let p : a.seen + b.seen ≡ b.seen + a.seen = omega arith in
    let r : a.sum +ℤ b.sum ≡ b.sum +ℤ a.sum = omega (arith, ints) in
    let s = either_comm int_min min_comm a.min b.min in
    let t = either_comm int_max max_comm a.max b.max in
    λ i. record { seen = p i; sum = r i; min = s i; max = t i }

folds_comm : (as_ bs : List Fold) → joined_folds as_ bs ≡ joined_folds bs as_
folds_comm [] [] = refl
folds_comm [] (b ∷ bs) = refl
folds_comm (a ∷ as_) [] = refl
folds_comm (a ∷ as_) (b ∷ bs) = λ i. fold_comm a b i ∷ folds_comm as_ bs i

pub group_comm : (a b : Group) → a.keys ≡ b.keys → joined_group a b ≡ joined_group b a
group_comm a b h =
    let p : a.count + b.count ≡ b.count + a.count = omega arith in
    let r = folds_comm a.folds b.folds in
    λ i. record { keys = h i; count = p i; folds = r i }
