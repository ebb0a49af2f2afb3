-- Where lists end: a group's keys or a row's, folds cut to the others' number, a list in three parts, and the first of
-- what is left of one.
use Rattle.std.proofs.Common.{◌≡◌, ℕ, suc, ◌+◌, ◌≤◌, ◌<◌, List, [], ◌∷◌, ◌++◌, length, drop, take, get_or, map, Option, Some, None, IsSome, refl, ap, ◌∙◌, arith}
use Rattle.std.specs.Ordering.{nat_cmp}
use Rattle.std.specs.declared.cmp.Ordering.TheVariants.{Less, Greater}
use Rattle.std.proofs.lemmas.Bool.Decides.{nat_tests}
use Rattle.std.proofs.lemmas.List.{append_assoc, drop_more, length-append, length-drop, take-append-drop}
use Rattle.leaf_model.specs.declared.groups.Key.{Key}
use Rattle.leaf_model.specs.declared.groups.Fold.{Fold}
use Rattle.leaf_model.specs.declared.lent_rows.LentRow.{LentRow}
use Rattle.leaf_model.specs.declared.lent_rows.LentRows.{LentRows}
use Rattle.row_model.specs.declared.rows.Row.{Row}
use Rattle.leaf_model.specs.Groups.{keys_cmp}
use Rattle.leaf_model.specs.Lent.{rows_parted}
use Rattle.leaf_model.specs.declared.lent_cells.LentValue.{LentValue}
use Rattle.group_table.specs.Reads.{seen_key}
use Rattle.group_table.specs.Joined.{joined_fold, joined_folds}

zero_first : (n : ℕ) → Less ≡ nat_cmp 0 (suc n)
zero_first n = grind (arith, nat_tests)

zero_last : (n : ℕ) → Greater ≡ nat_cmp (suc n) 0
zero_last n = grind (arith, nat_tests)

one_less : (m n : ℕ) → nat_cmp m n ≡ nat_cmp (suc m) (suc n)
one_less m n = grind (arith, nat_tests)

pub cut_folds : (fs hs : List Fold) → joined_folds (take (length hs) fs) hs ≡ joined_folds fs hs
cut_folds [] [] = refl
cut_folds [] (h ∷ hs) = refl
cut_folds (f ∷ fs) [] = refl
cut_folds (f ∷ fs) (h ∷ hs) = ap (λ rest. joined_fold f h ∷ rest) (cut_folds fs hs)

-- the same, where the keys on the right are still a row's
pub left_ends_with : (a : List Key) (b : List (Option LentValue)) → length a ≤ length b → keys_cmp (drop (length a) a) (map seen_key (drop (length a) b)) ≡ nat_cmp (length a) (length b)
left_ends_with [] [] h = refl
left_ends_with [] (y ∷ b) h = zero_first (length b)
left_ends_with (x ∷ a) [] h = absurd (omega arith)
left_ends_with (x ∷ a) (y ∷ b) h = left_ends_with a b (omega arith) ∙ one_less (length a) (length b)

pub right_ends_with : (a : List Key) (b : List (Option LentValue)) → length b ≤ length a → keys_cmp (drop (length b) a) (map seen_key (drop (length b) b)) ≡ nat_cmp (length a) (length b)
right_ends_with [] [] h = refl
right_ends_with (x ∷ a) [] h = zero_last (length a)
right_ends_with [] (y ∷ b) h = absurd (omega arith)
right_ends_with (x ∷ a) (y ∷ b) h = right_ends_with a b (omega arith) ∙ one_less (length a) (length b)

-- a list is its first part, and the two parts of what is left
pub three_parts : {X : Type 0} (r k : ℕ) (xs : List X) → (take r xs ++ take k (drop r xs)) ++ drop k (drop r xs) ≡ xs
three_parts r k xs = append_assoc (take r xs) (take k (drop r xs)) (drop k (drop r xs)) ∙ ap (λ ys. take r xs ++ ys) (take-append-drop k (drop r xs)) ∙ take-append-drop r xs

pub three_lengths : {X : Type 0} (r : ℕ) (xs left front back : List X) → r ≤ length xs → left ≡ drop r xs → (k : ℕ) → front ≡ take k left → back ≡ drop k left
    → r + length front + length back ≡ length xs
three_lengths r xs left front back h is k f b =
    let whole = ap length (take-append-drop k left) in
    let both = length-append (take k left) (drop k left) in
    let dropped = length-drop r xs in
    rw (f, b) (omega (arith, h, whole, both, dropped, ap length is))

-- where rows are left, there is a first of them
pub some_left : (xs : List Row) (i : ℕ) (found : Option (LentRow × LentRows)) → rows_parted found ≡ drop i xs → i < length xs → IsSome found
some_left xs i None h lt = let long = length-drop i xs in absurd (omega (arith, ap length h, long))
some_left xs i (Some parts) h lt = refl

left_inside : {X : Type 0} (xs : List X) (i : ℕ) (x : X) (rest : List X) → drop i xs ≡ x ∷ rest → i < length xs
left_inside xs i x rest h = let long = length-drop i xs in omega (arith, ap length h, long)

pub first_left : {X : Type 0} (xs : List X) (i : ℕ) (x : X) (rest : List X) → drop i xs ≡ x ∷ rest → get_or xs i x ≡ x
first_left xs i x rest h = let more = drop_more xs i x (left_inside xs i x rest h) in cc

pub rest_left : {X : Type 0} (xs : List X) (i : ℕ) (x : X) (rest : List X) → drop i xs ≡ x ∷ rest → rest ≡ drop (i + 1) xs
rest_left xs i x rest h = let more = drop_more xs i x (left_inside xs i x rest h) in cc

-- both parts of what is left are shorter, where some were taken
pub parts_shorter : {X : Type 0} (r : ℕ) (xs left front back : List X) → r < length xs → (0 < length xs → 0 < r) → left ≡ drop r xs → (k : ℕ) → front ≡ take k left → back ≡ drop k left
    → (length front < length xs) × (length back < length xs)
parts_shorter r xs left front back lt some is k f b =
    let all = three_lengths r xs left front back (omega (arith, lt)) is k f b in
    let taken : 0 < r = some (omega (arith, lt)) in
    (omega (arith, all, taken), omega (arith, all, taken))
