-- The order of keys and of lists of keys is total, and keys that compare alike are one.
use Rattle.std.proofs.Common.{◌≡◌, ℕ, List, [], ◌∷◌, ℤ, pos, refl, ap, ap₂, subst}
use Rattle.std.specs.Cmp.{IsTotalOrder}
use Rattle.std.specs.Ordering.{nat_cmp, int_cmp, ordering_then}
use Rattle.std.specs.Cmp.Lexicographic.{slice_cmp}
use Rattle.std.specs.declared.cmp.Ordering.{Ordering}
use Rattle.std.specs.declared.cmp.Ordering.TheVariants.{Less, Equal, Greater}
use Rattle.std.proofs.lemmas.Cmp.{nat_cmp_total, int_cmp_total, nat_list_cmp_total, on_total, then_total, lists_total}
use Rattle.std.proofs.lemmas.Map.Lookups.{CmpEqualImpliesEq, exact_signed, exact_bytes}
use Rattle.leaf_model.specs.declared.groups.Key.{Key}
use Rattle.leaf_model.specs.declared.groups.Key.TheVariants as key
use Rattle.leaf_model.specs.Groups.{key_cmp, keys_cmp}
use Rattle.row_model.specs.Texts.{text_cmp, texts_cmp}

-- a key as its kind, its integer, its text and its set
abbrev kind_of : Key → ℕ
kind_of key.Missing = 0
kind_of (key.Int n) = 1
kind_of (key.Text t) = 2
kind_of (key.Set ts) = 3

abbrev number_of : Key → ℤ
number_of key.Missing = pos 0
number_of (key.Int n) = n
number_of (key.Text t) = pos 0
number_of (key.Set ts) = pos 0

abbrev text_of : Key → List ℕ
text_of key.Missing = []
text_of (key.Int n) = []
text_of (key.Text t) = t
text_of (key.Set ts) = []

abbrev set_of : Key → List (List ℕ)
set_of key.Missing = []
set_of (key.Int n) = []
set_of (key.Text t) = []
set_of (key.Set ts) = ts

abbrev by_parts : Key → Key → Ordering
by_parts a b = ordering_then (nat_cmp (kind_of a) (kind_of b)) (ordering_then (int_cmp (number_of a) (number_of b)) (ordering_then (text_cmp (text_of a) (text_of b)) (texts_cmp (set_of a) (set_of b))))

by_parts_total : IsTotalOrder by_parts
by_parts_total = then_total (on_total kind_of nat_cmp_total) (then_total (on_total number_of int_cmp_total) (then_total (on_total text_of nat_list_cmp_total) (on_total set_of (lists_total nat_list_cmp_total))))

then_equal : (o : Ordering) → ordering_then o Equal ≡ o
then_equal Less = refl
then_equal Equal = refl
then_equal Greater = refl

same_cmp : (a b : Key) → by_parts a b ≡ key_cmp a b
same_cmp key.Missing key.Missing = refl
same_cmp key.Missing (key.Int b) = refl
same_cmp key.Missing (key.Text b) = refl
same_cmp key.Missing (key.Set b) = refl
same_cmp (key.Int a) key.Missing = refl
same_cmp (key.Int a) (key.Int b) = then_equal (int_cmp a b)
same_cmp (key.Int a) (key.Text b) = refl
same_cmp (key.Int a) (key.Set b) = refl
same_cmp (key.Text a) key.Missing = refl
same_cmp (key.Text a) (key.Int b) = refl
same_cmp (key.Text a) (key.Text b) = then_equal (text_cmp a b)
same_cmp (key.Text a) (key.Set b) = refl
same_cmp (key.Set a) key.Missing = refl
same_cmp (key.Set a) (key.Int b) = refl
same_cmp (key.Set a) (key.Text b) = refl
same_cmp (key.Set a) (key.Set b) = refl

pub key_cmp_total : IsTotalOrder key_cmp
key_cmp_total = subst IsTotalOrder (λ i a b. same_cmp a b i) by_parts_total

pub keys_cmp_total : IsTotalOrder keys_cmp
keys_cmp_total = lists_total key_cmp_total

then_first : (o p : Ordering) → ordering_then o p ≡ Equal → o ≡ Equal
then_first Less p h = h
then_first Equal p h = refl
then_first Greater p h = h

then_second : (o p : Ordering) → ordering_then o p ≡ Equal → p ≡ Equal
then_second Less p h = cc
then_second Equal p h = h
then_second Greater p h = cc

-- what is said of two things is said of two lists of them
exact_lists : {X : Type 0} (c : X → X → Ordering) → CmpEqualImpliesEq c → CmpEqualImpliesEq (slice_cmp c)
exact_lists c exact [] [] h = refl
exact_lists c exact [] (b ∷ bs) h = cc
exact_lists c exact (a ∷ as_) [] h = cc
exact_lists c exact (a ∷ as_) (b ∷ bs) h =
    let first = exact a b (then_first (c a b) (slice_cmp c as_ bs) h) in
    let rest = exact_lists c exact as_ bs (then_second (c a b) (slice_cmp c as_ bs) h) in
    ap₂ (λ x xs. x ∷ xs) first rest

pub exact_key : CmpEqualImpliesEq key_cmp
exact_key key.Missing key.Missing h = refl
exact_key key.Missing (key.Int b) h = cc
exact_key key.Missing (key.Text b) h = cc
exact_key key.Missing (key.Set b) h = cc
exact_key (key.Int a) key.Missing h = cc
exact_key (key.Int a) (key.Int b) h = ap key.Int (exact_signed a b h)
exact_key (key.Int a) (key.Text b) h = cc
exact_key (key.Int a) (key.Set b) h = cc
exact_key (key.Text a) key.Missing h = cc
exact_key (key.Text a) (key.Int b) h = cc
exact_key (key.Text a) (key.Text b) h = ap key.Text (exact_bytes a b h)
exact_key (key.Text a) (key.Set b) h = cc
exact_key (key.Set a) key.Missing h = cc
exact_key (key.Set a) (key.Int b) h = cc
exact_key (key.Set a) (key.Text b) h = cc
exact_key (key.Set a) (key.Set b) h = ap key.Set (exact_lists text_cmp exact_bytes a b h)

pub exact_keys : CmpEqualImpliesEq keys_cmp
exact_keys = exact_lists key_cmp exact_key
