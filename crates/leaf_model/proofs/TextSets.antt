-- Sets in records: what tells them, and their texts.
use Rattle.std.proofs.Common.{◌≡◌, ℕ, ◌≤◌, ◌&&◌, Bool, true, false, leb, List, [], ◌∷◌, length, Less, Equal, Greater, nat_cmp, refl, arith}
use Rattle.std.specs.List.{AllByRecursion}
use Rattle.std.specs.List.Sorted.{IsStrictlySortedBy}
use Rattle.std.specs.Str.{IsUtf8}
use Rattle.std.specs.Ordering.{is_lt}
use Rattle.std.specs.declared.cmp.Ordering.{Ordering}
use Rattle.std.specs.Cmp.Lexicographic.{slice_cmp}
use Rattle.std.proofs.lemmas.Bool.{leb-true, le-leb}
use Rattle.std.proofs.lemmas.Cmp.{nat_list_cmp_total}
use Rattle.row_model.specs.Sets.{do_ascend, is_set}
use Rattle.row_model.specs.Values.{IsSet, bytes_in}

short_in : (ts : List (List ℕ)) → bytes_in ts ≤ 65535 → AllByRecursion (λ text. length text ≤ 65535) ts
short_in [] h = tt
short_in (t ∷ ts) h = (omega (arith, h), short_in ts (omega (arith, h)))

-- each text of a set is short
pub each_short : (ts : List (List ℕ)) → IsSet ts → AllByRecursion (λ text. length text ≤ 65535) ts
each_short ts is = short_in ts is.together

-- ---- tests

pub is_less : (o : Ordering) → is_lt o ≡ true → o ≡ Less
is_less Less e = refl
is_less Equal e = absurd cc
is_less Greater e = absurd cc

pub both_true : (a b : Bool) → (a && b) ≡ true → (a ≡ true) × (b ≡ true)
both_true true b e = (refl, e)
both_true false b e = absurd cc

-- what is above a name is above what is below it
pub above : (low name : List ℕ) (others : List (List ℕ)) → slice_cmp nat_cmp low name ≡ Less → AllByRecursion (λ (y : List ℕ). slice_cmp nat_cmp name y ≡ Less) others → AllByRecursion (λ (y : List ℕ). slice_cmp nat_cmp low y ≡ Less) others
above low name [] less all = tt
above low name (y ∷ others) less all = (nat_list_cmp_total.trans low name y less all.0, above low name others less all.1)

ascending : (ts : List (List ℕ)) → do_ascend ts ≡ true → IsStrictlySortedBy (slice_cmp nat_cmp) ts
unfolding IsStrictlySortedBy
ascending [] e = tt
ascending (t ∷ []) e = (tt, tt)
ascending (t ∷ u ∷ us) e =
    let both = both_true (is_lt (slice_cmp nat_cmp t u)) (do_ascend (u ∷ us)) e in
    let less = is_less (slice_cmp nat_cmp t u) both.0 in
    let rest = ascending (u ∷ us) both.1 in
    ((less, above t u us less rest.0), rest)

ascends : (ts : List (List ℕ)) → IsStrictlySortedBy (slice_cmp nat_cmp) ts → do_ascend ts ≡ true
unfolding IsStrictlySortedBy
ascends [] sorted = refl
ascends (t ∷ []) sorted = refl
ascends (t ∷ u ∷ us) sorted = rw (sorted.0.0, ascends (u ∷ us) sorted.1) refl

-- texts that pass the test are a set
pub set_of_test : (ts : List (List ℕ)) → AllByRecursion IsUtf8 ts → is_set ts ≡ true → IsSet ts
set_of_test ts utf8 e =
    let a = both_true (leb (length ts) 1024) (do_ascend ts && leb (bytes_in ts) 65535) e in
    let b = both_true (do_ascend ts) (leb (bytes_in ts) 65535) a.1 in
    record { few = leb-true _ _ a.0; utf8 = utf8; ascending = ascending ts b.0; together = leb-true _ _ b.1 }

-- and a set passes it
pub test_of_set : (ts : List (List ℕ)) → IsSet ts → is_set ts ≡ true
test_of_set ts is = rw (le-leb (length ts) 1024 is.few, ascends ts is.ascending, le-leb (bytes_in ts) 65535 is.together) refl
