-- The place of a name.
use Rattle.std.proofs.Common.{◌≡◌, ℕ, zero, suc, ◌+◌, ◌<◌, ◌≤◌, Bool, true, false, cond, not, ltb, List, [], ◌∷◌, length, position, Option, Some, None, unwrap_or, refl, sym, ap, ◌∙◌, arith, ltb-false}
use Rattle.std.specs.Prelude.{slice_index_or}
use Rattle.std.specs.List.{position_or_len}
use Rattle.std.proofs.lemmas.Slice.Eq.{bytes_eq-Decides}
use Rattle.std.specs.Str.{bytes_eq}
use Rattle.transcript.specs.Pieces.{place_among}

place_is : (name : List ℕ) (names : List (List ℕ)) → place_among name names ≡ position_or_len (bytes_eq name) names
place_is name [] = refl
place_is name (n ∷ ns) = step (bytes_eq name n) (place_among name ns) (position_or_len (bytes_eq name) ns) (place_is name ns)
  where
    step : (b : Bool) (x y : ℕ) → x ≡ y → cond b 0 (suc x) ≡ cond (not b) (1 + y) 0
    step true x y e = refl
    step false x y e = omega (arith, e)

some_by : (short : Bool) (n i : ℕ) → cond short (Some n) None ≡ Some i → i ≡ n
some_by true n i e = ap (λ (o : Option ℕ). unwrap_or o 0) (sym e)
some_by false n i e = absurd cc

none_by : (short : Bool) (n : ℕ) → cond short (Some n) None ≡ None → short ≡ false
none_by true n e = absurd cc
none_by false n e = refl

at_most : (b : Bool) (n count : ℕ) → n ≤ count → cond b 0 (suc n) ≤ suc count
at_most true n count le = omega arith
at_most false n count le = omega (arith, le)

pub place_within : (name : List ℕ) (names : List (List ℕ)) → place_among name names ≤ length names
place_within name [] = omega arith
place_within name (n ∷ ns) = at_most (bytes_eq name n) (place_among name ns) (length ns) (place_within name ns)

pub found_place : (name : List ℕ) (names : List (List ℕ)) (i : ℕ) → position (bytes_eq name) names ≡ Some i → i ≡ place_among name names
found_place name names i e =
    some_by (ltb (position_or_len (bytes_eq name) names) (length names)) (position_or_len (bytes_eq name) names) i e ∙ sym (place_is name names)

pub no_place : (name : List ℕ) (names : List (List ℕ)) → position (bytes_eq name) names ≡ None → length names ≡ place_among name names
no_place name names e =
    let past = ltb-false (position_or_len (bytes_eq name) names) (length names) (none_by (ltb (position_or_len (bytes_eq name) names) (length names)) (position_or_len (bytes_eq name) names) e) in
    omega (arith, past, place_is name names, place_within name names)

-- a name among the tables has a place
pub known_place : (name : List ℕ) (names : List (List ℕ)) (k : ℕ) → k < length names → slice_index_or names k name ≡ name → place_among name names < length names
known_place name [] k h e = absurd (omega (arith, h))
known_place name (n ∷ ns) zero h e = here (bytes_eq name n) (place_among name ns) (length ns) ((bytes_eq-Decides name n).1 (sym e))
  where
    here : (b : Bool) (n count : ℕ) → b ≡ true → cond b 0 (suc n) < suc count
    here true n count e = omega arith
    here false n count e = absurd cc
known_place name (n ∷ ns) (suc k) h e = below (bytes_eq name n) (place_among name ns) (length ns) (known_place name ns k (omega (arith, h)) e)
  where
    below : (b : Bool) (n count : ℕ) → n < count → cond b 0 (suc n) < suc count
    below true n count le = omega arith
    below false n count le = omega (arith, le)
