-- The place of a name among names.
use Rattle.std.proofs.Common.{◌≡◌, ℕ, suc, ◌+◌, ◌<◌, ◌≤◌, Bool, true, false, cond, not, ltb, List, [], ◌∷◌, length, get_or, position, Option, Some, None, unwrap_or, refl, sym, ap, ◌∙◌, subst, arith, ltb-true, ltb-false}
use Rattle.std.specs.Prelude.{◌≢◌, ◌||◌}
use Rattle.std.specs.List.{list_any, position_or_len}
use Rattle.std.specs.Str.{bytes_eq}
use Rattle.std.proofs.lemmas.Slice.Eq.{bytes_eq-Decides}

some_by : (short : Bool) (n i : ℕ) → cond short (Some n) None ≡ Some i → (short ≡ true) × (i ≡ n)
some_by true n i e = (refl, ap (λ (o : Option ℕ). unwrap_or o 0) (sym e))
some_by false n i e = absurd cc

none_by : (short : Bool) (n : ℕ) → cond short (Some n) None ≡ None → short ≡ false
none_by true n e = absurd cc
none_by false n e = refl

module _ (name : List ℕ) where
  abbrev place : List (List ℕ) → ℕ
  place names = position_or_len (bytes_eq name) names

  found_at : (names : List (List ℕ)) → place names < length names → get_or names (place names) [] ≡ name
  found_at [] h = absurd (omega (arith, h))
  found_at (n ∷ ns) h = step (found_at ns) (bytes_eq name n) refl h
    where
      step : (place ns < length ns → get_or ns (place ns) [] ≡ name) → (b : Bool) → bytes_eq name n ≡ b → cond (not b) (1 + place ns) 0 < suc (length ns) → get_or (n ∷ ns) (cond (not b) (1 + place ns) 0) [] ≡ name
      step next true e h = sym ((bytes_eq-Decides name n).0 e)
      step next false e h = let one : 1 + place ns ≡ suc (place ns) = omega arith in ap (λ (k : ℕ). get_or (n ∷ ns) k []) one ∙ next (omega (arith, h))

  found_any : (names : List (List ℕ)) → place names < length names → list_any (bytes_eq name) names ≡ true
  found_any [] h = absurd (omega (arith, h))
  found_any (n ∷ ns) h = step (found_any ns) (bytes_eq name n) h
    where
      step : (place ns < length ns → list_any (bytes_eq name) ns ≡ true) → (b : Bool) → cond (not b) (1 + place ns) 0 < suc (length ns) → (b || list_any (bytes_eq name) ns) ≡ true
      step next true h = refl
      step next false h = next (omega (arith, h))

  found_none : (names : List (List ℕ)) → length names ≤ place names → list_any (bytes_eq name) names ≡ false
  found_none [] h = refl
  found_none (n ∷ ns) h = step (found_none ns) (bytes_eq name n) h
    where
      step : (length ns ≤ place ns → list_any (bytes_eq name) ns ≡ false) → (b : Bool) → suc (length ns) ≤ cond (not b) (1 + place ns) 0 → (b || list_any (bytes_eq name) ns) ≡ false
      step next true h = absurd (omega (arith, h))
      step next false h = next (omega (arith, h))

  -- a name that is found stands there
  pub record StandsAt (names : List (List ℕ)) (i : ℕ) : Type 0 where
    pub within : i < length names
    pub there : get_or names i [] ≡ name
    pub known : list_any (bytes_eq name) names ≡ true

  pub stands_at : (names : List (List ℕ)) (i : ℕ) → position (bytes_eq name) names ≡ Some i → StandsAt names i
  stands_at names i e =
      let at = some_by (ltb (place names) (length names)) (place names) i e in
      let short : place names < length names = ltb-true (place names) (length names) at.0 in
      record {
        within = subst (λ (k : ℕ). k < length names) (sym at.1) short;
        there = ap (λ (k : ℕ). get_or names k []) at.1 ∙ found_at names short;
        known = found_any names short;
      }

  pub stands_nowhere : (names : List (List ℕ)) → position (bytes_eq name) names ≡ None → list_any (bytes_eq name) names ≡ false
  stands_nowhere names e = found_none names (ltb-false (place names) (length names) (none_by (ltb (place names) (length names)) (place names) e))

pub differ : (a b : List ℕ) (same : Bool) → bytes_eq a b ≡ same → a ≢ b → same ≡ false
differ a b true e other = absurd (other ((bytes_eq-Decides a b).0 e))
differ a b false e other = refl
