-- Where names or keys end, no cell is left.
use Rattle.std.proofs.Common.{◌≡◌, ◌≤◌, ℕ, List, [], ◌∷◌, drop, length, refl, ap}
use Rattle.std.proofs.lemmas.List.{drop_all}
use Rattle.leaf_model.specs.declared.groups.Key.{Key}
use Rattle.standing_query.specs.Spread.{cells_shown}

pub names_end : (names : List (List ℕ)) (keys : List Key) (i : ℕ) → length names ≤ i → cells_shown (drop i names) (drop i keys) ≡ []
names_end names keys i ended = ap (λ (ns : List (List ℕ)). cells_shown ns (drop i keys)) (drop_all i names ended)

no_keys : (names : List (List ℕ)) → cells_shown names [] ≡ []
no_keys [] = refl
no_keys (n ∷ ns) = refl

pub keys_end : (names : List (List ℕ)) (keys : List Key) (i : ℕ) → length keys ≤ i → cells_shown (drop i names) (drop i keys) ≡ []
keys_end names keys i ended = rw (drop_all i keys ended) (no_keys (drop i names))
