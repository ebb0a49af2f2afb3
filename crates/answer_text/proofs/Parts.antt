-- Parts joined, the end of two lists side by side, and the front of a list that is mapped.
use Rattle.std.proofs.Common.{◌≡◌, ◌≤◌, List, ℕ, zero, suc, min, [], ◌∷◌, ◌++◌, length, drop, take, map, refl, ap, arith}
use Rattle.std.specs.List.{flat_map, join_by, zip}

flat_map_map : {X : Type 0} (f : X → List ℕ) (s : List ℕ) (xs : List X) → flat_map (λ y. s ++ f y) xs ≡ flat_map (λ part. s ++ part) (map f xs)
flat_map_map f s [] = refl
flat_map_map f s (x ∷ xs) = ap (λ rest. (s ++ f x) ++ rest) (flat_map_map f s xs)

pub join_map : {X : Type 0} (f : X → List ℕ) (s : List ℕ) (xs : List X) → join_by f s xs ≡ join_by (λ part. part) s (map f xs)
join_map f s [] = refl
join_map f s (x ∷ xs) = ap (λ rest. f x ++ rest) (flat_map_map f s xs)

zip-nil : {K X : Type 0} (ks : List K) → zip {K = K} {X = X} ks [] ≡ []
zip-nil [] = refl
zip-nil (k ∷ ks) = refl

pub zip_ended : {K X : Type 0} (n : ℕ) (ks : List K) (xs : List X) → min (length ks) (length xs) ≤ n → zip (drop n ks) (drop n xs) ≡ []
zip_ended zero [] xs h = refl
zip_ended (suc n) [] xs h = refl
zip_ended zero (k ∷ ks) [] h = refl
zip_ended (suc n) (k ∷ ks) [] h = zip-nil (drop n ks)
zip_ended zero (k ∷ ks) (x ∷ xs) h = absurd (omega arith)
zip_ended (suc n) (k ∷ ks) (x ∷ xs) h = zip_ended n ks xs (omega arith)

pub map_front : {X Y Z : Type 0} (f : X → Y) (g : Y → Z) (n : ℕ) (xs : List X) → map (λ x. g (f x)) (take n xs) ≡ map g (take n (map f xs))
map_front f g zero xs = refl
map_front f g (suc n) [] = refl
map_front f g (suc n) (x ∷ xs) = ap (λ rest. g (f x) ∷ rest) (map_front f g n xs)
