-- The place of a name among the names.
use Rattle.std.proofs.Common.{◌≡◌, ◌<◌, ◌+◌, ℕ, suc, List, [], ◌∷◌, length, refl, ap, sym, ◌∙◌, arith, Some, None, Bool, true, false, cond, not, subst, true≢false}
use Rattle.std.proofs.lemmas.Slice.Eq.{bytes_eq-Decides}
use Rattle.std.specs.List.{list_any, position_from, Contains}
use Rattle.std.specs.Option.{is_some}
use Rattle.std.specs.Str.{bytes_eq}
use Rattle.row_model.specs.Names.{is_among}
use Rattle.script_text.specs.Words.{place_of}
use Rattle.std.specs.Prelude.{slice_index_or}

some_by : {X : Type 0} (test : X → Bool) (i : ℕ) (x : X) (xs : List X) (is : Bool) → test x ≡ is → is_some (position_from test (i + 1) xs) ≡ list_any test xs → is_some (position_from test i (x ∷ xs)) ≡ list_any test (x ∷ xs)
some_by test i x xs true is later = rw is
some_by test i x xs false is later = rw is later

some_place : {X : Type 0} (test : X → Bool) (i : ℕ) (xs : List X) → is_some (position_from test i xs) ≡ list_any test xs
some_place test i [] = refl
some_place test i (x ∷ xs) = some_by test i x xs (test x) refl (some_place test (i + 1) xs)

turned : (among new : Bool) → among ≡ not new → new ≡ not among
turned among true is = rw is
turned among false is = rw is

-- a name without a place is new
pub new_name : (names : List (List ℕ)) (name : List ℕ) (new : Bool) → is_some (place_of names name) ≡ not new → new ≡ not (is_among names name)
new_name names name new is = turned (is_among names name) new (sym (some_place (λ other. bytes_eq other name) 0 names) ∙ is)

-- what is found
pub record IsPlace (names : List (List ℕ)) (name : List ℕ) (i place : ℕ) : Type 0 where
  pub k : ℕ
  pub at : place ≡ i + k
  pub below : k < length names
  pub is : slice_index_or names k name ≡ name

unsome : {X : Type 0} (d x y : X) → Some x ≡ Some y → x ≡ y
unsome d x y h = ap (λ o. elim o [ None ↦ d | Some z ↦ z ]) h

place_by : (x : List ℕ) (xs : List (List ℕ)) (name : List ℕ) (i place : ℕ) (is : Bool) → bytes_eq x name ≡ is → (position_from (λ other. bytes_eq other name) (i + 1) xs ≡ Some place → IsPlace xs name (i + 1) place) → position_from (λ other. bytes_eq other name) i (x ∷ xs) ≡ Some place → IsPlace (x ∷ xs) name i place
place_by x xs name i place true is later found =
    let here : Some i ≡ Some place = subst (λ b. cond b (Some i) (position_from (λ other. bytes_eq other name) (i + 1) xs) ≡ Some place) is found in
    record { k = 0; at = omega (arith, unsome 0 i place here); below = omega arith; is = (bytes_eq-Decides x name).0 is }
place_by x xs name i place false is later found =
    let there : position_from (λ other. bytes_eq other name) (i + 1) xs ≡ Some place = subst (λ b. cond b (Some i) (position_from (λ other. bytes_eq other name) (i + 1) xs) ≡ Some place) is found in
    let p = later there in
    record { k = suc p.k; at = omega (arith, p.at); below = omega (arith, p.below); is = p.is }

place_from : (names : List (List ℕ)) (name : List ℕ) (i place : ℕ) → position_from (λ other. bytes_eq other name) i names ≡ Some place → IsPlace names name i place
place_from [] name i place found = absurd (true≢false (sym (ap is_some found)))
place_from (x ∷ xs) name i place found = place_by x xs name i place (bytes_eq x name) refl (place_from xs name (i + 1) place) found

pub place_below : (names : List (List ℕ)) (name : List ℕ) (place : ℕ) → place_of names name ≡ Some place → place < length names
place_below names name place found = let p = place_from names name 0 place found in omega (arith, p.at, p.below)

pub place_contains : (names : List (List ℕ)) (name : List ℕ) (place : ℕ) → place_of names name ≡ Some place → Contains names name
place_contains names name place found = let p = place_from names name 0 place found in (p.k, p.below, p.is)
