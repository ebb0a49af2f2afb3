-- Lists of lists, and their elements.
use Rattle.std.specs.Prelude.{◌≡◌, ℕ, ◌<◌, List, [], ◌∷◌, ◌++◌, length, map, set, slice_get, slice_index_or, Option, Vec}
use Rattle.std.specs.declared.alloc.Global.{Global}

-- the items of each vector
abbrev pub lists_in : {A : Type 0} → List (Vec A Global) → List (List A)
lists_in {A} rows = map (λ (v : Vec A Global). v.items) rows

-- list i; empty if there is none
abbrev pub row : {A : Type 0} → List (List A) → ℕ → List A
row rows i = slice_index_or rows i []

-- element j of list i, if there is one
abbrev pub place : {A : Type 0} → List (List A) → ℕ → ℕ → Option A
place rows i j = slice_get (row rows i) j

-- n lists of this length
pub record HasRows {A : Type 0} (n size : ℕ) (rows : List (List A)) : Type 0 where
  pub count : length rows ≡ n
  pub each : (t : ℕ) → t < n → length (row rows t) ≡ size

-- x was appended to list `at`
pub record Puts {A : Type 0} (rows : List (List A)) (at : ℕ) (x : A) (after : List (List A)) : Type 0 where
  pub is : after ≡ set rows at (row rows at ++ x ∷ [])
