-- What a table holds stays what a table may hold.
use Rattle.std.proofs.Common.{cond, ◌≡◌, ℕ, zero, suc, ◌≤◌, Bool, true, false, List, [], ◌∷◌, ◌++◌, length, take, drop, refl, sym, ap, ◌∙◌, arith}
use Rattle.std.specs.Prelude.{ℤ, int_le}
use Rattle.std.specs.List.{AllByRecursion}
use Rattle.row_model.specs.declared.rows.Row.{Row}
use Rattle.row_model.specs.Values.{IsRow}
use Rattle.leaf_model.specs.Content.{rows_from}
use Rattle.table_state.specs.Tables.{IsHeldRow}

module _ (P : Row → Type 0) where
  pub each-append : (xs ys : List Row) → AllByRecursion P xs → AllByRecursion P ys → AllByRecursion P (xs ++ ys)
  each-append [] ys a b = b
  each-append (x ∷ xs) ys a b = (a.0, each-append xs ys a.1 b)

  pub each-take : (n : ℕ) (xs : List Row) → AllByRecursion P xs → AllByRecursion P (take n xs)
  each-take zero xs a = tt
  each-take (suc n) [] a = tt
  each-take (suc n) (x ∷ xs) a = (a.0, each-take n xs a.1)

  pub each-drop : (n : ℕ) (xs : List Row) → AllByRecursion P xs → AllByRecursion P (drop n xs)
  each-drop zero xs a = a
  each-drop (suc n) [] a = tt
  each-drop (suc n) (x ∷ xs) a = each-drop n xs a.1

pub are_rows : (h : ℤ) (xs : List Row) → AllByRecursion (IsHeldRow h) xs → AllByRecursion IsRow xs
are_rows h [] a = tt
are_rows h (x ∷ xs) a = (a.0.0, are_rows h xs a.1)

one_from : (h : ℤ) (x : Row) (rest : List Row) (b : Bool) → int_le h x.time ≡ b → IsRow x → AllByRecursion (IsHeldRow h) rest → AllByRecursion (IsHeldRow h) (cond b (x ∷ rest) rest)
one_from h x rest true is row a = ((row, is), a)
one_from h x rest false is row a = a

-- the rows that are not below a horizon may be held under it
pub each_from : (h : ℤ) (xs : List Row) → AllByRecursion IsRow xs → AllByRecursion (IsHeldRow h) (rows_from h xs)
each_from h [] a = tt
each_from h (x ∷ xs) a = one_from h x (rows_from h xs) (int_le h x.time) refl a.0 (each_from h xs a.1)

one_more : (x : Row) (rest : List Row) (b : Bool) (n : ℕ) → length rest ≤ n → length (cond b (x ∷ rest) rest) ≤ suc n
one_more x rest true n h = omega arith
one_more x rest false n h = omega arith

pub few_from : (h : ℤ) (xs : List Row) → length (rows_from h xs) ≤ length xs
few_from h [] = omega arith
few_from h (x ∷ xs) = one_more x (rows_from h xs) (int_le h x.time) (length xs) (few_from h xs)

one_left : (h : ℤ) (x : Row) (rest xs : List Row) (b : Bool) → int_le h x.time ≡ b → int_le h x.time ≡ true → rest ≡ xs → cond b (x ∷ rest) rest ≡ x ∷ xs
one_left h x rest xs true e is same = ap (λ (l : List Row). x ∷ l) same
one_left h x rest xs false e is same = let no : false ≡ true = sym e ∙ is in absurd cc

-- nothing is below the horizon that may be held under it
pub all_from : (h : ℤ) (xs : List Row) → AllByRecursion (IsHeldRow h) xs → rows_from h xs ≡ xs
all_from h [] a = refl
all_from h (x ∷ xs) a = one_left h x (rows_from h xs) xs (int_le h x.time) refl a.0.1 (all_from h xs a.1)
