-- Rows that are not below a time.
use Rattle.std.proofs.Common.{◌≡◌, Bool, true, false, cond, List, [], ◌∷◌, ◌++◌, ℤ, int_le, refl, sym, ap, subst, ◌∙◌, arith}
use Rattle.std.proofs.lemmas.Bool.{true_from_ne_false}
use Rattle.std.proofs.lemmas.Int.{ints}
use Rattle.row_model.specs.declared.rows.Row.{Row}
use Rattle.leaf_model.specs.Content.{rows_from}
use Rattle.table_state.specs.Stored.{AreFrom}
use Rattle.table_state.proofs.Keeping.{each-append}

pub below : (s t u : ℤ) → int_le s t ≡ true → int_le t u ≡ true → int_le s u ≡ true
below s t u low high = true_from_ne_false (int_le s u) (λ no. omega (arith, ints, low, high, no))

-- a lower time is as good
pub lower : (s t : ℤ) → int_le s t ≡ true → (rows : List Row) → AreFrom t rows → AreFrom s rows
lower s t low [] all = tt
lower s t low (row ∷ rows) all = (below s t row.time low all.0, lower s t low rows all.1)

-- what a horizon leaves is not below it
pub left_from : (h : ℤ) (rows : List Row) → AreFrom h (rows_from h rows)
left_from h [] = tt
left_from h (row ∷ rows) = by (int_le h row.time) refl (left_from h rows)
  where
    by : (b : Bool) → int_le h row.time ≡ b → AreFrom h (rows_from h rows) → AreFrom h (cond b (row ∷ rows_from h rows) (rows_from h rows))
    by true is rest = (is, rest)
    by false is rest = rest

-- and what is not below it stays
stay : (h : ℤ) (rows : List Row) → AreFrom h rows → rows_from h rows ≡ rows
stay h [] all = refl
stay h (row ∷ rows) all =
    ap (λ (b : Bool). cond b (row ∷ rows_from h rows) (rows_from h rows)) all.0 ∙ ap (λ (l : List Row). row ∷ l) (stay h rows all.1)

-- a horizon that is at most a time that no row is below leaves all
pub all_stay : (h t : ℤ) (rows : List Row) → int_le h t ≡ true → AreFrom t rows → rows_from h rows ≡ rows
all_stay h t rows low all = stay h rows (lower h t low rows all)

pub from_joined : (s t : ℤ) (rows more now : List Row) → int_le s t ≡ true → AreFrom t rows → AreFrom s more → now ≡ rows ++ more → AreFrom s now
from_joined s t rows more now low all others is = subst (AreFrom s) (sym is) (each-append (λ (row : Row). int_le s row.time ≡ true) rows more (lower s t low rows all) others)

-- rows that a horizon left, seen once more
pub from_left : (s h : ℤ) (rows now : List Row) → now ≡ rows_from h rows → AreFrom s (rows_from h now) → AreFrom s now
from_left s h rows now is all = subst (AreFrom s) (ap (rows_from h) is ∙ stay h (rows_from h rows) (left_from h rows) ∙ sym is) all

pub from_few : (t h : ℤ) (rows : List Row) → int_le t h ≡ true → AreFrom t (rows_from h rows)
from_few t h rows low = lower t h low (rows_from h rows) (left_from h rows)

-- ---- a walk

-- what is not below a time of those that the walk has still to pass, is not below it of all, up to the least time so
-- far
abbrev pub Passed : ℤ → List Row → ℤ → List Row → Type 0
Passed h rows least left = (t : ℤ) → int_le t least ≡ true → AreFrom t (rows_from h left) → AreFrom t (rows_from h rows)
