-- Rows whose times never fall.
use Rattle.std.proofs.Common.{◌≡◌, Bool, true, false, cond, ℕ, zero, suc, ◌+◌, ◌-◌, ◌≤◌, List, [], ◌∷◌, ◌++◌, length, take, drop, Option, Some, None, ℤ, int_le, int_lt, refl, sym, ap, subst, ◌∙◌, drop-drop, arith}
use Rattle.std.specs.Prelude.{IfSome}
use Rattle.std.proofs.lemmas.Bool.{true_from_ne_false}
use Rattle.std.proofs.lemmas.Int.{ints}
use Rattle.row_model.specs.declared.rows.Row.{Row}
use Rattle.leaf_model.specs.Content.{rows_from}
use Rattle.table_state.specs.Stored.{AreAscending, AreFrom, AreNoted, AscendOn}
use Rattle.table_state.proofs.Keeping.{each-append, each-take, each-drop}
use Rattle.table_state.proofs.Least.{below, lower, all_stay, left_from, from_joined}

same : (t : ℤ) → int_le t t ≡ true
same t = true_from_ne_false (int_le t t) (λ no. omega (arith, ints, no))

-- a lower time to begin from is as good
from_lower : (s t to : ℤ) (rows : List Row) → int_le s t ≡ true → AreAscending t rows to → AreAscending s rows to
from_lower s t to [] low up = below s t to low up
from_lower s t to (row ∷ rows) low up = (below s t row.time low up.0, up.1)

-- none of them is below where they begin
ascend_from : (from to : ℤ) (rows : List Row) → AreAscending from rows to → AreFrom from rows
ascend_from from to [] up = tt
ascend_from from to (row ∷ rows) up = (up.0, lower from row.time up.0 rows (ascend_from row.time to rows up.1))

ascend_joined : (from to more : ℤ) (rows others : List Row) → AreAscending from rows to → AreAscending to others more → AreAscending from (rows ++ others) more
ascend_joined from to more [] others up on = from_lower from to more others up on
ascend_joined from to more (row ∷ rows) others up on = (up.0, ascend_joined row.time to more rows others up.1 on)

ascend_drop : (n : ℕ) (from to : ℤ) (rows : List Row) → AreAscending from rows to → AreAscending from (drop n rows) to
ascend_drop zero from to rows up = up
ascend_drop (suc n) from to [] up = up
ascend_drop (suc n) from to (row ∷ rows) up = ascend_drop n from to rows (from_lower from row.time to rows up.0 up.1)

ends : (from to : ℤ) (rows : List Row) → AreAscending from rows to → int_le from to ≡ true
ends from to [] up = up
ends from to (row ∷ rows) up = below from row.time to up.0 (ends row.time to rows up.1)

ascend_take : (n : ℕ) (from to : ℤ) (rows : List Row) → AreAscending from rows to → AreAscending from (take n rows) to
ascend_take zero from to rows up = ends from to rows up
ascend_take (suc n) from to [] up = up
ascend_take (suc n) from to (row ∷ rows) up = (up.0, ascend_take n row.time to rows up.1)

-- ---- what is noted of rows

pub noted_drop : (n : ℕ) (least : ℤ) (last : Option ℤ) (rows : List Row) → AreNoted least last rows → AreNoted least last (drop n rows)
noted_drop n least None rows noted = record { from = each-drop (λ (row : Row). int_le least row.time ≡ true) n rows noted.from; order = tt }
noted_drop n least (Some to) rows noted = record { from = each-drop (λ (row : Row). int_le least row.time ≡ true) n rows noted.from; order = ascend_drop n least to rows noted.order }

pub noted_take : (n : ℕ) (least : ℤ) (last : Option ℤ) (rows : List Row) → AreNoted least last rows → AreNoted least last (take n rows)
noted_take n least None rows noted = record { from = each-take (λ (row : Row). int_le least row.time ≡ true) n rows noted.from; order = tt }
noted_take n least (Some to) rows noted = record { from = each-take (λ (row : Row). int_le least row.time ≡ true) n rows noted.from; order = ascend_take n least to rows noted.order }

-- where the order is not known
pub noted_none : (least : ℤ) (rows : List Row) → AreFrom least rows → AreNoted least None rows
noted_none least rows from = record { from = from; order = tt }

-- others behind them
pub noted_joined : (s least : ℤ) (last now : Option ℤ) (rows more : List Row) → int_le s least ≡ true → AreNoted least last rows → AreFrom s more → AscendOn last more now → AreNoted s now (rows ++ more)
noted_joined s least last None rows more low noted all on = record { from = from_joined s least rows more (rows ++ more) low noted.from all refl; order = tt }
noted_joined s least None (Some to) rows more low noted all on = absurd on
noted_joined s least (Some mid) (Some to) rows more low noted all on = record {
  from = from_joined s least rows more (rows ++ more) low noted.from all refl;
  order = from_lower s least to (rows ++ more) low (ascend_joined least mid to rows more noted.order on);
}

-- a walk from the least time on passes over none
pub noted_found : (least : ℤ) (last : Option ℤ) (rows : List Row) → AreFrom least rows → IfSome last (λ to. AreAscending least (rows_from least rows) to) → AreNoted least last rows
noted_found least None rows from up = record { from = from; order = tt }
noted_found least (Some to) rows from up = record { from = from; order = subst (λ (l : List Row). AreAscending least l to) (all_stay least least rows (same least) from) up }

-- ---- a walk over rows that ascend

-- the rows that are left ascend, if those behind them do
abbrev pub Passed : ℤ → ℤ → List Row → ℤ → List Row → Type 0
Passed from horizon rows last left = (to : ℤ) → AreAscending last (rows_from horizon left) to → AreAscending from (rows_from horizon rows) to

pub all_passed : (from horizon : ℤ) (rows : List Row) (last : ℤ) → Passed from horizon rows last [] → AreAscending from (rows_from horizon rows) last
all_passed from horizon rows last passed = passed last (same last)

-- ---- the rows below a horizon

-- of rows that ascend, all behind the first that stays do
pub rest_stays : (horizon from to : ℤ) (row : Row) (rows : List Row) → int_le horizon row.time ≡ true → AreAscending from (row ∷ rows) to → rows_from horizon (row ∷ rows) ≡ row ∷ rows
rest_stays horizon from to row rows stays up = all_stay horizon row.time (row ∷ rows) stays (same row.time, ascend_from row.time to rows up.1)

-- at the first that stays, those that are left are what the horizon leaves
pub first_stays : (horizon from to : ℤ) (row : Row) (rows left others : List Row) (passed : ℕ) → AreAscending from rows to → left ≡ drop passed rows → row ∷ others ≡ left → rows_from horizon left ≡ rows_from horizon rows → int_le horizon row.time ≡ true
    → drop passed rows ≡ rows_from horizon rows
first_stays horizon from to row rows left others passed up behind parts same_rows stays =
    let here : row ∷ others ≡ drop passed rows = parts ∙ behind in
    let rest = rest_stays horizon from to row others stays (subst (λ (l : List Row). AreAscending from l to) (sym here) (ascend_drop passed from to rows up)) in
    sym here ∙ sym rest ∙ ap (rows_from horizon) parts ∙ same_rows

-- one that does not is passed over
pub one_goes : (horizon : ℤ) (row : Row) (others : List Row) → int_le horizon row.time ≡ false → rows_from horizon others ≡ rows_from horizon (row ∷ others)
one_goes horizon row others gone = sym (ap (λ (b : Bool). cond b (row ∷ rows_from horizon others) (rows_from horizon others)) gone)

pub one_behind : (row : Row) (rows left others : List Row) (passed : ℕ) → left ≡ drop passed rows → row ∷ others ≡ left → others ≡ drop (passed + 1) rows
one_behind row rows left others passed behind parts = ap (drop 1) (parts ∙ behind) ∙ drop-drop 1 passed rows
