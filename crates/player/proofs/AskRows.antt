-- One row of seats was asked.
use Rattle.std.proofs.Common.{◌≡◌, ◌⊎◌, inl, inr, ⊎_elim, ℕ, zero, suc, ◌<◌, List, [], ◌∷◌, length, drop, Result, Vec, Global, refl, ap, subst, ◌∙◌, arith, get_or-set_same}
use Rattle.std.proofs.lemmas.List.{take_at}
use Rattle.std.specs.Prelude.{IsErr, slice_set, slice_index_or}
use Rattle.std.specs.Vec.{with_items}
use Rattle.leaf_model.specs.declared.queries.Query.{Query}
use Rattle.leaf_table.specs.Turns.{Shared}
use Rattle.leaf_table.specs.Calls.{SeatView}
use Rattle.leaf_table.specs.Lists.{lists_in, row}
use Rattle.aggregator.specs.declared.fanned.Fanned.{Fanned}
use Rattle.aggregator.specs.Asks.{AllAsked}
use Rattle.player.specs.Commands.{AsksRow}
use Rattle.player.proofs.AskSteps.{asked_counts}
use Rattle.player.proofs.Columns.{lists_count, lists_set, row_is}

-- the row that stands there, set again
pub row_again : {A : Type 0} (rows : List (List A)) (t : ℕ) → slice_set rows t (row rows t) ≡ rows
row_again [] t = refl
row_again (r ∷ rows) zero = refl
row_again (r ∷ rows) (suc t) = ap (λ rs. r ∷ rs) (row_again rows t)

-- a row was lent, and came back with as many seats
pub row_put : (rows : List (Vec SeatView Global)) (table : ℕ) (v : Vec SeatView Global) (after : List SeatView) → table < length rows → v ≡ slice_index_or rows table v → length after ≡ length v.items
    → lists_in (slice_set rows table (with_items v after)) ≡ slice_set (lists_in rows) table after
row_put rows table v after low read count = lists_set rows table v low read (with_items v after) after (take_at after (drop (length after) v.items) v.len (omega (arith, v.ok.0, count)))

module _ {E : Type 0} (q : Query) (tables : List (List Shared)) (table : ℕ) (rows : List (Vec SeatView Global)) (v : Vec SeatView Global) (seats after : List SeatView) (result : Result Fanned E)
    (low : table < length rows) (read : v ≡ slice_index_or rows table v) (same : seats ≡ v.items)
    (asked : (IsErr result × (after ≡ seats)) ⊎ AllAsked q tables table seats after result) where
  count : length after ≡ length seats
  count = ⊎_elim (λ h. ap (λ (xs : List SeatView). length xs) h.1) (λ (h : AllAsked q tables table seats after result). (asked_counts q tables table 0 seats h.replies after h.asked).1) asked

  is_row : seats ≡ row (lists_in rows) table
  is_row = same ∙ row_is rows table v low read

  rows_then : lists_in (slice_set rows table (with_items v after)) ≡ slice_set (lists_in rows) table after
  rows_then = row_put rows table v after low read (count ∙ ap (λ (xs : List SeatView). length xs) same)

  pub row_then : row (lists_in (slice_set rows table (with_items v after))) table ≡ after
  row_then = ap (λ (rs : List (List SeatView)). row rs table) rows_then ∙ get_or-set_same (lists_in rows) table after [] (omega (arith, low, lists_count rows))

  pub asks_row : AsksRow q tables table (lists_in rows) result (lists_in (slice_set rows table (with_items v after)))
  asks_row = by asked
    where
      by : (IsErr result × (after ≡ seats)) ⊎ AllAsked q tables table seats after result → AsksRow q tables table (lists_in rows) result (lists_in (slice_set rows table (with_items v after)))
      by (inl h) = inl (h.0, rows_then ∙ (ap (λ (xs : List SeatView). slice_set (lists_in rows) table xs) (h.1 ∙ is_row) ∙ row_again (lists_in rows) table))
      by (inr h) = inr (after, subst (λ (xs : List SeatView). AllAsked q tables table xs after result) is_row h, rows_then)
