-- The row of members whose cells were put in one by one.
use Rattle.std.proofs.Common.{◌≡◌, ℕ, ℤ, ◌+◌, ◌≤◌, List, [], ◌∷◌, length, Option, Some, None, Result, Ok, Err, Bool, true, false, cond, ◌||◌, refl, ap, sym, subst, ◌∙◌, arith}
use Rattle.std.specs.Prelude.{IsUtf8}
use Rattle.std.proofs.lemmas.Bool.{le-ltb}
use Rattle.std.proofs.lemmas.Slice.Eq.{bytes_eq-Decides}
use Rattle.std.specs.List.{AllByRecursion}
use Rattle.std.specs.Option.{IfSome}
use Rattle.std.specs.Result.{IfOk}
use Rattle.json.specs.Token.{Token}
use Rattle.serde_json.specs.Data.{Data, object, Members, no_members, member}
use Rattle.serde_json.specs.Read.{read}
use Rattle.row_model.specs.Values.{IsCell, IsRow, IsTime, time_name}
use Rattle.row_model.specs.declared.rows.Cell.{Cell}
use Rattle.row_model.specs.declared.rows.Row.{Row}
use Rattle.row_model.specs.declared.row_fault.RowFault.{RowFault}
use Rattle.row_json.specs.Row.{is_time, is_missing, cell_of, cell_count, cells_of, row_of}
use Rattle.row_json.specs.Quick.{Knows}
use Rattle.row_json.specs.QuickRow.{Ascend, Ascending, IsMadeOf}
use Rattle.row_json.proofs.Rows.{before, with_cell, row_of-some}
use Rattle.row_json.proofs.Order.{at_ok, cells_ascend}
use Rattle.row_json.proofs.Cells.{Case, the_time, bad_name, missing, held, bad_value, case_of}
use Rattle.row_json.proofs.Seen.{at_most_one}

-- ---- there are no more cells than were made

or_true : (a : Bool) → (a || true) ≡ true
or_true true = refl
or_true false = refl

count_none : (n : ℕ) (b : Bool) (r : Result (List Cell) RowFault) → b ≡ true → IfOk r (λ cs. n ≤ length cs) → IfOk (before [] r) (λ cs. cond b 0 1 + n ≤ length cs)
count_none n b (Ok cs) is h = rw is (omega (arith, h))
count_none n b (Err e) is h = tt

count_some : (n : ℕ) (b : Bool) (c : Cell) (r : Result (List Cell) RowFault) → IfOk r (λ cs. n ≤ length cs) → IfOk (before (c ∷ []) r) (λ cs. cond b 0 1 + n ≤ length cs)
count_some n b c (Ok cs) h = omega (arith, h, at_most_one b)
count_some n b c (Err e) h = tt

abbrev Counted : ℕ → Result (List Cell) RowFault → Type 0
Counted n r = IfOk r (λ cs. n ≤ length cs)

count_at : (name : List ℕ) (d : Data) (ms : Members) → Case name d → Counted (cell_count ms) (cells_of ms) → Counted (cell_count (member name d ms)) (with_cell (cell_of name d) (cells_of ms))
count_at name d ms (the_time t is) h =
    let here : is_time name ≡ true = (bytes_eq-Decides name time_name).1 t in
    subst (λ r. Counted (cell_count (member name d ms)) (with_cell r (cells_of ms))) (sym is) (count_none (cell_count ms) (is_time name || is_missing d) (cells_of ms) (rw here refl) h)
count_at name d ms (bad_name t b is) h = subst (λ r. Counted (cell_count (member name d ms)) (with_cell r (cells_of ms))) (sym is) tt
count_at name d ms (missing t b m is) h =
    let here : (is_time name || is_missing d) ≡ true = subst (λ e. (is_time name || is_missing e) ≡ true) (sym m) (or_true (is_time name)) in
    subst (λ r. Counted (cell_count (member name d ms)) (with_cell r (cells_of ms))) (sym is) (count_none (cell_count ms) (is_time name || is_missing d) (cells_of ms) here h)
count_at name d ms (held t b m v holds is) h =
    subst (λ r. Counted (cell_count (member name d ms)) (with_cell r (cells_of ms))) (sym is) (count_some (cell_count ms) (is_time name || is_missing d) _ (cells_of ms) h)
count_at name d ms (bad_value t b m v is) h = subst (λ r. Counted (cell_count (member name d ms)) (with_cell r (cells_of ms))) (sym is) tt

counted : (ms : Members) → Counted (cell_count ms) (cells_of ms)
counted no_members = omega arith
counted (member k d ms) = count_at k d ms (case_of k d) (counted ms)

few_cells : (all : Members) (cells : List Cell) → cells_of all ≡ Ok cells → length cells ≤ 1024 → cell_count all ≤ 1024
few_cells all cells made few =
    let at : cell_count all ≤ length cells = at_ok cells (cells_of all) (λ cs. cell_count all ≤ length cs) (sym made) (counted all) in
    omega (arith, at, few)

-- ---- what is known of the members so far

pub made_ascend : (all : Members) (cells : List Cell) → Ascending all → cells_of all ≡ Ok cells → Ascend cells
made_ascend all cells ascending made = at_ok cells (cells_of all) Ascend (sym made) (cells_ascend all ascending)

-- ---- the row

abbrev Finished : Option ℤ → List Cell → Option Row → Type 0
Finished time cells result = IfSome result (λ row. (time ≡ Some row.time) × (row.cells ≡ cells))

pub row_ends : (result : Option Row) (time : Option ℤ) (cells : List Cell) (all : Members) (found : Option (Members × List Token)) (rest : List Token) → found ≡ Some (all, rest) → Finished time cells result
    → Knows time all → cells_of all ≡ Ok cells → length cells ≤ 1024 → IfSome result (λ row. (x : Members) × (found ≡ Some (x, rest)) × IsMadeOf x row)
row_ends None time cells all found rest is ends known made few = tt
row_ends (Some row) time cells all found rest is ends known made few = (
  all,
  is,
  record {
    time = subst (λ t. Knows t all) ends.0 known;
    cells = made ∙ ap Ok (sym ends.1);
    few = few_cells all cells made few;
  },
)

pub row_fine : (result : Option Row) (time : Option ℤ) (cells : List Cell) (all : Members) → Finished time cells result → IfSome result (λ row. IsTime row.time) → Ascending all → cells_of all ≡ Ok cells
    → length cells ≤ 1024 → AllByRecursion IsCell cells → IfSome result IsRow
row_fine None time cells all ends from_zero ascending made few are = tt
row_fine (Some row) time cells all ends from_zero ascending made few are = record {
  time = from_zero;
  few = subst (λ cs. length cs ≤ 1024) (sym ends.1) few;
  cells = subst (AllByRecursion IsCell) (sym ends.1) are;
  ascending = subst Ascend (sym ends.1) (made_ascend all cells ascending made);
}

pub row_made : (text : List ℕ) (all : Members) (row : Row) → IsUtf8 text → read text ≡ Some (object all) → IsMadeOf all row → row_of text ≡ Ok row
row_made text all row utf8 reads is = row_of-some text (object all) utf8 reads ∙ rw (is.time, le-ltb 1024 (cell_count all) is.few, is.cells) refl
