-- The two laws of rows: what is read is spelled so, and what is spelled so is read.
use Rattle.std.proofs.Common.{◌≡◌, ℕ, zero, suc, ◌^◌, false, cond, ltb, List, [], ◌∷◌, ◌++◌, length, Some, None, refl, sym, ap, subst, ◌∙◌, append_assoc, arith}
use Rattle.std.specs.List.{flat_map, AllByRecursion}
use Rattle.std.specs.List.Sorted.{IsStrictlySortedBy}
use Rattle.std.specs.Int.{w16, to_le_bytes}
use Rattle.std.proofs.lemmas.Bool.{ltb-false, le-ltb}
use Rattle.std.proofs.lemmas.List.Concat.{flat_map-cons}
use Rattle.row_model.specs.declared.rows.Row.{Row}
use Rattle.row_model.specs.Values.{IsRow}
use Rattle.leaf_model.specs.Bytes.{cell_bytes, row_bytes, rows_bytes, i64_bytes, IsBytes}
use Rattle.leaf_model.specs.Reading.{◌>>=◌, number_at, time_at, cells_at, row_at, rows_at}
use Rattle.leaf_model.proofs.Fields.{bind_some, passed, some_is, Takes, Takes-then, wide16, number_takes, number_again, time_takes, time_again}
use Rattle.leaf_model.proofs.ReadCells.{cells_take, cells_again, above_nothing}

pub row_takes : (bytes : List ℕ) (x : Row × List ℕ) → IsBytes bytes → row_at bytes ≡ Some x → Takes bytes (row_bytes x.0) x.1 × IsRow x.0
unfolding row_at IsStrictlySortedBy
row_takes bytes x fits e =
    let a = bind_some (time_at bytes) (λ time. number_at w16 time.1 >>= λ count. cond (ltb 1024 count.0) None (cells_at count.0 [] count.1 >>= λ cells. Some (record { time = time.0; cells = cells.0 }, cells.1))) x e in
    let b = bind_some (number_at w16 a.0.1) (λ count. cond (ltb 1024 count.0) None (cells_at count.0 [] count.1 >>= λ cells. Some (record { time = a.0.0; cells = cells.0 }, cells.1))) x a.2 in
    let g = passed (ltb 1024 b.0.0) (cells_at b.0.0 [] b.0.1 >>= λ cells. Some (record { time = a.0.0; cells = cells.0 }, cells.1)) x b.2 in
    let c = bind_some (cells_at b.0.0 [] b.0.1) (λ cells. Some (record { time = a.0.0; cells = cells.0 }, cells.1)) x g.1 in
    let first = time_takes bytes a.0 fits a.1 in
    let second = number_takes w16 (2 ^ 16) wide16 a.0.1 b.0 first.0.rest_fits b.1 in
    let third = cells_take b.0.0 [] b.0.1 c.0 second.0.rest_fits c.1 in
    let counted : Takes a.0.1 (to_le_bytes w16 (length c.0.0)) b.0.1 = subst (λ (k : ℕ). Takes a.0.1 (to_le_bytes w16 k) b.0.1) (sym third.1) second.0 in
    let last_two = Takes-then a.0.1 (to_le_bytes w16 (length c.0.0)) b.0.1 (flat_map cell_bytes c.0.0) c.0.1 counted third.0 in
    let all = Takes-then bytes (i64_bytes a.0.0) a.0.1 (to_le_bytes w16 (length c.0.0) ++ flat_map cell_bytes c.0.0) c.0.1 first.0 last_two in
    let made : Row × List ℕ = (record { time = a.0.0; cells = c.0.0 }, c.0.1) in
    subst (λ (y : Row × List ℕ). Takes bytes (row_bytes y.0) y.1 × IsRow y.0) (some_is made x c.2)
    (all, record { time = first.1; few = omega (arith, third.1, ltb-false 1024 b.0.0 g.0); cells = third.2; ascending = third.3.1 })

pub row_again : (row : Row) (rest : List ℕ) → IsRow row → row_at (row_bytes row ++ rest) ≡ Some (row, rest)
unfolding row_at IsStrictlySortedBy
row_again row rest fits =
    let cells = flat_map cell_bytes row.cells in
    let count = to_le_bytes w16 (length row.cells) in
    let regrouped : row_bytes row ++ rest ≡ i64_bytes row.time ++ (count ++ (cells ++ rest)) = append_assoc (i64_bytes row.time) (count ++ cells) rest ∙ ap (λ (w : List ℕ). i64_bytes row.time ++ w) (append_assoc count cells rest) in
    let few : ltb 1024 (length row.cells) ≡ false = le-ltb _ _ fits.few in
    ap row_at regrouped ∙ rw (time_again row.time (count ++ (cells ++ rest)) fits.time, number_again w16 (2 ^ 16) wide16 (length row.cells) (cells ++ rest) (omega (arith, fits.few)), few, cells_again [] row.cells rest fits.cells (above_nothing row.cells fits.cells, fits.ascending)) refl

pub rows_take : (n : ℕ) (bytes : List ℕ) (x : List Row × List ℕ) → IsBytes bytes → rows_at n bytes ≡ Some x → Takes bytes (rows_bytes x.0) x.1 × (length x.0 ≡ n) × AllByRecursion IsRow x.0
unfolding rows_at
rows_take zero bytes x fits e =
    subst (λ (y : List Row × List ℕ). Takes bytes (rows_bytes y.0) y.1 × (length y.0 ≡ 0) × AllByRecursion IsRow y.0) (some_is ([], bytes) x e) (record { parts = refl; rest_fits = fits }, refl, tt)
rows_take (suc n) bytes x fits e =
    let a = bind_some (row_at bytes) (λ first. rows_at n first.1 >>= λ others. Some (first.0 ∷ others.0, others.1)) x e in
    let b = bind_some (rows_at n a.0.1) (λ others. Some (a.0.0 ∷ others.0, others.1)) x a.2 in
    let first = row_takes bytes a.0 fits a.1 in
    let second = rows_take n a.0.1 b.0 first.0.rest_fits b.1 in
    let both = Takes-then bytes (row_bytes a.0.0) a.0.1 (rows_bytes b.0.0) b.0.1 first.0 second.0 in
    let made : List Row × List ℕ = (a.0.0 ∷ b.0.0, b.0.1) in
    subst (λ (y : List Row × List ℕ). Takes bytes (rows_bytes y.0) y.1 × (length y.0 ≡ suc n) × AllByRecursion IsRow y.0) (some_is made x b.2)
    (rw flat_map-cons both, ap suc second.1, (first.1, second.2))

pub rows_again : (rows : List Row) (rest : List ℕ) → AllByRecursion IsRow rows → rows_at (length rows) (rows_bytes rows ++ rest) ≡ Some (rows, rest)
unfolding rows_at
rows_again [] rest fits = refl
rows_again (row ∷ rows) rest fits =
    let regrouped : rows_bytes (row ∷ rows) ++ rest ≡ row_bytes row ++ (rows_bytes rows ++ rest) = ap (λ (w : List ℕ). w ++ rest) (flat_map-cons row_bytes row rows) ∙ append_assoc (row_bytes row) (rows_bytes rows) rest in
    ap (rows_at (suc (length rows))) regrouped ∙ rw (row_again row (rows_bytes rows ++ rest) fits.0, rows_again rows rest fits.1) refl
