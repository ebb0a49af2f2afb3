-- How many columns blocks have, and how many rows and cells there are: of lists behind one another, and of what is left
-- of a list.
use Rattle.std.proofs.Common.{cond, ◌≡◌, ℕ, zero, suc, ◌+◌, ◌≤◌, Bool, true, false, List, [], ◌∷◌, ◌++◌, length, take, drop, filter, ℤ, int_le, sym, ap, ◌∙◌, arith}
use Rattle.std.proofs.lemmas.List.{take-append-drop}
use Rattle.row_model.specs.declared.rows.Row.{Row}
use Rattle.leaf_model.specs.Content.{rows_from}
use Rattle.row_blocks.specs.Blocks.{Block}
use Rattle.row_blocks.specs.Held.{columns_count, rows_and_cells}
use Rattle.row_blocks.specs.Live.{has_live}
use Rattle.table_state.specs.Stored.{AreSealed, in_runs}

-- ---- columns

pub columns_append : (xs ys : List Block) → columns_count (xs ++ ys) ≡ columns_count xs + columns_count ys
columns_append [] ys = omega arith
columns_append (b ∷ xs) ys = omega (arith, columns_append xs ys)

pub columns_live : (h : ℤ) (blocks : List Block) → columns_count (filter (has_live h) blocks) ≤ columns_count blocks
columns_live h [] = omega arith
columns_live h (b ∷ blocks) = by (has_live h b) (columns_live h blocks)
  where
    by : (x : Bool) → columns_count (filter (has_live h) blocks) ≤ columns_count blocks
        → columns_count (cond x (b ∷ filter (has_live h) blocks) (filter (has_live h) blocks)) ≤ length b.columns + columns_count blocks
    by true rest = omega (arith, rest)
    by false rest = omega (arith, rest)

pub columns_behind : (n : ℕ) (blocks : List Block) → columns_count (drop n blocks) ≤ columns_count blocks
columns_behind zero blocks = omega arith
columns_behind (suc n) [] = omega arith
columns_behind (suc n) (b ∷ blocks) = omega (arith, columns_behind n blocks)

-- ---- rows and cells

pub rows_append : (xs ys : List Row) → rows_and_cells (xs ++ ys) ≡ rows_and_cells xs + rows_and_cells ys
rows_append [] ys = omega arith
rows_append (x ∷ xs) ys = omega (arith, rows_append xs ys)

pub rows_late : (h : ℤ) (rows : List Row) → rows_and_cells (rows_from h rows) ≤ rows_and_cells rows
rows_late h [] = omega arith
rows_late h (row ∷ rows) = by (int_le h row.time) (rows_late h rows)
  where
    by : (x : Bool) → rows_and_cells (rows_from h rows) ≤ rows_and_cells rows
        → rows_and_cells (cond x (row ∷ rows_from h rows) (rows_from h rows)) ≤ suc (length row.cells) + rows_and_cells rows
    by true rest = omega (arith, rest)
    by false rest = omega (arith, rest)

pub rows_behind : (n : ℕ) (rows : List Row) → rows_and_cells (drop n rows) ≤ rows_and_cells rows
rows_behind zero rows = omega arith
rows_behind (suc n) [] = omega arith
rows_behind (suc n) (row ∷ rows) = omega (arith, rows_behind n rows)

rows_split : (n : ℕ) (rows : List Row) → rows_and_cells (take n rows) + rows_and_cells (drop n rows) ≡ rows_and_cells rows
rows_split n rows = sym (rows_append (take n rows) (drop n rows)) ∙ ap rows_and_cells (take-append-drop n rows)

-- ---- an add

-- whole runs are sealed, and the others stand in the tail
pub add_columns : (blocks : List Block) (tail more all : List Row) (h : ℤ) → all ≡ tail ++ rows_from h more → (now : List Block) → AreSealed blocks (take (in_runs (length all)) all) now → (rest : List Row)
    → rest ≡ drop (in_runs (length all)) all → columns_count now + rows_and_cells rest ≤ columns_count blocks + rows_and_cells tail + rows_and_cells more
add_columns blocks tail more all h put now sealed rest left =
    let count = ap columns_count sealed.is ∙ columns_append blocks sealed.more in
    let behind = ap rows_and_cells left in
    let whole = ap rows_and_cells put in
    omega (arith, sealed.few, count, behind, rows_split (in_runs (length all)) all, whole, rows_append tail (rows_from h more), rows_late h more)

-- ---- rows that leave, and a tail that is sealed

module _ (blocks now : List Block) (tail rest : List Row) (fewer : columns_count now ≤ columns_count blocks) where
  pub expired_columns : (h : ℤ) → rest ≡ rows_from h tail → columns_count now + rows_and_cells rest ≤ columns_count blocks + rows_and_cells tail
  expired_columns h left = let count = ap rows_and_cells left in omega (arith, fewer, count, rows_late h tail)

  pub kept_columns : (n : ℕ) → rest ≡ drop n tail → columns_count now + rows_and_cells rest ≤ columns_count blocks + rows_and_cells tail
  kept_columns n left = let count = ap rows_and_cells left in omega (arith, fewer, count, rows_behind n tail)

pub sealed_columns : (blocks now : List Block) (tail rest : List Row) → AreSealed blocks tail now → rest ≡ [] → columns_count now + rows_and_cells rest ≤ columns_count blocks + rows_and_cells tail
sealed_columns blocks now tail rest sealed none =
    let count = ap columns_count sealed.is ∙ columns_append blocks sealed.more in
    let behind = ap rows_and_cells none in
    omega (arith, sealed.few, count, behind)
