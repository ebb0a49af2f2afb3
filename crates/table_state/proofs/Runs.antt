-- Whole runs of rows, sealed one after another.
use Rattle.std.proofs.Common.{◌≡◌, ℕ, ◌-◌, ◌*◌, ◌<◌, ◌≤◌, List, [], ◌∷◌, ◌++◌, length, take, drop, sym, ap, ap₂, subst, ◌∙◌, arith}
use Rattle.std.specs.List.{AllByRecursion}
use Rattle.std.proofs.Math.Seq.{take-append_seam}
use Rattle.std.proofs.lemmas.List.{append-nil, append_assoc, length-append, length-take-le, take-append-drop}
use Rattle.std.proofs.lemmas.List.Concat.{flat_map-append}
use Rattle.row_model.specs.declared.rows.Row.{Row}
use Rattle.row_model.specs.Values.{IsRow}
use Rattle.row_blocks.specs.Blocks.{Block, IsBlock, rows_in}
use Rattle.row_blocks.specs.Held.{block_rows, columns_count, rows_and_cells}
use Rattle.table_state.specs.Stored.{in_runs}
use Rattle.table_state.proofs.Counting.{columns_append, rows_append}
use Rattle.table_state.proofs.Keeping.{each-drop, each-take}

-- whole runs of the rows stand in blocks, and these others are left
pub record AreInRuns (rows : List Row) (blocks : List Block) (left : List Row) : Type 0 where
  pub same : block_rows blocks ++ left ≡ rows
  pub whole : length (block_rows blocks) ≡ length blocks * 65536
  pub each : AllByRecursion IsBlock blocks
  pub few : columns_count blocks ≤ rows_and_cells (block_rows blocks)
  pub are : AllByRecursion IsRow left

one_behind : (blocks : List Block) (b : Block) → block_rows (blocks ++ b ∷ []) ≡ block_rows blocks ++ rows_in b
one_behind blocks b = flat_map-append rows_in blocks (b ∷ []) ∙ ap (λ (l : List Row). block_rows blocks ++ l) (append-nil (rows_in b))

blocks_more : (blocks : List Block) (b : Block) → AllByRecursion IsBlock blocks → IsBlock b → AllByRecursion IsBlock (blocks ++ b ∷ [])
blocks_more [] b each is = (is, tt)
blocks_more (c ∷ blocks) b each is = (each.0, blocks_more blocks b each.1 is)

module _ (rows left : List Row) (blocks : List Block) (is : AreInRuns rows blocks left) where
  -- one more run
  module _ (more : 65536 ≤ length left) (run : List Row) (front : run ≡ take 65536 left) where
    pub run_length : length run ≡ 65536
    run_length = ap (λ (l : List Row). length l) front ∙ length-take-le 65536 left more

    pub run_rows : AllByRecursion IsRow run
    run_rows = subst (AllByRecursion IsRow) (sym front) (each-take IsRow 65536 left is.are)

    module _ (b : Block) (block : IsBlock b) (sealed : rows_in b ≡ run) (columns : length b.columns ≤ rows_and_cells run) where
      behind : block_rows (blocks ++ b ∷ []) ≡ block_rows blocks ++ run
      behind = one_behind blocks b ∙ ap (λ (l : List Row). block_rows blocks ++ l) sealed

      next : AreInRuns rows (blocks ++ b ∷ []) (drop 65536 left)
      next = record {
        same =
            ap (λ (l : List Row). l ++ drop 65536 left) behind ∙ append_assoc (block_rows blocks) run (drop 65536 left)
            ∙ ap (λ (l : List Row). block_rows blocks ++ (l ++ drop 65536 left)) front
            ∙ ap (λ (l : List Row). block_rows blocks ++ l) (take-append-drop 65536 left) ∙ is.same;
        whole =
            let count = ap (λ (l : List Row). length l) behind in
            omega (arith, count, length-append (block_rows blocks) run, run_length, is.whole, length-append blocks (b ∷ []));
        each = blocks_more blocks b is.each block;
        few =
            let count = ap rows_and_cells behind in
            omega (arith, columns_append blocks (b ∷ []), count, rows_append (block_rows blocks) run, columns, is.few);
        are = each-drop IsRow 65536 left is.are;
      }

      pub run_more : (now : List Block) → now ≡ blocks ++ b ∷ [] → (others : List Row) → others ≡ drop 65536 left → AreInRuns rows now others
      run_more now pushed others back = subst (λ (l : List Row). AreInRuns rows now l) (sym back) (subst (λ (l : List Block). AreInRuns rows l (drop 65536 left)) (sym pushed) next)

  -- the others are no whole run
  module _ (fewer : length left < 65536) where
    pub runs_are : block_rows blocks ≡ take (in_runs (length rows)) rows
    runs_are =
        let count = ap (λ (l : List Row). length l) is.same in
        let gone : length (block_rows blocks) ≡ in_runs (length rows) = omega (arith, count, length-append (block_rows blocks) left, is.whole, fewer) in
        sym (take-append_seam (block_rows blocks) left) ∙ ap₂ (λ (n : ℕ) (l : List Row). take n l) gone is.same

    pub runs_columns : columns_count blocks ≤ rows_and_cells (take (in_runs (length rows)) rows)
    runs_columns = subst (λ (l : List Row). columns_count blocks ≤ rows_and_cells l) runs_are is.few

pub runs_fit : (n : ℕ) → in_runs n ≤ n
runs_fit n = omega arith

pub rest_short : (n : ℕ) → n - in_runs n ≤ 65535
rest_short n = omega arith
