-- The planned directory has room for what is put into it.
use Rattle.std.proofs.Common.{◌≡◌, ℕ, suc, ◌+◌, ◌^◌, ◌<◌, ◌≤◌, ◌||◌, false, List, [], ◌∷◌, length, refl, sym, ap, subst, rules, arith}
use Rattle.std.specs.Prelude.{nat_le}
use Rattle.std.specs.List.{AllByRecursion, list_any}
use Rattle.std.proofs.lemmas.Bool.{or_parts, leb-false}
use Rattle.row_model.specs.Values.{time_name}
use Rattle.row_blocks.specs.declared.column.BlockColumn.{BlockColumn}
use Rattle.row_blocks.specs.Blocks.{Block, IsBlock, IsOther}
use Rattle.row_blocks.specs.Held.{IsSkip}
use Rattle.table_state.specs.Tables.{IsParts}
use Rattle.region_layout.specs.Names.{IsName}
use Rattle.region_layout.specs.declared.drained.DrainTable.{DrainTable}
use Rattle.region_layout.specs.Drained.{is_wide}
use Rattle.region_layout.specs.Written.{PlaceFits, BlockFits, TableFits, MayBeWritten}
use Rattle.drain_copy.specs.Planned.{columns_size, blocks_size, tables_size, places_from, blocks_from, tables_from, planned_directory}

places_number : (columns : List BlockColumn) (at : ℕ) → length (places_from at columns) ≡ length columns
places_number [] at = refl
places_number (c ∷ columns) at = ap (λ (n : ℕ). suc n) (places_number columns (at + length c.bytes))

blocks_number : (blocks : List Block) (at : ℕ) → length (blocks_from at blocks) ≡ length blocks
blocks_number [] at = refl
blocks_number (b ∷ blocks) at = ap (λ (n : ℕ). suc n) (blocks_number blocks (at + columns_size b.columns))

tables_number : (tables : List DrainTable) (at : ℕ) → length (tables_from at tables) ≡ length tables
tables_number [] at = refl
tables_number (t ∷ tables) at = ap (λ (n : ℕ). suc n) (tables_number tables (at + blocks_size t.parts.blocks))

-- ---- the names of columns

time_short : IsName time_name
time_short = (search rules, omega arith)

others_short : (rows : ℕ) (columns : List BlockColumn) → AllByRecursion (IsOther rows) columns → AllByRecursion (λ (c : BlockColumn). IsName c.name) columns
others_short rows [] each = tt
others_short rows (c ∷ columns) each = ((each.0.name.text, each.0.name.short), others_short rows columns each.1)

pub block_short : (b : Block) → IsBlock b → AllByRecursion (λ (c : BlockColumn). IsName c.name) b.columns
block_short b is =
    subst (λ (cs : List BlockColumn). AllByRecursion (λ (c : BlockColumn). IsName c.name) cs) (sym is.columns_are)
    (subst IsName (sym is.timed.name) time_short, others_short b.rows is.others is.each)

-- ---- places, blocks and tables

places_fit : (columns : List BlockColumn) (at : ℕ) → AllByRecursion (λ (c : BlockColumn). IsName c.name) columns → at + columns_size columns < 2 ^ 63 → AllByRecursion PlaceFits (places_from at columns)
places_fit [] at each room = tt
places_fit (c ∷ columns) at each room =
    (record { name = each.0; place = omega (arith, room); length = omega (arith, room) }, places_fit columns (at + length c.bytes) each.1 (omega (arith, room)))

pub some_columns : (b : Block) → IsBlock b → 0 < length b.columns
some_columns b is = subst (λ (cs : List BlockColumn). 0 < length cs) (sym is.columns_are) (omega arith)

blocks_fit : (blocks : List Block) (at : ℕ) → AllByRecursion IsBlock blocks → list_any (λ (b : Block). nat_le (2 ^ 32) (length b.columns)) blocks ≡ false → at + blocks_size blocks < 2 ^ 63
    → AllByRecursion BlockFits (blocks_from at blocks)
blocks_fit [] at each few room = tt
blocks_fit (b ∷ blocks) at each few room =
    let both = or_parts (nat_le (2 ^ 32) (length b.columns)) (list_any (λ (b : Block). nat_le (2 ^ 32) (length b.columns)) blocks) few in
    let count : length b.columns < 2 ^ 32 = leb-false (2 ^ 32) (length b.columns) both.0 in
    let some : 0 < length b.columns = some_columns b each.0 in
    let number : length (places_from at b.columns) ≡ length b.columns = places_number b.columns at in (
      record {
        some = each.0.some;
        few = each.0.few;
        columned = omega (arith, some, number);
        count = omega (arith, count, number);
        each = places_fit b.columns at (block_short b each.0) (omega (arith, room));
      },
      blocks_fit blocks (at + columns_size b.columns) each.1 both.1 (omega (arith, room)),
    )

skip_fits : (skip : ℕ) (blocks : List Block) → IsSkip skip blocks → AllByRecursion IsBlock blocks → skip < 2 ^ 32
skip_fits skip [] is each = omega (arith, is)
skip_fits skip (b ∷ blocks) is each = omega (arith, is, each.0.few)

tables_fit : (tables : List DrainTable) (at : ℕ) → AllByRecursion (λ (t : DrainTable). IsName t.name) tables → AllByRecursion (λ (t : DrainTable). IsParts t.parts) tables → list_any is_wide tables ≡ false
    → at + tables_size tables < 2 ^ 63 → AllByRecursion TableFits (tables_from at tables)
tables_fit [] at names each narrow room = tt
tables_fit (t ∷ tables) at names each narrow room =
    let blocks = t.parts.blocks in
    let many = list_any (λ (b : Block). nat_le (2 ^ 32) (length b.columns)) blocks in
    let both = or_parts (is_wide t) (list_any is_wide tables) narrow in
    let first = or_parts (nat_le (2 ^ 32) (length blocks)) (nat_le (2 ^ 63) t.parts.writes || many) both.0 in
    let second = or_parts (nat_le (2 ^ 63) t.parts.writes) many first.1 in
    let count : length blocks < 2 ^ 32 = leb-false (2 ^ 32) (length blocks) first.0 in
    let number : length (blocks_from at blocks) ≡ length blocks = blocks_number blocks at in (
      record {
        name = names.0;
        horizon = each.0.horizon;
        writes = leb-false (2 ^ 63) t.parts.writes second.0;
        skip = skip_fits t.parts.skip blocks each.0.skip each.0.blocks;
        count = omega (arith, count, number);
        each = blocks_fit blocks at each.0.blocks second.1 (omega (arith, room));
      },
      tables_fit tables (at + blocks_size blocks) names.1 each.1 both.1 (omega (arith, room)),
    )

pub may_be_written : (tables : List DrainTable) (log_end : ℕ) → length tables ≤ 16 → AllByRecursion (λ (t : DrainTable). IsName t.name) tables → AllByRecursion (λ (t : DrainTable). IsParts t.parts) tables
    → list_any is_wide tables ≡ false → 16 + tables_size tables < 2 ^ 63 → log_end < 2 ^ 63 → MayBeWritten (planned_directory tables log_end)
may_be_written tables log_end few names each narrow room fits =
    let number : length (tables_from 16 tables) ≡ length tables = tables_number tables 16 in
    record { log_end = fits; few = omega (arith, few, number); each = tables_fit tables 16 names each narrow room }
