-- How many columns a drain has at least: what the rows of its tables ask for; and at most: a column for each row and
-- each cell that their writes add.
use Rattle.std.proofs.Common.{◌≡◌, ℕ, suc, ◌+◌, ◌≤◌, true, List, [], ◌∷◌, length, map, Some, refl, ap, arith}
use Rattle.std.specs.Prelude.{slice_get}
use Rattle.std.specs.List.{AllByRecursion}
use Rattle.std.proofs.lemmas.List.{length-append, length-map}
use Rattle.leaf_model.specs.Content.{Contents}
use Rattle.row_blocks.specs.declared.column.BlockColumn.{BlockColumn}
use Rattle.row_blocks.specs.Blocks.{Block}
use Rattle.row_blocks.specs.Held.{columns_count}
use Rattle.table_state.specs.Tables.{IsParts, Table, added_count, least_columns}
use Rattle.table_state.proofs.Columns.{blocks_long, columns_of}
use Rattle.region_layout.specs.declared.drained.DrainTable.{DrainTable}
use Rattle.region_layout.specs.Drained.{all_columns, columns_in}
use Rattle.leaf_history.specs.History.{contents_held}
use Rattle.leaf_table.specs.Turns.{Shared, is_founded}
use Rattle.leaf_table.specs.Calls.{SeatView, base_seen, state_seen}
use Rattle.leaf_machine.specs.States.{IsContent, columns_added, columns_seen}
use Rattle.leaf_machine.specs.Shut.{drained_columns, drained_table}

-- ---- at least

-- the columns that tables have at least, by what they hold
abbrev held_columns : List Table → ℕ
held_columns [] = 0
held_columns (t ∷ tables) = least_columns t.contents.rows + held_columns tables

tables_long : (tables : List DrainTable) → AllByRecursion (λ (t : DrainTable). IsParts t.parts) tables → held_columns (map drained_table tables) ≤ length (all_columns tables)
tables_long [] all = omega arith
tables_long (t ∷ tables) all =
    let is : IsParts t.parts = all.0 in
    let here = blocks_long t.parts.blocks t.parts.skip t.parts.horizon is.skip is.blocks in
    omega (arith, here, length-append (columns_in t.parts) (all_columns tables), tables_long tables all.1)

seen_held : (ts : List Shared) (vs : List SeatView) (closed : List Table) → length closed ≡ length ts
    → ((place : ℕ) (t : Shared) (v : SeatView) (c : Table) → slice_get ts place ≡ Some t → slice_get vs place ≡ Some v → slice_get closed place ≡ Some c → IsContent (state_seen (base_seen t) v) c)
    → columns_seen ts vs ≤ held_columns closed
seen_held [] vs closed count are = omega arith
seen_held (t ∷ ts) [] closed count are = omega arith
seen_held (t ∷ ts) (v ∷ vs) [] count are = absurd (omega (arith, count))
seen_held (t ∷ ts) (v ∷ vs) (c ∷ closed) count are =
    let here : IsContent (state_seen (base_seen t) v) c = are 0 t v c refl refl refl in
    let rows : least_columns c.contents.rows ≡ least_columns (contents_held (state_seen (base_seen t) v)).rows = ap (λ (x : Contents). least_columns x.rows) here.contents in
    omega (arith, rows, seen_held ts vs closed (omega (arith, count)) (λ place s w d at was is. are (suc place) s w d at was is))

-- the drain of tables that are these
pub drain_long : (ts : List Shared) (vs : List SeatView) (closed : List Table) (tables : List DrainTable) (heap : List (List ℕ))
    → length closed ≡ length ts
    → ((place : ℕ) (t : Shared) (v : SeatView) (c : Table) → slice_get ts place ≡ Some t → slice_get vs place ≡ Some v → slice_get closed place ≡ Some c → IsContent (state_seen (base_seen t) v) c)
    → map drained_table tables ≡ closed → AllByRecursion (λ (t : DrainTable). IsParts t.parts) tables → heap ≡ all_columns tables
    → columns_seen ts vs ≤ length heap
drain_long ts vs closed tables heap count are same parts is =
    omega (arith, seen_held ts vs closed count are, ap held_columns same, tables_long tables parts, ap (λ (cs : List (List ℕ)). length cs) is)

-- ---- at most

columns_long : (blocks : List Block) → length (columns_of blocks) ≡ columns_count blocks
columns_long [] = refl
columns_long (b ∷ blocks) =
    let bytes : List (List ℕ) = map (λ (c : BlockColumn). c.bytes) b.columns in
    let here : length bytes ≡ length b.columns = length-map b.columns (λ (c : BlockColumn). c.bytes) in
    let rest = columns_long blocks in
    omega (arith, here, rest, length-append bytes (columns_of blocks))

-- the drain of tables that are founded, of which each comes to few columns
pub drain_few : (ts : List Shared) (vs : List SeatView) (tables : List DrainTable) → length tables ≡ length ts → length vs ≡ length ts → AllByRecursion (λ (t : Shared). is_founded (base_seen t) ≡ true) ts
    → ((place : ℕ) (t : Shared) (v : SeatView) → slice_get ts place ≡ Some t → slice_get vs place ≡ Some v → is_founded (base_seen t) ≡ true
    → (n : ℕ) → slice_get (drained_columns tables) place ≡ Some n → n ≤ (state_seen (base_seen t) v).spare + added_count (state_seen (base_seen t) v).writes)
    → length (all_columns tables) ≤ columns_added ts vs
drain_few [] vs [] count seats founded few = omega arith
drain_few [] vs (d ∷ tables) count seats founded few = absurd (omega (arith, count))
drain_few (t ∷ ts) [] tables count seats founded few = absurd (omega (arith, seats))
drain_few (t ∷ ts) (v ∷ vs) [] count seats founded few = absurd (omega (arith, count))
drain_few (t ∷ ts) (v ∷ vs) (d ∷ tables) count seats founded few =
    let here : columns_count d.parts.blocks ≤ (state_seen (base_seen t) v).spare + added_count (state_seen (base_seen t) v).writes = few 0 t v refl refl founded.0 (columns_count d.parts.blocks) refl in
    let long : length (columns_in d.parts) ≡ columns_count d.parts.blocks = columns_long d.parts.blocks in
    let rest = drain_few ts vs tables (omega (arith, count)) (omega (arith, seats)) founded.1 (λ place s w at was is n found. few (suc place) s w at was is n found) in
    omega (arith, here, long, rest, length-append (columns_in d.parts) (all_columns tables))
