-- What each turn does to the object that the turnstile guards.
use Rattle.std.specs.Prelude.{◌≡◌, ◌+◌, ◌<◌, ◌≤◌, ◌^◌, true, false, List, length, Option, Some, None}
use Rattle.std.specs.List.{AllByRecursion}
use Rattle.row_model.specs.declared.rows.Row.{Row}
use Rattle.leaf_model.specs.declared.queries.Query.{Query}
use Rattle.leaf_model.specs.declared.writes.Write.{Write}
use Rattle.leaf_model.specs.declared.writes.Write.TheVariants.{Add}
use Rattle.leaf_model.specs.Content.{kept_count, late_count, removed_count}
use Rattle.leaf_model.specs.Groups.{groups}
use Rattle.row_blocks.specs.Held.{rows_and_cells}
use Rattle.table_state.specs.Tables.{IsHeld, bare, columns_most, table_with_write, empty_table}
use Rattle.group_table.specs.Joined.{IsWithin}
use Rattle.leaf_table.specs.declared.turns.TurnAnswer.{TurnAnswer}
use Rattle.leaf_table.specs.declared.turns.TurnAnswer.TheVariants.{Added, Removed, Groups, Shut, Full, NoMemory, Took, Closed, Noted}
use Rattle.leaf_table.specs.declared.value.LeafTable.{LeafTable}

-- an add: rows are added if the table is open and has room for them; else nothing changes
abbrev pub AddsTo : LeafTable → List Row → TurnAnswer → LeafTable → Type 0
AddsTo v rows (Added kept late) w = (v.live ≡ true) × (length v.table.contents.rows + kept_count v.table.contents rows ≤ 2 ^ 40) × (kept ≡ kept_count v.table.contents rows) × (late ≡ late_count v.table.contents rows) × (w.name ≡ v.name) × (w.live ≡ v.live) × (bare w.table ≡ table_with_write v.name v.table (Add rows))
    × (columns_most w.table.store ≤ columns_most v.table.store + rows_and_cells rows)
AddsTo v rows Full w = (v.live ≡ true) × (2 ^ 40 < length v.table.contents.rows + kept_count v.table.contents rows) × (w ≡ v)
AddsTo v rows NoMemory w = (v.live ≡ true) × (w ≡ v)
AddsTo v rows Shut w = (v.live ≡ false) × (w ≡ v)
AddsTo v rows (Removed n) w = ⊥
AddsTo v rows (Groups gs) w = ⊥
AddsTo v rows (Took writes pending) w = ⊥
AddsTo v rows (Closed table) w = ⊥
AddsTo v rows Noted w = ⊥

-- an expiry or a keep: rows are removed if the table is open; else nothing changes
abbrev pub RemovesFrom : LeafTable → Write → TurnAnswer → LeafTable → Type 0
RemovesFrom v write (Removed n) w = (v.live ≡ true) × (n ≡ removed_count v.table.contents write) × (w.name ≡ v.name) × (w.live ≡ v.live) × (bare w.table ≡ table_with_write v.name v.table write)
    × (columns_most w.table.store ≤ columns_most v.table.store)
RemovesFrom v write NoMemory w = (v.live ≡ true) × (w ≡ v)
RemovesFrom v write Shut w = (v.live ≡ false) × (w ≡ v)
RemovesFrom v write (Added kept late) w = ⊥
RemovesFrom v write Full w = ⊥
RemovesFrom v write (Groups gs) w = ⊥
RemovesFrom v write (Took writes pending) w = ⊥
RemovesFrom v write (Closed table) w = ⊥
RemovesFrom v write Noted w = ⊥

-- an ask: the groups of the rows if the table is open; these rows are ones that a table may hold
abbrev pub AsksOf : LeafTable → Option Query → TurnAnswer → Type 0
AsksOf v copy (Groups gs) = (v.live ≡ true) × (q : Query) × (copy ≡ Some q) × (gs ≡ groups q v.table.contents.rows) × IsHeld v.table.contents × AllByRecursion (IsWithin (length v.table.contents.rows)) gs
AsksOf v copy NoMemory = v.live ≡ true
AsksOf v copy Shut = v.live ≡ false
AsksOf v copy (Added kept late) = ⊥
AsksOf v copy (Removed n) = ⊥
AsksOf v copy Full = ⊥
AsksOf v copy (Took writes pending) = ⊥
AsksOf v copy (Closed table) = ⊥
AsksOf v copy Noted = ⊥

-- a take: the record of the writes that were not taken is given out
abbrev pub TakesFrom : LeafTable → TurnAnswer → LeafTable → Type 0
TakesFrom v a w = (a ≡ Took v.table.writes v.table.pending) × (w ≡ record v { table = record v.table { pending = None } })

-- a shut: the table is given out, and an empty one is left
abbrev pub Shuts : LeafTable → TurnAnswer → LeafTable → Type 0
Shuts v a w = (a ≡ Closed v.table) × (w ≡ record v { live = false; table = empty_table })
