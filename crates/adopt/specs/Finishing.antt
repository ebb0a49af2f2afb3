-- The tables that columns on the heap make, by a directory.
use Rattle.std.specs.Prelude.{◌≡◌, ℕ, ◌≤◌, List, [], ◌∷◌, ◌++◌, length, drop, get_or, ℤ, Result, Ok, Err}
use Rattle.std.specs.List.{AllByRecursion}
use Rattle.row_blocks.specs.declared.column.BlockColumn.{BlockColumn}
use Rattle.row_blocks.specs.Blocks.{Block}
use Rattle.row_blocks.specs.Held.{blocks_held}
use Rattle.region_layout.specs.declared.drained.DrainTable.{DrainTable}
use Rattle.table_state.specs.Tables.{IsParts}
use Rattle.region_layout.specs.declared.directory.Place.{Place}
use Rattle.region_layout.specs.declared.directory.BlockPlaces.{BlockPlaces}
use Rattle.region_layout.specs.declared.directory.TablePlaces.{TablePlaces}
use Rattle.region_layout.specs.declared.directory.Directory.{Directory}
use Rattle.region_reading.specs.declared.fault.AdoptFault.{AdoptFault}
use Rattle.region_reading.specs.declared.fault.AdoptFault.TheVariants as fault
use Rattle.adopt.specs.declared.found.AdoptStep.{AdoptStep}
use Rattle.adopt.specs.declared.found.AdoptStep.TheVariants as step

-- the first column, or an empty one if there is none
abbrev pub front_of : List (List ℕ) → List ℕ
front_of columns = get_or columns 0 []

-- ---- things that are made one after another, each of the first columns that the ones before left

abbrev pub made_from : {T M : Type 0} → (T → List (List ℕ) → M) → (T → List (List ℕ) → List (List ℕ)) → List T → List (List ℕ) → List M
made_from one after [] columns = []
made_from one after (t ∷ ts) columns = one t columns ∷ made_from one after ts (after t columns)

abbrev pub left_by : {T : Type 0} → (T → List (List ℕ) → List (List ℕ)) → List T → List (List ℕ) → List (List ℕ)
left_by after [] columns = columns
left_by after (t ∷ ts) columns = left_by after ts (after t columns)

-- a column
abbrev pub named_front : Place → List (List ℕ) → BlockColumn
named_front p columns = record { name = p.name; bytes = front_of columns }

abbrev pub after_column : Place → List (List ℕ) → List (List ℕ)
after_column p columns = drop 1 columns

-- a block, opaque, so that no search sees its columns
unfoldable pub block_from : BlockPlaces → List (List ℕ) → Block
block_from b columns = record { rows = b.rows; columns = made_from named_front after_column b.columns columns }

abbrev pub after_block : BlockPlaces → List (List ℕ) → List (List ℕ)
after_block b columns = left_by after_column b.columns columns

-- a table
abbrev pub table_from : TablePlaces → List (List ℕ) → DrainTable
table_from t columns = record { name = t.name; parts = record { horizon = t.horizon; writes = t.writes; skip = t.skip; blocks = made_from block_from after_block t.blocks columns } }

abbrev pub after_table : TablePlaces → List (List ℕ) → List (List ℕ)
after_table t columns = left_by after_block t.blocks columns

-- all tables
abbrev pub tables_from : List TablePlaces → List (List ℕ) → List DrainTable
tables_from tables columns = made_from table_from after_table tables columns

abbrev pub IsMade : DrainTable → Type 0
IsMade t = IsParts t.parts

-- the tables of a directory, made of its columns; or no tables may be made of them
abbrev pub FinishesAs : Directory → List (List ℕ) → Result AdoptStep AdoptFault → Type 0
FinishesAs d columns (Ok (step.Finished tables log_end)) = (tables ≡ tables_from d.tables columns) × AllByRecursion IsMade tables × (log_end ≡ d.log_end)
FinishesAs d columns (Ok step.NoImage) = AllByRecursion IsMade (tables_from d.tables columns) → ⊥
FinishesAs d columns (Ok (step.More a)) = ⊥
FinishesAs d columns (Err fault.RegionFault) = ⊥
FinishesAs d columns (Err fault.NoMemory) = Unit {0}

-- the number of live rows of the blocks
unfoldable pub live_count : List Block → ℕ → ℤ → ℕ
live_count blocks cut horizon = length (blocks_held blocks cut horizon)

-- things that are made one after another: some are made, the others are left
pub record MadeSoFar {T M : Type 0} (one : T → List (List ℕ) → M) (after : T → List (List ℕ) → List (List ℕ)) (P : M → Type 0) (all : List T) (columns : List (List ℕ)) (made : List M) (rest : List T) (left : List (List ℕ)) : Type 0 where
  pub made_is : made ++ made_from one after rest left ≡ made_from one after all columns
  pub left_is : left_by after rest left ≡ left_by after all columns
  pub each : AllByRecursion P made
