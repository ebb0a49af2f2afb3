-- A directory that keeps its rules has room for its fields.
use Rattle.std.proofs.Common.{ℕ, ◌+◌, ◌<◌, ◌≤◌, ◌^◌, List, [], ◌∷◌, ◌++◌, length, sym, subst, rules, arith}
use Rattle.std.specs.List.{flat_map, AllByRecursion}
use Rattle.std.proofs.lemmas.List.Concat.{flat_map-cons}
use Rattle.row_model.specs.Values.{IsCellName, time_name}
use Rattle.region_layout.specs.Names.{IsName}
use Rattle.region_layout.specs.declared.directory.Place.{Place}
use Rattle.region_layout.specs.declared.directory.BlockPlaces.{BlockPlaces}
use Rattle.region_layout.specs.declared.directory.TablePlaces.{TablePlaces}
use Rattle.region_layout.specs.declared.directory.Directory.{Directory}
use Rattle.region_layout.specs.Directory.{AreColumns, IsBlockPlaces, IsSkipOf, IsTablePlaces, Joined, IsDirectory, columns_of}
use Rattle.region_layout.specs.Written.{PlaceFits, BlockFits, TableFits, MayBeWritten}
use Rattle.region_layout.proofs.Ending.{joined_up, table_columns}

-- ---- lists

both_each : {A : Type 0} (P Q R : A → Type 0) → ((x : A) → P x → Q x → R x) → (xs : List A) → AllByRecursion P xs → AllByRecursion Q xs → AllByRecursion R xs
both_each P Q R one [] first second = tt
both_each P Q R one (x ∷ xs) first second = (one x first.0 second.0, both_each P Q R one xs first.1 second.1)

each_front : {A : Type 0} (P : A → Type 0) (xs ys : List A) → AllByRecursion P (xs ++ ys) → AllByRecursion P xs
each_front P [] ys all = tt
each_front P (x ∷ xs) ys all = (all.0, each_front P xs ys all.1)

each_behind : {A : Type 0} (P : A → Type 0) (xs ys : List A) → AllByRecursion P (xs ++ ys) → AllByRecursion P ys
each_behind P [] ys all = all
each_behind P (x ∷ xs) ys all = each_behind P xs ys all.1

each_part : {A B : Type 0} (P : B → Type 0) (parts : A → List B) (xs : List A) → AllByRecursion P (flat_map parts xs) → AllByRecursion (λ (x : A). AllByRecursion P (parts x)) xs
each_part P parts [] all = tt
each_part P parts (x ∷ xs) all =
    let split = subst (AllByRecursion P) (flat_map-cons parts x xs) all in
    (each_front P (parts x) (flat_map parts xs) split, each_part P parts xs (each_behind P (parts x) (flat_map parts xs) split))

-- ---- columns end before the directory

abbrev EndsBefore : ℕ → Place → Type 0
EndsBefore place p = p.place + p.length ≤ place

joined_before : (from place : ℕ) (ps : List Place) → Joined from ps place → AllByRecursion (EndsBefore place) ps
joined_before from place [] joined = tt
joined_before from place (p ∷ ps) joined = (omega (arith, joined.0, joined_up (from + p.length) place ps joined.1), joined_before (from + p.length) place ps joined.1)

-- ---- room

time_named : IsName time_name
time_named = (search rules, omega arith)

some_columns : (columns : List Place) → AreColumns columns → 0 < length columns
some_columns [] are = absurd are
some_columns (times ∷ others) are = omega arith

skip_fits : (skip : ℕ) (blocks : List BlockPlaces) → IsSkipOf skip blocks → AllByRecursion IsBlockPlaces blocks → skip < 2 ^ 32
skip_fits skip [] is each = omega (arith, is)
skip_fits skip (b ∷ blocks) is each = omega (arith, is, each.0.few)

module _ (place : ℕ) (low : place < 2 ^ 64) where
  cell_fits : (p : Place) → IsCellName p.name → EndsBefore place p → PlaceFits p
  cell_fits p is before = record { name = (is.text, is.short); place = omega (arith, before, low); length = omega (arith, before, low) }

  columns_fit : (columns : List Place) → AreColumns columns → AllByRecursion (EndsBefore place) columns → AllByRecursion PlaceFits columns
  columns_fit [] are before = tt
  columns_fit (times ∷ others) are before = (
    record { name = subst IsName (sym are.0) time_named; place = omega (arith, before.0, low); length = omega (arith, before.0, low) },
    both_each (λ (p : Place). IsCellName p.name) (EndsBefore place) PlaceFits cell_fits others are.1 before.1,
  )

  block_fits : (b : BlockPlaces) → IsBlockPlaces b → AllByRecursion (EndsBefore place) b.columns → BlockFits b
  block_fits b is before = record { some = is.some; few = is.few; columned = some_columns b.columns is.columns; count = is.count; each = columns_fit b.columns is.columns before }

  table_fits : (t : TablePlaces) → IsTablePlaces t → AllByRecursion (EndsBefore place) (table_columns t) → TableFits t
  table_fits t is before = record {
    name = is.name;
    horizon = is.horizon;
    writes = is.writes;
    skip = skip_fits t.skip t.blocks is.skip is.blocks;
    count = is.count;
    each = both_each IsBlockPlaces (λ (b : BlockPlaces). AllByRecursion (EndsBefore place) b.columns) BlockFits block_fits t.blocks is.blocks (each_part (EndsBefore place) (λ (b : BlockPlaces). b.columns) t.blocks before);
  }

pub may_be_written : (place : ℕ) (d : Directory) → IsDirectory place d → MayBeWritten d
may_be_written place d is =
    let before = each_part (EndsBefore place) table_columns d.tables (joined_before 16 place (columns_of d) is.joined) in
    record {
      log_end = is.log_end;
      few = is.few;
      each = both_each IsTablePlaces (λ (t : TablePlaces). AllByRecursion (EndsBefore place) (table_columns t)) TableFits (table_fits place is.low) d.tables is.each before;
    }
