-- The tables that all columns of an image make.
use Rattle.std.proofs.Common.{Err, List, Ok, Result, [], ℕ, ◌++◌, ◌<◌, ◌^◌, ◌∙◌, ◌∷◌, ◌≡◌, ap, append_assoc, ap₂, arith, drop, get_or, inl, length, map, refl, subst, suc, sym, take, true}
use Rattle.std.specs.Prelude.{Contains}
use Rattle.std.specs.List.{AllByRecursion, flat_map}
use Rattle.std.proofs.lemmas.List.{append-nil, map-append}
use Rattle.row_model.specs.Names.{AreDistinct}
use Rattle.region_layout.specs.Images.{TableImage}
use Rattle.column_bytes.specs.Column.{kind_in}
use Rattle.row_blocks.specs.declared.column.BlockColumn.{BlockColumn}
use Rattle.row_blocks.specs.Blocks.{Block}
use Rattle.region_layout.specs.declared.drained.DrainTable.{DrainTable}
use Rattle.region_layout.specs.declared.directory.Place.{Place}
use Rattle.region_layout.specs.declared.directory.BlockPlaces.{BlockPlaces}
use Rattle.region_layout.specs.declared.directory.TablePlaces.{TablePlaces}
use Rattle.region_layout.specs.declared.directory.Directory.{Directory}
use Rattle.region_layout.specs.Directory.{Joined, columns_of}
use Rattle.region_layout.specs.Region.{IsTableIn, allows, block_in, column_in, directory_from, parts_in}
use Rattle.region_layout.specs.Drained.{images_of}
use Rattle.region_layout.proofs.Ending.{table_columns}
use Rattle.region_layout.proofs.Images.{table_in}
use Rattle.table_state.specs.Tables.{IsParts}
use Rattle.region_reading.specs.declared.fault.AdoptFault.{AdoptFault}
use Rattle.region_reading.specs.declared.fault.AdoptFault.TheVariants as fault
use Rattle.adopt.specs.declared.found.AdoptStep.{AdoptStep}
use Rattle.adopt.specs.declared.found.AdoptStep.TheVariants as step
use Rattle.adopt.specs.Adopting.{Adopting, AdoptsOn, AreAdopted, IsLeftBehind}
use Rattle.adopt.specs.Finishing.{FinishesAs, IsMade, after_block, after_column, after_table, block_from, left_by, made_from, named_front, table_from, tables_from}
use Rattle.region_head.specs.Closing.{closed_flag}
use Rattle.region_reading.specs.Reading.{IsRead}
use Rattle.adopt.specs.Taken.{AdoptState}
use Rattle.adopt.proofs.Meanings.{each_table}
use Rattle.adopt.proofs.Heads.{left_cut}

-- the bytes of a column as an image has them
abbrev pub own_bytes : List ℕ → Place → List ℕ
own_bytes region p = (column_in region p).bytes

columns_in : (region : List ℕ) (ps : List Place) (more : List (List ℕ)) → made_from named_front after_column ps (map (own_bytes region) ps ++ more) ≡ map (column_in region) ps
columns_in region [] more = refl
columns_in region (p ∷ ps) more = ap (λ (l : List BlockColumn). column_in region p ∷ l) (columns_in region ps more)

columns_left : (region : List ℕ) (ps : List Place) (more : List (List ℕ)) → left_by after_column ps (map (own_bytes region) ps ++ more) ≡ more
columns_left region [] more = refl
columns_left region (p ∷ ps) more = columns_left region ps more

-- the bytes of some columns, and then those of others
two_parts : (region : List ℕ) (ps qs : List Place) (more : List (List ℕ)) → map (own_bytes region) (ps ++ qs) ++ more ≡ map (own_bytes region) ps ++ (map (own_bytes region) qs ++ more)
two_parts region ps qs more = ap (λ (l : List (List ℕ)). l ++ more) (map-append (own_bytes region) ps qs) ∙ append_assoc (map (own_bytes region) ps) (map (own_bytes region) qs) more

block_is : (region : List ℕ) (b : BlockPlaces) (more : List (List ℕ)) → block_from b (map (own_bytes region) b.columns ++ more) ≡ block_in region b
unfolding block_from
block_is region b more = ap (λ (l : List BlockColumn). record { rows = b.rows; columns = l }) (columns_in region b.columns more)

abbrev block_columns : List BlockPlaces → List Place
block_columns bs = flat_map (λ (b : BlockPlaces). b.columns) bs

blocks_in : (region : List ℕ) (bs : List BlockPlaces) (more : List (List ℕ)) → made_from block_from after_block bs (map (own_bytes region) (block_columns bs) ++ more) ≡ map (block_in region) bs
blocks_in region [] more = refl
blocks_in region (b ∷ bs) more =
    let others = map (own_bytes region) (block_columns bs) ++ more in
    ap (made_from block_from after_block (b ∷ bs)) (two_parts region b.columns (block_columns bs) more)
    ∙ ap₂ (λ (x : Block) (l : List Block). x ∷ l) (block_is region b others)
    (ap (made_from block_from after_block bs) (columns_left region b.columns others) ∙ blocks_in region bs more)

blocks_left : (region : List ℕ) (bs : List BlockPlaces) (more : List (List ℕ)) → left_by after_block bs (map (own_bytes region) (block_columns bs) ++ more) ≡ more
blocks_left region [] more = refl
blocks_left region (b ∷ bs) more =
    let others = map (own_bytes region) (block_columns bs) ++ more in
    ap (left_by after_block (b ∷ bs)) (two_parts region b.columns (block_columns bs) more)
    ∙ ap (left_by after_block bs) (columns_left region b.columns others) ∙ blocks_left region bs more

-- a table of an image as it comes out of it
abbrev pub drained : List ℕ → TablePlaces → DrainTable
drained region t = record { name = t.name; parts = parts_in region t }

table_is : (region : List ℕ) (t : TablePlaces) (more : List (List ℕ)) → table_from t (map (own_bytes region) (table_columns t) ++ more) ≡ drained region t
table_is region t more =
    ap (λ (l : List Block). record { name = t.name; parts = record { horizon = t.horizon; writes = t.writes; skip = t.skip; blocks = l } }) (blocks_in region t.blocks more)

tables_more : (region : List ℕ) (ts : List TablePlaces) (more : List (List ℕ)) → tables_from ts (map (own_bytes region) (flat_map table_columns ts) ++ more) ≡ map (drained region) ts
tables_more region [] more = refl
tables_more region (t ∷ ts) more =
    let others = map (own_bytes region) (flat_map table_columns ts) ++ more in
    ap (tables_from (t ∷ ts)) (two_parts region (table_columns t) (flat_map table_columns ts) more)
    ∙ ap₂ (λ (x : DrainTable) (l : List DrainTable). x ∷ l) (table_is region t others)
    (ap (tables_from ts) (blocks_left region t.blocks others) ∙ tables_more region ts more)

pub tables_are : (region : List ℕ) (d : Directory) → tables_from d.tables (map (own_bytes region) (columns_of d)) ≡ map (drained region) d.tables
tables_are region d = ap (tables_from d.tables) (sym (append-nil (map (own_bytes region) (columns_of d)))) ∙ tables_more region d.tables []

-- ---- they are the tables of the image

abbrev pub AreAllowed : ℕ → List (List ℕ) → Type 0
AreAllowed version columns = AllByRecursion (λ (bytes : List ℕ). allows version (kind_in bytes) ≡ true) columns

both_allowed : (version : ℕ) (region : List ℕ) (ps qs : List Place) → AreAllowed version (map (own_bytes region) (ps ++ qs)) → AreAllowed version (map (own_bytes region) ps) × AreAllowed version (map (own_bytes region) qs)
both_allowed version region [] qs each = (tt, each)
both_allowed version region (p ∷ ps) qs each = let rest = both_allowed version region ps qs each.1 in ((each.0, rest.0), rest.1)

columns_allowed : (version : ℕ) (region : List ℕ) (ps : List Place) → AreAllowed version (map (own_bytes region) ps) → AllByRecursion (λ (c : BlockColumn). allows version (kind_in c.bytes) ≡ true) (map (column_in region) ps)
columns_allowed version region [] each = tt
columns_allowed version region (p ∷ ps) each = (each.0, columns_allowed version region ps each.1)

blocks_allowed : (version : ℕ) (region : List ℕ) (bs : List BlockPlaces) → AreAllowed version (map (own_bytes region) (block_columns bs))
    → AllByRecursion (λ (b : Block). AllByRecursion (λ (c : BlockColumn). allows version (kind_in c.bytes) ≡ true) b.columns) (map (block_in region) bs)
blocks_allowed version region [] each = tt
blocks_allowed version region (b ∷ bs) each =
    let both = both_allowed version region b.columns (block_columns bs) each in
    (columns_allowed version region b.columns both.0, blocks_allowed version region bs both.1)

each_in : (version : ℕ) (region : List ℕ) (ts : List TablePlaces) → AllByRecursion IsMade (map (drained region) ts) → AreAllowed version (map (own_bytes region) (flat_map table_columns ts)) → AllByRecursion (IsTableIn version region) ts
each_in version region [] each kinds = tt
each_in version region (t ∷ ts) each kinds =
    let both = both_allowed version region (table_columns t) (flat_map table_columns ts) kinds in
    (record { parts = each.0; kinds = blocks_allowed version region t.blocks both.0 }, each_in version region ts each.1 both.1)

each_made : (version : ℕ) (region : List ℕ) (ts : List TablePlaces) → AllByRecursion (IsTableIn version region) ts → AllByRecursion IsMade (map (drained region) ts)
each_made version region [] each = tt
each_made version region (t ∷ ts) each = (each.0.parts, each_made version region ts each.1)

parts_made : (region : List ℕ) (ts : List TablePlaces) → AllByRecursion (λ (t : TablePlaces). IsParts (parts_in region t)) ts → AllByRecursion IsMade (map (drained region) ts)
parts_made region [] each = tt
parts_made region (t ∷ ts) each = (each.0, parts_made region ts each.1)

images_are : (region : List ℕ) (ts : List TablePlaces) → images_of (map (drained region) ts) ≡ map (table_in region) ts
images_are region [] = refl
images_are region (t ∷ ts) = ap (λ (l : List TableImage). table_in region t ∷ l) (images_are region ts)

first_place : (from to : ℕ) (ps : List Place) → Joined from ps to → get_or (map (λ (p : Place). p.place) ps) 0 to ≡ from
first_place from to [] at = sym at
first_place from to (p ∷ ps) at = at.0

-- Of an image all columns were taken.
module _ (region now : List ℕ) (a : AdoptState) (adopting : Adopting region a now) (none : a.left ≡ 0) where
  heap_is : a.heap ≡ map (own_bytes region) (columns_of a.directory)
  heap_is = adopting.heap ∙ ap (λ (n : ℕ). drop n (map (own_bytes region) (columns_of a.directory))) none

  made_is : tables_from a.directory.tables a.heap ≡ map (drained region) a.directory.tables
  made_is = ap (tables_from a.directory.tables) heap_is ∙ tables_are region a.directory

  left : IsLeftBehind region now
  left =
      let start = ap (λ (n : ℕ). get_or (map (λ (p : Place). p.place) (columns_of a.directory)) n (directory_from region)) none ∙ first_place 16 (directory_from region) (columns_of a.directory) adopting.has.itself.joined in
      subst (IsLeftBehind region) (sym (adopting.rest ∙ ap (λ (n : ℕ). take n (closed_flag region)) start)) (left_cut 16 region a.version (omega arith) adopting.has.head)

  pub finishes : (result : Result AdoptStep AdoptFault) → FinishesAs a.directory a.heap result → AdoptsOn region a now result
  finishes (Ok (step.Finished tables log_end)) made =
      let same = made.0 ∙ made_is in (
        record {
          version = a.version;
          reads_it = adopting.reads_it;
          is = record {
            directory = a.directory;
            has = adopting.has;
            each = each_in a.version region a.directory.tables (subst (AllByRecursion IsMade) same made.1) (subst (AreAllowed a.version) heap_is adopting.kinds);
            tables_are = ap images_of same ∙ images_are region a.directory.tables;
            log_end_is = made.2;
          };
        },
        left,
      )
  finishes (Ok step.NoImage) refused = (
    inl (none, λ parts. refused (subst (AllByRecursion IsMade) (sym made_is) (parts_made region a.directory.tables parts))),
    (λ images log_end is. refused (subst (AllByRecursion IsMade) (sym made_is) (each_made a.version region a.directory.tables (each_table a.version region a.directory images log_end adopting.has is)))),
    left,
  )
  finishes (Ok (step.More b)) made = absurd made
  finishes (Err fault.RegionFault) made = absurd made
  finishes (Err fault.NoMemory) made = left

-- ---- on every berth

made_names : (ts : List TablePlaces) (heap : List (List ℕ)) → map (λ (t : DrainTable). t.name) (tables_from ts heap) ≡ map (λ (t : TablePlaces). t.name) ts
made_names [] heap = refl
made_names (t ∷ ts) heap = ap (λ (l : List (List ℕ)). t.name ∷ l) (made_names ts (after_table t heap))

made_count : (ts : List TablePlaces) (heap : List (List ℕ)) → length (tables_from ts heap) ≡ length ts
made_count [] heap = refl
made_count (t ∷ ts) heap = ap suc (made_count ts (after_table t heap))

made_known : (names : List (List ℕ)) (ts : List TablePlaces) (heap : List (List ℕ)) → AllByRecursion (λ (t : TablePlaces). Contains names t.name) ts → AllByRecursion (λ (t : DrainTable). Contains names t.name) (tables_from ts heap)
made_known names [] heap each = tt
made_known names (t ∷ ts) heap each = (each.0, made_known names ts (after_table t heap) each.1)

made_writes : (ts : List TablePlaces) (heap : List (List ℕ)) → AllByRecursion (λ (t : TablePlaces). t.writes < 2 ^ 63) ts → AllByRecursion (λ (t : DrainTable). t.parts.writes < 2 ^ 63) (tables_from ts heap)
made_writes [] heap each = tt
made_writes (t ∷ ts) heap each = (each.0, made_writes ts (after_table t heap) each.1)

pub are_adopted : (names : List (List ℕ)) (d : Directory) (place : ℕ) (heap : List (List ℕ)) (result : Result AdoptStep AdoptFault) → IsRead place d → AllByRecursion (λ (t : TablePlaces). Contains names t.name) d.tables
    → FinishesAs d heap result → AreAdopted names result
are_adopted names d place heap (Ok (step.Finished tables log_end)) read known made = (
  record {
    few = let count = ap length made.0 ∙ made_count d.tables heap in let few = read.few in omega (arith, count, few);
    distinct = subst AreDistinct (sym (ap (map (λ (t : DrainTable). t.name)) made.0 ∙ made_names d.tables heap)) read.itself.distinct;
    known = subst (AllByRecursion (λ (t : DrainTable). Contains names t.name)) (sym made.0) (made_known names d.tables heap known);
    parts = made.1;
    writes = subst (AllByRecursion (λ (t : DrainTable). t.parts.writes < 2 ^ 63)) (sym made.0) (made_writes d.tables heap read.writes);
  },
  subst (λ (n : ℕ). n < 2 ^ 63) (sym made.2) read.log_end,
)
are_adopted names d place heap (Ok step.NoImage) read known made = tt
are_adopted names d place heap (Ok (step.More a)) read known made = tt
are_adopted names d place heap (Err e) read known made = tt
