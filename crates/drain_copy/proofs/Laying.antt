-- An image read by the directory that was planned for it.
use Rattle.std.proofs.Common.{◌≡◌, ℕ, ◌+◌, ◌<◌, ◌^◌, true, List, [], ◌∷◌, ◌++◌, length, map, take, drop, refl, sym, ap, ap₂, ◌∙◌, subst, arith, append_assoc, length-append}
use Rattle.std.proofs.Math.Seq.{take-append_seam, drop-append_seam}
use Rattle.std.proofs.Math.Nat.{add-sub_cancel_left}
use Rattle.std.specs.Prelude.{not, slice_range}
use Rattle.std.specs.List.{AllByRecursion, flat_map}
use Rattle.std.specs.List.Sorted.{IsStrictlySortedBy}
use Rattle.std.specs.declared.cmp.Ordering.{Ordering}
use Rattle.std.specs.declared.cmp.Ordering.TheVariants.{Less, Equal, Greater}
use Rattle.std.specs.Ordering.{is_gt, ordering_then}
use Rattle.row_model.specs.Names.{AreDistinct}
use Rattle.row_model.specs.Values.{IsCellName}
use Rattle.row_model.specs.Texts.{text_cmp}
use Rattle.column_bytes.specs.Coding.{joined}
use Rattle.column_bytes.specs.declared.kind.Kind.{Kind}
use Rattle.column_bytes.specs.declared.kind.Kind.TheVariants.{Ints, Texts, Sets}
use Rattle.column_bytes.specs.Column.{kind_in}
use Rattle.row_blocks.specs.declared.column.BlockColumn.{BlockColumn}
use Rattle.row_blocks.specs.Blocks.{Block, IsBlock, IsOther}
use Rattle.row_blocks.specs.Headings.{heading, heading_cmp}
use Rattle.row_blocks.specs.Held.{IsSkip, columns_count}
use Rattle.table_state.specs.Tables.{IsParts}
use Rattle.region_layout.specs.declared.directory.Place.{Place}
use Rattle.region_layout.specs.declared.directory.BlockPlaces.{BlockPlaces}
use Rattle.region_layout.specs.declared.directory.TablePlaces.{TablePlaces}
use Rattle.region_layout.specs.declared.drained.DrainTable.{DrainTable}
use Rattle.region_layout.specs.Directory.{Joined, AreColumns, IsBlockPlaces, IsSkipOf, IsTablePlaces, IsDirectory}
use Rattle.region_layout.specs.Drained.{all_columns, images_of}
use Rattle.region_layout.specs.Region.{column_in, block_in, parts_in, allows, layout, IsTableIn, image_of_parts}
use Rattle.region_layout.specs.Written.{BlockFits, TableFits, MayBeWritten}
use Rattle.region_layout.proofs.Ending.{table_columns}
use Rattle.region_layout.proofs.Following.{InOrder, none_in_order, one_in_order, more_in_order}
use Rattle.region_layout.proofs.Images.{table_in}
use Rattle.drain_copy.specs.Planned.{columns_bytes, blocks_bytes, columns_size, blocks_size, tables_size, tables_count, places_from, blocks_from, table_from, tables_from, planned_directory}

-- ---- lengths

pub joined_both : (xs ys : List (List ℕ)) → joined (xs ++ ys) ≡ joined xs ++ joined ys
joined_both [] ys = refl
joined_both (x ∷ xs) ys = ap (λ (l : List ℕ). x ++ l) (joined_both xs ys) ∙ sym (append_assoc x (joined xs) (joined ys))

pub columns_length : (columns : List BlockColumn) → length (joined (columns_bytes columns)) ≡ columns_size columns
columns_length [] = refl
columns_length (c ∷ columns) = length-append c.bytes (joined (columns_bytes columns)) ∙ ap (λ (n : ℕ). length c.bytes + n) (columns_length columns)

pub blocks_length : (blocks : List Block) → length (joined (blocks_bytes blocks)) ≡ blocks_size blocks
blocks_length [] = refl
blocks_length (b ∷ blocks) =
    ap (λ (l : List ℕ). length l) (joined_both (columns_bytes b.columns) (blocks_bytes blocks))
    ∙ length-append (joined (columns_bytes b.columns)) (joined (blocks_bytes blocks)) ∙ ap₂ (λ (m n : ℕ). m + n) (columns_length b.columns) (blocks_length blocks)

pub tables_length : (tables : List DrainTable) → length (joined (all_columns tables)) ≡ tables_size tables
tables_length [] = refl
tables_length (t ∷ tables) =
    ap (λ (l : List ℕ). length l) (joined_both (blocks_bytes t.parts.blocks) (all_columns tables))
    ∙ length-append (joined (blocks_bytes t.parts.blocks)) (joined (all_columns tables)) ∙ ap₂ (λ (m n : ℕ). m + n) (blocks_length t.parts.blocks) (tables_length tables)

-- ---- the columns are found again

there : (front bytes back region : List ℕ) (at : ℕ) → region ≡ front ++ (bytes ++ back) → length front ≡ at → slice_range region at (at + length bytes) ≡ bytes
there front bytes back region at is long =
    let behind : drop at region ≡ bytes ++ back = ap₂ (λ (n : ℕ) (l : List ℕ). drop n l) (sym long) is ∙ drop-append_seam front (bytes ++ back) in
    ap₂ (λ (n : ℕ) (l : List ℕ). take n l) (add-sub_cancel_left at (length bytes)) behind ∙ take-append_seam bytes back

-- the region with its first part cut off
shifted : (front first rest back region : List ℕ) → region ≡ front ++ ((first ++ rest) ++ back) → region ≡ (front ++ first) ++ (rest ++ back)
shifted front first rest back region is = is ∙ ap (λ (l : List ℕ). front ++ l) (append_assoc first rest back) ∙ sym (append_assoc front first (rest ++ back))

longer : (front first : List ℕ) (at n : ℕ) → length front ≡ at → length first ≡ n → length (front ++ first) ≡ at + n
longer front first at n a b = length-append front first ∙ ap₂ (λ (x y : ℕ). x + y) a b

pub columns_back : (columns : List BlockColumn) (front back region : List ℕ) (at : ℕ) → region ≡ front ++ (joined (columns_bytes columns) ++ back) → length front ≡ at
    → map (column_in region) (places_from at columns) ≡ columns
columns_back [] front back region at is long = refl
columns_back (c ∷ columns) front back region at is long =
    let rest = joined (columns_bytes columns) in
    let whole : region ≡ front ++ (c.bytes ++ (rest ++ back)) = is ∙ ap (λ (l : List ℕ). front ++ l) (append_assoc c.bytes rest back) in
    let first : slice_range region at (at + length c.bytes) ≡ c.bytes = there front c.bytes (rest ++ back) region at whole long in
    let others = columns_back columns (front ++ c.bytes) back region (at + length c.bytes) (shifted front c.bytes rest back region is) (longer front c.bytes at (length c.bytes) long refl) in
    ap₂ (λ (bytes : List ℕ) (cs : List BlockColumn). record { name = c.name; bytes = bytes } ∷ cs) first others

-- the region of two lists of columns, one behind the other
split : (front : List ℕ) (xs ys : List (List ℕ)) (back region : List ℕ) → region ≡ front ++ (joined (xs ++ ys) ++ back) → region ≡ front ++ ((joined xs ++ joined ys) ++ back)
split front xs ys back region is = is ∙ ap (λ (l : List ℕ). front ++ (l ++ back)) (joined_both xs ys)

pub blocks_back : (blocks : List Block) (front back region : List ℕ) (at : ℕ) → region ≡ front ++ (joined (blocks_bytes blocks) ++ back) → length front ≡ at
    → map (block_in region) (blocks_from at blocks) ≡ blocks
blocks_back [] front back region at is long = refl
blocks_back (b ∷ blocks) front back region at is long =
    let mine = joined (columns_bytes b.columns) in
    let rest = joined (blocks_bytes blocks) in
    let parts : region ≡ front ++ ((mine ++ rest) ++ back) = split front (columns_bytes b.columns) (blocks_bytes blocks) back region is in
    let first = columns_back b.columns front (rest ++ back) region at (parts ∙ ap (λ (l : List ℕ). front ++ l) (append_assoc mine rest back)) long in
    let others = blocks_back blocks (front ++ mine) back region (at + columns_size b.columns) (shifted front mine rest back region parts) (longer front mine at (columns_size b.columns) long (columns_length b.columns)) in
    ap₂ (λ (cs : List BlockColumn) (bs : List Block). record { rows = b.rows; columns = cs } ∷ bs) first others

-- ---- and the tables

allows_kind : (kind : Kind) → allows layout kind ≡ true
allows_kind Ints = refl
allows_kind Texts = refl
allows_kind Sets = refl

allows_columns : (columns : List BlockColumn) → AllByRecursion (λ (c : BlockColumn). allows layout (kind_in c.bytes) ≡ true) columns
allows_columns [] = tt
allows_columns (c ∷ columns) = (allows_kind (kind_in c.bytes), allows_columns columns)

allows_blocks : (blocks : List Block) → AllByRecursion (λ (b : Block). AllByRecursion (λ (c : BlockColumn). allows layout (kind_in c.bytes) ≡ true) b.columns) blocks
allows_blocks [] = tt
allows_blocks (b ∷ blocks) = (allows_columns b.columns, allows_blocks blocks)

abbrev pub AreBack : List ℕ → ℕ → List DrainTable → Type 0
AreBack region at tables = AllByRecursion (IsTableIn layout region) (tables_from at tables) × (images_of tables ≡ map (table_in region) (tables_from at tables))

parts_back : (t : DrainTable) (region : List ℕ) (at : ℕ) → map (block_in region) (blocks_from at t.parts.blocks) ≡ t.parts.blocks → parts_in region (table_from at t) ≡ t.parts
parts_back t region at is = ap (λ (bs : List Block). record { horizon = t.parts.horizon; writes = t.parts.writes; skip = t.parts.skip; blocks = bs }) is

pub tables_back : (tables : List DrainTable) (front back region : List ℕ) (at : ℕ) → region ≡ front ++ (joined (all_columns tables) ++ back) → length front ≡ at
    → AllByRecursion (λ (t : DrainTable). IsParts t.parts) tables → AreBack region at tables
tables_back [] front back region at is long each = (tt, refl)
tables_back (t ∷ tables) front back region at is long each =
    let mine = joined (blocks_bytes t.parts.blocks) in
    let rest = joined (all_columns tables) in
    let parts : region ≡ front ++ ((mine ++ rest) ++ back) = split front (blocks_bytes t.parts.blocks) (all_columns tables) back region is in
    let blocks = blocks_back t.parts.blocks front (rest ++ back) region at (parts ∙ ap (λ (l : List ℕ). front ++ l) (append_assoc mine rest back)) long in
    let first : parts_in region (table_from at t) ≡ t.parts = parts_back t region at blocks in
    let others = tables_back tables (front ++ mine) back region (at + blocks_size t.parts.blocks) (shifted front mine rest back region parts)
    (longer front mine at (blocks_size t.parts.blocks) long (blocks_length t.parts.blocks)) each.1 in (
      (record { parts = subst IsParts (sym first) each.0; kinds = allows_blocks (parts_in region (table_from at t)).blocks }, others.0),
      ap₂ (λ x xs. x ∷ xs) (ap (image_of_parts t.name) (sym first)) others.1,
    )

-- ---- the directory keeps its own rules

joined_on : (xs ys : List Place) (a b c : ℕ) → Joined a xs b → Joined b ys c → Joined a (xs ++ ys) c
joined_on [] ys a b c first rest = subst (λ (n : ℕ). Joined n ys c) (sym first) rest
joined_on (p ∷ xs) ys a b c first rest = (first.0, joined_on xs ys (a + p.length) b c first.1 rest)

columns_joined : (columns : List BlockColumn) (at : ℕ) → Joined at (places_from at columns) (at + columns_size columns)
columns_joined [] at = omega arith
columns_joined (c ∷ columns) at =
    let more : at + length c.bytes + columns_size columns ≡ at + (length c.bytes + columns_size columns) = omega arith in
    (refl, subst (λ (n : ℕ). Joined (at + length c.bytes) (places_from (at + length c.bytes) columns) n) more (columns_joined columns (at + length c.bytes)))

blocks_joined : (blocks : List Block) (at : ℕ) → Joined at (flat_map (λ (b : BlockPlaces). b.columns) (blocks_from at blocks)) (at + blocks_size blocks)
blocks_joined [] at = omega arith
blocks_joined (b ∷ blocks) at =
    let middle = at + columns_size b.columns in
    let more : middle + blocks_size blocks ≡ at + (columns_size b.columns + blocks_size blocks) = omega arith in
    let others = flat_map (λ (p : BlockPlaces). p.columns) (blocks_from middle blocks) in
    subst (λ (n : ℕ). Joined at (places_from at b.columns ++ others) n) more
    (joined_on (places_from at b.columns) others at middle (middle + blocks_size blocks) (columns_joined b.columns at) (blocks_joined blocks middle))

tables_joined : (tables : List DrainTable) (at : ℕ) → Joined at (flat_map table_columns (tables_from at tables)) (at + tables_size tables)
tables_joined [] at = omega arith
tables_joined (t ∷ tables) at =
    let middle = at + blocks_size t.parts.blocks in
    let more : middle + tables_size tables ≡ at + (blocks_size t.parts.blocks + tables_size tables) = omega arith in
    let others = flat_map table_columns (tables_from middle tables) in
    let mine = table_columns (table_from at t) in
    subst (λ (n : ℕ). Joined at (mine ++ others) n) more
    (joined_on mine others at middle (middle + tables_size tables) (blocks_joined t.parts.blocks at) (tables_joined tables middle))

names_kept : (tables : List DrainTable) (at : ℕ) → map (λ (t : TablePlaces). t.name) (tables_from at tables) ≡ map (λ (t : DrainTable). t.name) tables
names_kept [] at = refl
names_kept (t ∷ tables) at = ap (λ (names : List (List ℕ)). t.name ∷ names) (names_kept tables (at + blocks_size t.parts.blocks))

not_greater : (a b : Ordering) → ordering_then a b ≡ Less → not (is_gt a) ≡ true
not_greater Less b e = refl
not_greater Equal b e = refl
not_greater Greater b e = absurd cc

-- a column that stands there
abbrev placed : ℕ → BlockColumn → Place
placed at c = record { name = c.name; place = at; length = length c.bytes }

in_order : (columns : List BlockColumn) (at : ℕ) → IsStrictlySortedBy heading_cmp (map heading columns) → InOrder (places_from at columns)
unfolding IsStrictlySortedBy
in_order [] at sorted = none_in_order
in_order (c ∷ []) at sorted = one_in_order (placed at c)
in_order (c ∷ d ∷ rest) at sorted =
    let next = at + length c.bytes in
    more_in_order (placed at c) (placed next d) (places_from (next + length d.bytes) rest) (not_greater (text_cmp c.name d.name) _ sorted.0.0) (in_order (d ∷ rest) next sorted.1)

cells_named : (rows : ℕ) (columns : List BlockColumn) (at : ℕ) → AllByRecursion (IsOther rows) columns → AllByRecursion (λ (p : Place). IsCellName p.name) (places_from at columns)
cells_named rows [] at each = tt
cells_named rows (c ∷ columns) at each = (each.0.name, cells_named rows columns (at + length c.bytes) each.1)

are_columns : (b : Block) (at : ℕ) → IsBlock b → AreColumns (places_from at b.columns)
are_columns b at is =
    subst (λ (cs : List BlockColumn). AreColumns (places_from at cs)) (sym is.columns_are)
    (is.timed.name, cells_named b.rows is.others (at + length is.times.bytes) is.each, in_order is.others (at + length is.times.bytes) is.ascend)

blocks_ruled : (blocks : List Block) (at : ℕ) → AllByRecursion IsBlock blocks → AllByRecursion BlockFits (blocks_from at blocks) → AllByRecursion IsBlockPlaces (blocks_from at blocks)
blocks_ruled [] at each fits = tt
blocks_ruled (b ∷ blocks) at each fits =
    (record { some = fits.0.some; few = fits.0.few; count = fits.0.count; columns = are_columns b at each.0 }, blocks_ruled blocks (at + columns_size b.columns) each.1 fits.1)

skip_kept : (skip : ℕ) (blocks : List Block) (at : ℕ) → IsSkip skip blocks → IsSkipOf skip (blocks_from at blocks)
skip_kept skip [] at is = is
skip_kept skip (b ∷ blocks) at is = is

tables_ruled : (tables : List DrainTable) (at : ℕ) → AllByRecursion (λ (t : DrainTable). IsParts t.parts) tables → AllByRecursion TableFits (tables_from at tables) → AllByRecursion IsTablePlaces (tables_from at tables)
tables_ruled [] at each fits = tt
tables_ruled (t ∷ tables) at each fits = (
  record {
    name = fits.0.name;
    horizon = fits.0.horizon;
    writes = fits.0.writes;
    skip = skip_kept t.parts.skip t.parts.blocks at each.0.skip;
    count = fits.0.count;
    blocks = blocks_ruled t.parts.blocks at each.0.blocks fits.0.each;
  },
  tables_ruled tables (at + blocks_size t.parts.blocks) each.1 fits.1,
)

pub is_directory : (tables : List DrainTable) (log_end place : ℕ) → AreDistinct (map (λ (t : DrainTable). t.name) tables) → AllByRecursion (λ (t : DrainTable). IsParts t.parts) tables
    → MayBeWritten (planned_directory tables log_end) → place ≡ 16 + tables_size tables → place < 2 ^ 64 → IsDirectory place (planned_directory tables log_end)
is_directory tables log_end place distinct each fits is low = record {
  low = low;
  log_end = fits.log_end;
  few = fits.few;
  distinct = subst AreDistinct (sym (names_kept tables 16)) distinct;
  each = tables_ruled tables 16 each fits.each;
  joined = subst (λ (n : ℕ). Joined 16 (flat_map table_columns (tables_from 16 tables)) n) (sym is) (tables_joined tables 16);
}

-- ---- columns that are moved

pub moved_on : (out now : List (List ℕ)) (t : DrainTable) (rest tables : List DrainTable) (blocks : List Block) (whole : List (List ℕ)) → blocks ≡ t.parts.blocks → now ≡ out ++ blocks_bytes blocks → tables ≡ t ∷ rest
    → out ++ all_columns tables ≡ whole → now ++ all_columns rest ≡ whole
moved_on out now t rest tables blocks whole same is before so_far =
    ap (λ (l : List (List ℕ)). l ++ all_columns rest) (is ∙ ap (λ (bs : List Block). out ++ blocks_bytes bs) same) ∙ append_assoc out (blocks_bytes t.parts.blocks) (all_columns rest)
    ∙ ap (λ (ts : List DrainTable). out ++ all_columns ts) (sym before) ∙ so_far

pub counted_on : (out now : ℕ) (t : DrainTable) (rest tables : List DrainTable) (blocks : List Block) (whole : ℕ) → blocks ≡ t.parts.blocks → now ≡ out + columns_count blocks → tables ≡ t ∷ rest
    → out + tables_count tables ≡ whole → now + tables_count rest ≡ whole
counted_on out now t rest tables blocks whole same is before so_far =
    let first : columns_count blocks ≡ columns_count t.parts.blocks = ap (λ (bs : List Block). columns_count bs) same in
    let all : tables_count tables ≡ columns_count t.parts.blocks + tables_count rest = ap (λ (ts : List DrainTable). tables_count ts) before in
    omega (arith, first, all, is, so_far)
