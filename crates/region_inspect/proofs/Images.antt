-- Tables out of their blocks, and an image out of its tables.
use Rattle.std.proofs.Common.{◌≡◌, ℕ, ◌+◌, ◌<◌, ◌≤◌, ◌^◌, true, List, [], ◌∷◌, ◌++◌, map, ℤ, refl, sym, ap, subst, ◌∙◌, arith}
use Rattle.std.specs.List.{AllByRecursion, AllZip, flat_map, sum}
use Rattle.std.proofs.lemmas.List.{append_assoc}
use Rattle.std.proofs.lemmas.List.Sums.{sum_by-cons}
use Rattle.row_blocks.specs.Held.{IsSkip}
use Rattle.table_state.specs.Tables.{most_rows}
use Rattle.region_layout.specs.declared.directory.Place.{Place}
use Rattle.region_layout.specs.declared.directory.BlockPlaces.{BlockPlaces}
use Rattle.region_layout.specs.declared.directory.TablePlaces.{TablePlaces}
use Rattle.region_layout.specs.declared.directory.Directory.{Directory}
use Rattle.region_layout.specs.Directory.{IsBlockPlaces, IsDirectory, IsSkipOf, IsTablePlaces, Joined, columns_of}
use Rattle.region_layout.specs.Region.{HasDirectory, IsTableIn, image_of_parts, parts_in, reads}
use Rattle.adopt.specs.Adopting.{IsNoImage}
use Rattle.adopt.proofs.Counting.{count_is, parts_give, parts_of}
use Rattle.adopt.proofs.Meanings.{each_table}
use Rattle.region_inspect.specs.declared.seen.BlockLine.{BlockLine}
use Rattle.region_inspect.specs.declared.seen.TableLine.{TableLine}
use Rattle.region_inspect.specs.Shows.{ShowsImage, ShowsTable}
use Rattle.region_inspect.specs.Inspecting.{AllBlocksTold, AreNone, HasNone, IsNone, IsSmall, IsSmallTable, TableIs, TablesSoFar, blocks_in}

-- ---- a table

skip_in : (region : List ℕ) (skip : ℕ) (bs : List BlockPlaces) → IsSkipOf skip bs → IsSkip skip (blocks_in region bs)
skip_in region skip [] is = is
skip_in region skip (b ∷ bs) is = is

pub table_is : (version : ℕ) (region : List ℕ) (t : TablePlaces) → IsTablePlaces t → (h : ℤ) → h ≡ t.horizon → (rows : ℕ) (lines : List BlockLine) → AllBlocksTold version region t.blocks t.skip t.horizon rows lines → rows ≤ most_rows
    → TableIs version region t (record { name = t.name; rows = rows; writes = t.writes; horizon = h; blocks = lines })
table_is version region t rules h same rows lines counted few = record {
  is = record {
    parts = parts_of (parts_in region t) rules.horizon counted.blocks (skip_in region t.skip t.blocks rules.skip, (let all = counted.rows_are in omega (arith, all, few)));
    kinds = counted.kinds;
  };
  shows = record {
    name = refl;
    rows = counted.rows_are ∙ count_is (blocks_in region t.blocks) t.skip t.horizon;
    writes = refl;
    horizon = same;
    blocks = counted.lines_are;
  };
}

pub none_is : (version : ℕ) (region : List ℕ) (t : TablePlaces) → AreNone version region t.blocks t.skip t.horizon → IsNone version region t
none_is version region t none = λ is. none is.parts.blocks is.kinds (parts_give (parts_in region t) is.parts).1

-- ---- tables one after another

zip_push : {A B : Type 0} (R : A → B → Type 0) (xs : List A) (ys : List B) (x : A) (y : B) → AllZip R xs ys → R x y → AllZip R (xs ++ x ∷ []) (ys ++ y ∷ [])
zip_push R [] [] x y h r = (r, tt)
zip_push R [] (b ∷ ys) x y h r = absurd h
zip_push R (a ∷ xs) [] x y h r = absurd h
zip_push R (a ∷ xs) (b ∷ ys) x y h r = (h.0, zip_push R xs ys x y h.1 r)

table_here : (region : List ℕ) (version : ℕ) (done : List TablePlaces) (t : TablePlaces) (rest : List TablePlaces) → AllByRecursion (IsTableIn version region) (done ++ t ∷ rest) → IsTableIn version region t
table_here region version [] t rest each = each.0
table_here region version (d ∷ done) t rest each = table_here region version done t rest each.1

module _ (version : ℕ) (region : List ℕ) (all : List TablePlaces) (lines : List TableLine) (rest rest' : List TablePlaces) (t : TablePlaces) (so_far : TablesSoFar version region all lines rest) (is : rest ≡ t ∷ rest') where
  all_is : so_far.done ++ t ∷ rest' ≡ all
  all_is = ap (λ (ts : List TablePlaces). so_far.done ++ ts) (sym is) ∙ so_far.split

  pub has_none : IsNone version region t → HasNone version region all
  has_none none = λ each. none (table_here region version so_far.done t rest' (subst (AllByRecursion (IsTableIn version region)) (sym all_is) each))

  pub table_more : (line : TableLine) → TableIs version region t line → TablesSoFar version region all (lines ++ line ∷ []) rest'
  table_more line one = record {
    done = so_far.done ++ t ∷ [];
    split = append_assoc so_far.done (t ∷ []) rest' ∙ all_is;
    each = zip_push (TableIs version region) so_far.done lines t line so_far.each one;
  }

-- ---- an image

zip_is : (region : List ℕ) (version : ℕ) (ts : List TablePlaces) (lines : List TableLine) → AllZip (TableIs version region) ts lines → AllByRecursion (IsTableIn version region) ts
zip_is region version [] lines each = tt
zip_is region version (t ∷ ts) [] each = absurd each
zip_is region version (t ∷ ts) (l ∷ ls) each = (each.0.is, zip_is region version ts ls each.1)

zip_shows : (version : ℕ) (region : List ℕ) (ts : List TablePlaces) (lines : List TableLine) → AllZip (TableIs version region) ts lines → AllZip (ShowsTable region) ts lines
zip_shows version region [] [] each = tt
zip_shows version region [] (l ∷ ls) each = absurd each
zip_shows version region (t ∷ ts) [] each = absurd each
zip_shows version region (t ∷ ts) (l ∷ ls) each = (each.0.shows, zip_shows version region ts ls each.1)

pub shows_image : (region : List ℕ) (version : ℕ) (d : Directory) (lines : List TableLine) → reads version ≡ true → HasDirectory version region d → AllZip (TableIs version region) d.tables lines → ShowsImage region version d.log_end lines
shows_image region version d lines read has each = record {
  images = map (λ (t : TablePlaces). image_of_parts t.name (parts_in region t)) d.tables;
  reads_it = read;
  image = record { directory = d; has = has; each = zip_is region version d.tables lines each; tables_are = refl; log_end_is = refl };
  tables = zip_shows version region d.tables lines each;
}

pub no_image : (region : List ℕ) (version : ℕ) (d : Directory) → HasDirectory version region d → HasNone version region d.tables → IsNoImage region
no_image region version d has none = λ images log_end is. none (each_table version region d images log_end has is)

-- ---- the bytes of a block's columns are below the directory's place

total : List Place → ℕ
total [] = 0
total (p ∷ ps) = p.length + total ps

total_is : (ps : List Place) → sum (map (λ (p : Place). p.length) ps) ≡ total ps
unfolding total
total_is [] = refl
total_is (p ∷ ps) = sum_by-cons (λ (n : ℕ). n) p.length (map (λ (q : Place). q.length) ps) ∙ ap (λ (n : ℕ). p.length + n) (total_is ps)

total_both : (ps qs : List Place) → total (ps ++ qs) ≡ total ps + total qs
unfolding total
total_both [] qs = omega arith
total_both (p ∷ ps) qs = let more = total_both ps qs in omega (arith, more)

joined_total : (from to : ℕ) (ps : List Place) → Joined from ps to → from + total ps ≡ to
unfolding total
joined_total from to [] is = omega (arith, is)
joined_total from to (p ∷ ps) is = let more = joined_total (from + p.length) to ps is.1 in omega (arith, more)

abbrev of_blocks : List BlockPlaces → List Place
of_blocks bs = flat_map (λ (b : BlockPlaces). b.columns) bs

blocks_small : (bs : List BlockPlaces) → AllByRecursion IsBlockPlaces bs → total (of_blocks bs) < 2 ^ 64 → AllByRecursion IsSmall bs
blocks_small [] each few = tt
blocks_small (b ∷ bs) each few =
    let both = total_both b.columns (of_blocks bs) in
    let own = total_is b.columns in
    (record { is = each.0; size = omega (arith, both, own, few) }, blocks_small bs each.1 (omega (arith, both, few)))

tables_small : (ts : List TablePlaces) → AllByRecursion IsTablePlaces ts → total (flat_map (λ (t : TablePlaces). of_blocks t.blocks) ts) < 2 ^ 64 → AllByRecursion IsSmallTable ts
tables_small [] each few = tt
tables_small (t ∷ ts) each few =
    let both = total_both (of_blocks t.blocks) (flat_map (λ (u : TablePlaces). of_blocks u.blocks) ts) in
    (record { is = each.0; small = blocks_small t.blocks each.0.blocks (omega (arith, both, few)) }, tables_small ts each.1 (omega (arith, both, few)))

pub all_small : (place : ℕ) (d : Directory) → IsDirectory place d → AllByRecursion IsSmallTable d.tables
all_small place d is =
    let low = is.low in
    let sum_is = joined_total 16 place (columns_of d) is.joined in
    tables_small d.tables is.each (omega (arith, low, sum_is))
