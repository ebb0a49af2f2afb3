-- A table of an image that holds no rows has no columns.
use Rattle.std.proofs.Common.{◌≡◌, ◌∙◌, ℕ, zero, suc, ◌<◌, Bool, true, false, cond, List, [], ◌∷◌, ◌++◌, length, map, drop, ℤ, pos, Option, Some, refl, sym, ap, subst, arith, length-append, append-nil}
use Rattle.std.specs.Prelude.{◌≤ℤ◌, int_le, unwrap_or}
use Rattle.std.specs.List.{AllByRecursion, find}
use Rattle.std.proofs.lemmas.Bool.{false≢true, true_from_ne_false}
use Rattle.std.proofs.lemmas.Int.{ints}
use Rattle.std.proofs.lemmas.List.{length-drop}
use Rattle.std.proofs.ByRecursion.{All-append}
use Rattle.row_model.specs.declared.rows.Row.{Row}
use Rattle.row_model.specs.Values.{IsRow}
use Rattle.leaf_model.specs.Content.{Contents, nothing, rows_from}
use Rattle.row_blocks.specs.Blocks.{Block, IsBlock, rows_in}
use Rattle.row_blocks.specs.Held.{IsSkip, block_rows, columns_count, rows_held}
use Rattle.row_blocks.proofs.LivePlaces.{counted}
use Rattle.table_state.specs.Tables.{IsParts}
use Rattle.table_state.specs.declared.parts.Parts.{Parts}
use Rattle.region_layout.specs.declared.directory.TablePlaces.{TablePlaces}
use Rattle.region_layout.specs.Images.{TableImage, contents_of, empty_image, is_named, table_named}
use Rattle.region_layout.specs.Region.{IsImage, IsTableIn, image_of_parts, parts_in}

-- ---- blocks

-- no time is below the first
no_earlier : (t : ℤ) → pos 0 ≤ℤ t → int_le (pos 0) t ≡ true
no_earlier t low = true_from_ne_false (int_le (pos 0) t) (λ no. omega (arith, ints, low, no))

blocks_each : (blocks : List Block) → AllByRecursion IsBlock blocks → AllByRecursion IsRow (block_rows blocks)
blocks_each [] all = tt
blocks_each (b ∷ blocks) all = All-append IsRow (rows_in b) (block_rows blocks) all.0.rows_are (blocks_each blocks all.1)

left_of : (n : ℕ) (rows : List Row) → AllByRecursion IsRow rows → AllByRecursion IsRow (drop n rows)
left_of zero rows each = each
left_of (suc n) [] each = tt
left_of (suc n) (row ∷ rows) each = left_of n rows each.1

one_stays : (row : Row) (b : Bool) (rest rows : List Row) → int_le (pos 0) row.time ≡ b → int_le (pos 0) row.time ≡ true → rest ≡ rows → cond b (row ∷ rest) rest ≡ row ∷ rows
one_stays row true rest rows here held same = ap (λ (l : List Row). row ∷ l) same
one_stays row false rest rows here held same = absurd (false≢true (sym here ∙ held))

-- so no row is below the first horizon
all_stay : (rows : List Row) → AllByRecursion IsRow rows → rows_from (pos 0) rows ≡ rows
all_stay [] each = refl
all_stay (row ∷ rows) each = one_stays row (int_le (pos 0) row.time) (rows_from (pos 0) rows) rows refl (no_earlier row.time each.0.time.0) (all_stay rows each.1)

-- blocks have a row that is not cut off
none_in : (blocks : List Block) (skip : ℕ) → AllByRecursion IsBlock blocks → IsSkip skip blocks → rows_held blocks [] skip (pos 0) ≡ [] → columns_count blocks ≡ 0
none_in [] skip each cut none = refl
none_in (b ∷ blocks) skip each cut none =
    let left : List Row = drop skip (block_rows (b ∷ blocks)) in
    let valid : AllByRecursion IsRow (left ++ []) = subst (AllByRecursion IsRow) (sym (append-nil left)) (left_of skip (block_rows (b ∷ blocks)) (blocks_each (b ∷ blocks) each)) in
    let empty : left ++ [] ≡ [] = sym (all_stay (left ++ []) valid) ∙ none in
    let count : length left ≡ 0 = ap (λ (l : List Row). length l) (sym (append-nil left) ∙ empty) in
    absurd (omega (arith, count, length-drop skip (block_rows (b ∷ blocks)), length-append (rows_in b) (block_rows blocks), counted b, cut))

-- ---- tables

-- without rows, and with the first horizon, there are no columns
abbrev IsBare : TableImage → Type 0
IsBare t = contents_of t ≡ nothing → t.columns ≡ 0

bare_parts : (name : List ℕ) (p : Parts) → IsParts p → IsBare (image_of_parts name p)
bare_parts name p is none =
    let horizon : p.horizon ≡ pos 0 = ap (λ (c : Contents). c.horizon) none in
    none_in p.blocks p.skip is.blocks is.skip (subst (λ (h : ℤ). rows_held p.blocks [] p.skip h ≡ []) horizon (ap (λ (c : Contents). c.rows) none))

all_bare : (version : ℕ) (region : List ℕ) (places : List TablePlaces) → AllByRecursion (IsTableIn version region) places
    → AllByRecursion IsBare (map (λ (t : TablePlaces). image_of_parts t.name (parts_in region t)) places)
all_bare version region [] each = tt
all_bare version region (t ∷ places) each = (bare_parts t.name (parts_in region t) each.0.parts, all_bare version region places each.1)

named_bare : (images : List TableImage) (name : List ℕ) → AllByRecursion IsBare images → IsBare (table_named images name)
named_bare [] name each = λ none. refl
named_bare (t ∷ images) name each = by (is_named name t) each.0 (named_bare images name each.1)
  where
    by : (b : Bool) → IsBare t → IsBare (table_named images name) → IsBare (unwrap_or (cond b (Some t) (find (is_named name) images)) (empty_image name))
    by true here rest = here
    by false here rest = rest

pub no_columns : (version : ℕ) (region : List ℕ) (images : List TableImage) (log_end : ℕ) → IsImage version region images log_end → (name : List ℕ)
    → contents_of (table_named images name) ≡ nothing → (table_named images name).columns ≡ 0
no_columns version region images log_end is name =
    named_bare images name (subst (AllByRecursion IsBare) (sym is.tables_are) (all_bare version region is.directory.tables is.each))
