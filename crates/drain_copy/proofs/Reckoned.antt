-- How long an image is, as it is reckoned and as it is defined.
use Rattle.std.proofs.Common.{◌≡◌, ℕ, ◌+◌, ◌^◌, ◌<◌, ◌≤◌, ◌||◌, Bool, true, false, List, [], ◌∷◌, length, map, refl, sym, ap, ap₂, ◌∙◌, subst, arith}
use Rattle.std.specs.Prelude.{nat_le, IsTrue}
use Rattle.std.specs.List.{list_any, sum}
use Rattle.std.proofs.lemmas.Bool.{or_left, or_from, le-leb, lt-leb, leb-false}
use Rattle.std.proofs.Math.Bool.{or-true}
use Rattle.std.proofs.lemmas.List.Sums.{sum_by-cons}
use Rattle.row_blocks.specs.declared.column.BlockColumn.{BlockColumn}
use Rattle.row_blocks.specs.Blocks.{Block}
use Rattle.row_blocks.specs.Held.{columns_count}
use Rattle.region_layout.specs.declared.drained.DrainTable.{DrainTable}
use Rattle.region_layout.specs.Drained.{column_entry, block_entry, table_entry, image_length, is_wide, has_no_room}
use Rattle.region_layout.specs.Written.{directory_bytes}
use Rattle.region_layout.proofs.Sizes.{place_size, block_size, table_size, directory_length as written_length}
use Rattle.drain_copy.specs.declared.sizes.Sizes.{Sizes}
use Rattle.drain_copy.specs.Planned.{columns_entries, blocks_entries, tables_entries, tables_count, tables_size, capped, Grew, HasRoom, places_from, blocks_from, tables_from, columns_size, blocks_size, planned_directory}
use Rattle.drain_copy.proofs.Laying.{tables_length}

sum_cons : (n : ℕ) (ns : List ℕ) → sum (n ∷ ns) ≡ n + sum ns
sum_cons n ns = sum_by-cons (λ (m : ℕ). m) n ns

-- ---- entries, as they are defined

columns_sum : (columns : List BlockColumn) → sum (map column_entry columns) ≡ columns_entries columns
columns_sum [] = refl
columns_sum (c ∷ columns) = sum_cons (column_entry c) (map column_entry columns) ∙ ap (λ (n : ℕ). column_entry c + n) (columns_sum columns)

blocks_sum : (blocks : List Block) → sum (map block_entry blocks) ≡ blocks_entries blocks
blocks_sum [] = refl
blocks_sum (b ∷ blocks) = sum_cons (block_entry b) (map block_entry blocks) ∙ ap₂ (λ (m n : ℕ). (8 + m) + n) (columns_sum b.columns) (blocks_sum blocks)

tables_sum : (tables : List DrainTable) → sum (map table_entry tables) ≡ tables_entries tables
tables_sum [] = refl
tables_sum (t ∷ tables) = sum_cons (table_entry t) (map table_entry tables) ∙ ap₂ (λ (m n : ℕ). (25 + length t.name + m) + n) (blocks_sum t.parts.blocks) (tables_sum tables)

pub image_length_is : (tables : List DrainTable) → image_length tables ≡ 16 + tables_size tables + (9 + tables_entries tables)
image_length_is tables = ap₂ (λ (m n : ℕ). 16 + m + (9 + n)) (tables_length tables) (tables_sum tables)

-- ---- and of the directory that is written

places_sum : (columns : List BlockColumn) (at : ℕ) → sum (map place_size (places_from at columns)) ≡ columns_entries columns
places_sum [] at = refl
places_sum (c ∷ columns) at =
    let later = at + length c.bytes in
    sum_cons (column_entry c) (map place_size (places_from later columns)) ∙ ap (λ (n : ℕ). column_entry c + n) (places_sum columns later)

block_places_sum : (blocks : List Block) (at : ℕ) → sum (map block_size (blocks_from at blocks)) ≡ blocks_entries blocks
block_places_sum [] at = refl
block_places_sum (b ∷ blocks) at =
    let later = at + columns_size b.columns in
    sum_cons (8 + sum (map place_size (places_from at b.columns))) (map block_size (blocks_from later blocks))
    ∙ ap₂ (λ (m n : ℕ). (8 + m) + n) (places_sum b.columns at) (block_places_sum blocks later)

table_places_sum : (tables : List DrainTable) (at : ℕ) → sum (map table_size (tables_from at tables)) ≡ tables_entries tables
table_places_sum [] at = refl
table_places_sum (t ∷ tables) at =
    let later = at + blocks_size t.parts.blocks in
    sum_cons (25 + length t.name + sum (map block_size (blocks_from at t.parts.blocks))) (map table_size (tables_from later tables))
    ∙ ap₂ (λ (m n : ℕ). (25 + length t.name + m) + n) (block_places_sum t.parts.blocks at) (table_places_sum tables later)

pub planned_length : (tables : List DrainTable) (log_end : ℕ) → length (directory_bytes (planned_directory tables log_end)) ≡ 9 + tables_entries tables
planned_length tables log_end = written_length (planned_directory tables log_end) ∙ ap (λ (n : ℕ). 9 + n) (table_places_sum tables 16)

-- ---- there are fewer columns than bytes of entries

columns_few : (columns : List BlockColumn) → length columns ≤ columns_entries columns
columns_few [] = omega arith
columns_few (c ∷ columns) = let more = columns_few columns in omega (arith, more)

blocks_few : (blocks : List Block) → columns_count blocks ≤ blocks_entries blocks
blocks_few [] = omega arith
blocks_few (b ∷ blocks) = let first = columns_few b.columns in let more = blocks_few blocks in omega (arith, first, more)

tables_few : (tables : List DrainTable) → tables_count tables ≤ tables_entries tables
tables_few [] = omega arith
tables_few (t ∷ tables) = let first = blocks_few t.parts.blocks in let more = tables_few tables in omega (arith, first, more)

-- ---- the test

pub wide_has_none : (tables : List DrainTable) → list_any is_wide tables ≡ true → IsTrue (has_no_room tables)
wide_has_none tables wide = ap (λ (b : Bool). nat_le (2 ^ 63) (image_length tables) || b) wide ∙ or-true (nat_le (2 ^ 63) (image_length tables))

pub sums_fit : (n columns bytes entries count size rest : ℕ) → capped columns ≡ capped (0 + count) → capped bytes ≡ capped (0 + size) → capped entries ≡ capped (9 + rest) → count ≤ rest
    → n ≡ capped (capped (bytes + entries) + 16) → n < 2 ^ 63 → (16 + size + (9 + rest) < 2 ^ 63) × (columns ≡ count) × (bytes ≡ size)
sums_fit n columns bytes entries count size rest a b c few is fits = (omega (arith, a, b, c, few, is, fits), omega (arith, a, b, c, few, is, fits), omega (arith, a, b, c, few, is, fits))

pub sums_pass : (n bytes entries size rest : ℕ) → capped bytes ≡ capped (0 + size) → capped entries ≡ capped (9 + rest) → n ≡ capped (capped (bytes + entries) + 16) → 2 ^ 63 ≤ n
    → 2 ^ 63 ≤ 16 + size + (9 + rest)
sums_pass n bytes entries size rest b c is passes = omega (arith, b, c, is, passes)

pub has_room : (tables : List DrainTable) (none sizes : Sizes) (n : ℕ) → none.columns ≡ 0 → none.bytes ≡ 0 → none.entries ≡ 9 → list_any is_wide tables ≡ false
    → Grew none sizes (tables_count tables) (tables_size tables) (tables_entries tables) → n ≡ capped (capped (sizes.bytes + sizes.entries) + 16) → n < 2 ^ 63 → HasRoom tables sizes
has_room tables none sizes n zero_columns zero_bytes nine narrow grew is fits =
    let size = tables_size tables in
    let rest = tables_entries tables in
    let a : capped sizes.columns ≡ capped (0 + tables_count tables) = grew.more_columns ∙ ap (λ (k : ℕ). capped (k + tables_count tables)) zero_columns in
    let b : capped sizes.bytes ≡ capped (0 + size) = grew.more_bytes ∙ ap (λ (k : ℕ). capped (k + size)) zero_bytes in
    let c : capped sizes.entries ≡ capped (9 + rest) = grew.more_entries ∙ ap (λ (k : ℕ). capped (k + rest)) nine in
    let all = sums_fit n sizes.columns sizes.bytes sizes.entries (tables_count tables) size rest a b c (tables_few tables) is fits in
    let short : image_length tables < 2 ^ 63 = subst (λ (k : ℕ). k < 2 ^ 63) (sym (image_length_is tables)) all.0 in
    record { room = or_from (nat_le (2 ^ 63) (image_length tables)) (list_any is_wide tables) (lt-leb (2 ^ 63) (image_length tables) short) narrow; columns = all.1; bytes = all.2 }

-- the sizes that were reckoned come to so much
pub too_long : (tables : List DrainTable) (none sizes : Sizes) (n : ℕ) → none.bytes ≡ 0 → none.entries ≡ 9
    → Grew none sizes (tables_count tables) (tables_size tables) (tables_entries tables) → n ≡ capped (capped (sizes.bytes + sizes.entries) + 16) → 2 ^ 63 ≤ n
    → 2 ^ 63 ≤ 16 + tables_size tables + (9 + tables_entries tables)
too_long tables none sizes n zero_bytes nine grew is passes =
    let size = tables_size tables in
    let rest = tables_entries tables in
    let b : capped sizes.bytes ≡ capped (0 + size) = grew.more_bytes ∙ ap (λ (k : ℕ). capped (k + size)) zero_bytes in
    let c : capped sizes.entries ≡ capped (9 + rest) = grew.more_entries ∙ ap (λ (k : ℕ). capped (k + rest)) nine in
    sums_pass n sizes.bytes sizes.entries size rest b c is passes

pub lacks_room : (tables : List DrainTable) (none sizes : Sizes) (n : ℕ) → none.bytes ≡ 0 → none.entries ≡ 9
    → Grew none sizes (tables_count tables) (tables_size tables) (tables_entries tables) → n ≡ capped (capped (sizes.bytes + sizes.entries) + 16) → 2 ^ 63 ≤ n → IsTrue (has_no_room tables)
lacks_room tables none sizes n zero_bytes nine grew is passes =
    let long : 2 ^ 63 ≤ image_length tables = subst (λ (k : ℕ). 2 ^ 63 ≤ k) (sym (image_length_is tables)) (too_long tables none sizes n zero_bytes nine grew is passes) in
    or_left (nat_le (2 ^ 63) (image_length tables)) (list_any is_wide tables) (le-leb (2 ^ 63) (image_length tables) long)

-- what an image is no longer than
pub short_of : (tables : List DrainTable) → has_no_room tables ≡ false → image_length tables < 2 ^ 63
short_of tables room = leb-false (2 ^ 63) (image_length tables) (left_false (nat_le (2 ^ 63) (image_length tables)) (list_any is_wide tables) room)
  where
    left_false : (a b : Bool) → (a || b) ≡ false → a ≡ false
    left_false false b e = refl
    left_false true b e = absurd cc

pub narrow_of : (tables : List DrainTable) → has_no_room tables ≡ false → list_any is_wide tables ≡ false
narrow_of tables room = right_false (nat_le (2 ^ 63) (image_length tables)) (list_any is_wide tables) room
  where
    right_false : (a b : Bool) → (a || b) ≡ false → b ≡ false
    right_false false b e = e
    right_false true b e = absurd cc
