-- How many bytes a directory takes.
use Rattle.std.proofs.Common.{◌≡◌, ℕ, ◌+◌, ◌*◌, ◌/◌, ◌≤◌, ◌<◌, List, [], ◌∷◌, ◌++◌, length, map, None, refl, ap, length-append, arith}
use Rattle.std.specs.List.{flat_map, sum, AllByRecursion}
use Rattle.std.proofs.lemmas.List.Concat.{flat_map-cons}
use Rattle.std.proofs.lemmas.List.Sums.{sum-map, sum_by-cons}
use Rattle.leaf_model.specs.Bytes.{i64_bytes, u32_bytes, u64_bytes, IsBytes}
use Rattle.leaf_model.specs.Reading.{many_at}
use Rattle.region_layout.specs.declared.directory.Place.{Place}
use Rattle.region_layout.specs.declared.directory.BlockPlaces.{BlockPlaces}
use Rattle.region_layout.specs.declared.directory.TablePlaces.{TablePlaces}
use Rattle.region_layout.specs.declared.directory.Directory.{Directory}
use Rattle.region_layout.specs.Directory.{place_at, block_at}
use Rattle.region_layout.specs.Written.{place_bytes, block_bytes, table_bytes, directory_bytes, PlaceFits, BlockFits}
use Rattle.region_layout.proofs.Repeating.{too_few}
use Rattle.region_layout.proofs.Entries.{place_takes, block_takes}

abbrev pub place_size : Place → ℕ
place_size p = 17 + length p.name

abbrev pub block_size : BlockPlaces → ℕ
block_size b = 8 + sum (map place_size b.columns)

abbrev pub table_size : TablePlaces → ℕ
table_size t = 25 + length t.name + sum (map block_size t.blocks)

flat_size : {A : Type 0} (text : A → List ℕ) (size : A → ℕ) → ((x : A) → length (text x) ≡ size x) → (xs : List A) → length (flat_map text xs) ≡ sum (map size xs)
flat_size text size each [] = refl
flat_size text size each (x ∷ xs) = omega (arith, ap length (flat_map-cons text x xs), length-append (text x) (flat_map text xs), each x, flat_size text size each xs, sum-map size (x ∷ xs), sum_by-cons size x xs, sum-map size xs)

pub place_length : (p : Place) → length (place_bytes p) ≡ place_size p
unfolding place_bytes
place_length p = omega (arith, length-append p.name (u64_bytes p.place ++ u64_bytes p.length))

pub block_length : (b : BlockPlaces) → length (block_bytes b) ≡ block_size b
unfolding block_bytes
block_length b = omega (arith, flat_size place_bytes place_size place_length b.columns)

pub table_length : (t : TablePlaces) → length (table_bytes t) ≡ table_size t
unfolding table_bytes
table_length t =
    omega (
      arith,
      length-append t.name (i64_bytes t.horizon ++ (u64_bytes t.writes ++ (u32_bytes t.skip ++ (u32_bytes (length t.blocks) ++ flat_map block_bytes t.blocks)))),
      flat_size block_bytes block_size block_length t.blocks,
    )

pub directory_length : (d : Directory) → length (directory_bytes d) ≡ 9 + sum (map table_size d.tables)
unfolding directory_bytes
directory_length d = omega (arith, flat_size table_bytes table_size table_length d.tables)

-- ---- at least

places_least : (places : List Place) → 17 * length places ≤ length (flat_map place_bytes places)
places_least [] = omega arith
places_least (p ∷ places) = omega (arith, ap length (flat_map-cons place_bytes p places), length-append (place_bytes p) (flat_map place_bytes places), place_length p, places_least places)

block_least : (b : BlockPlaces) → BlockFits b → 25 ≤ length (block_bytes b)
unfolding block_bytes
block_least b fits = omega (arith, places_least b.columns, fits.columned)

blocks_least : (blocks : List BlockPlaces) → AllByRecursion BlockFits blocks → 25 * length blocks ≤ length (flat_map block_bytes blocks)
blocks_least [] each = omega arith
blocks_least (b ∷ blocks) each = omega (arith, ap length (flat_map-cons block_bytes b blocks), length-append (block_bytes b) (flat_map block_bytes blocks), block_least b each.0, blocks_least blocks each.1)

-- so few bytes are not so many columns, or blocks
pub few_for_places : (count : ℕ) (bytes : List ℕ) → IsBytes bytes → length bytes / 17 < count → many_at place_at count bytes ≡ None
few_for_places count bytes fits few =
    too_few place_at place_bytes PlaceFits place_takes count bytes fits (λ items each n. omega (arith, few, n, places_least items))

pub few_for_blocks : (count : ℕ) (bytes : List ℕ) → IsBytes bytes → length bytes / 25 < count → many_at block_at count bytes ≡ None
few_for_blocks count bytes fits few =
    too_few block_at block_bytes BlockFits block_takes count bytes fits (λ items each n. omega (arith, few, n, blocks_least items each))
