-- A directory that is read is the directory that was written, and what was written is read again.
use Rattle.std.proofs.Common.{◌≡◌, ℕ, ◌^◌, ◌<◌, ◌≤◌, ◌||◌, true, false, Bool, cond, ltb, eqb, List, [], ◌∷◌, ◌++◌, length, Some, None, refl, sym, ap, subst, ◌∙◌, append_assoc, append-nil, arith}
use Rattle.std.specs.Prelude.{ℤ}
use Rattle.std.specs.List.{flat_map, AllByRecursion}
use Rattle.std.specs.Str.{IsUtf8}
use Rattle.std.specs.Int.{w32, w64}
use Rattle.std.proofs.lemmas.Bool.{ltb-false, le-ltb, eqb-true, eqb-false}
use Rattle.row_model.specs.Values.{IsTime}
use Rattle.leaf_model.specs.Bytes.{name_bytes, i64_bytes, u32_bytes, u64_bytes, IsBytes}
use Rattle.leaf_model.specs.Reading.{◌>>=◌, byte_at, many_at, number_at, name_at, time_at}
use Rattle.leaf_model.proofs.Fields.{bind_some, passed, held, some_is, Takes, Takes-then, wide32, wide64, byte_takes, number_takes, number_again, name_takes, name_again, time_takes, time_again}
use Rattle.region_layout.specs.Reading.{below_2_63_at}
use Rattle.region_layout.proofs.Numbers.{low_takes, low_again}
use Rattle.region_layout.specs.declared.directory.Place.{Place}
use Rattle.region_layout.specs.declared.directory.BlockPlaces.{BlockPlaces}
use Rattle.region_layout.specs.declared.directory.TablePlaces.{TablePlaces}
use Rattle.region_layout.specs.declared.directory.Directory.{Directory}
use Rattle.region_layout.specs.Directory.{place_at, block_at, table_at, directory_at}
use Rattle.region_layout.specs.Written.{place_bytes, block_bytes, table_bytes, directory_bytes, PlaceFits, BlockFits, TableFits, MayBeWritten}
use Rattle.region_layout.proofs.Repeating.{items_take, items_again}

-- ---- columns

abbrev pub made_place : List ℕ → ℕ → ℕ → Place
made_place name place size = record { name = name; place = place; length = size }

place_made : (bytes : List ℕ) (name : List ℕ × List ℕ) (place size : ℕ × List ℕ)
    → Takes bytes (name_bytes name.0) name.1 × (length name.0 ≤ 255) × IsUtf8 name.0
    → Takes name.1 (u64_bytes place.0) place.1 × (place.0 < 2 ^ 64)
    → Takes place.1 (u64_bytes size.0) size.1 × (size.0 < 2 ^ 64)
    → Takes bytes (place_bytes (made_place name.0 place.0 size.0)) size.1 × PlaceFits (made_place name.0 place.0 size.0)
unfolding place_bytes
place_made bytes name place size first second third =
    let last_two = Takes-then name.1 (u64_bytes place.0) place.1 (u64_bytes size.0) size.1 second.0 third.0 in
    let all = Takes-then bytes (name_bytes name.0) name.1 (u64_bytes place.0 ++ u64_bytes size.0) size.1 first.0 last_two in
    (all, record { name = (first.2, first.1); place = second.1; length = third.1 })

pub place_takes : (bytes : List ℕ) (x : Place × List ℕ) → IsBytes bytes → place_at bytes ≡ Some x → Takes bytes (place_bytes x.0) x.1 × PlaceFits x.0
unfolding place_at
place_takes bytes x fits e =
    let a = bind_some (name_at bytes) (λ name. number_at w64 name.1 >>= λ place. number_at w64 place.1 >>= λ size. Some (made_place name.0 place.0 size.0, size.1)) x e in
    let b = bind_some (number_at w64 a.0.1) (λ place. number_at w64 place.1 >>= λ size. Some (made_place a.0.0 place.0 size.0, size.1)) x a.2 in
    let c = bind_some (number_at w64 b.0.1) (λ size. Some (made_place a.0.0 b.0.0 size.0, size.1)) x b.2 in
    let first = name_takes bytes a.0 fits a.1 in
    let second = number_takes w64 (2 ^ 64) wide64 a.0.1 b.0 first.0.rest_fits b.1 in
    let third = number_takes w64 (2 ^ 64) wide64 b.0.1 c.0 second.0.rest_fits c.1 in
    let made : Place × List ℕ = (made_place a.0.0 b.0.0 c.0.0, c.0.1) in
    subst (λ (y : Place × List ℕ). Takes bytes (place_bytes y.0) y.1 × PlaceFits y.0) (some_is made x c.2) (place_made bytes a.0 b.0 c.0 first second third)

pub place_again : (p : Place) (rest : List ℕ) → PlaceFits p → place_at (place_bytes p ++ rest) ≡ Some (p, rest)
unfolding place_at place_bytes
place_again p rest fits =
    let sized = u64_bytes p.length ++ rest in
    let regrouped : place_bytes p ++ rest ≡ name_bytes p.name ++ (u64_bytes p.place ++ sized) = append_assoc (name_bytes p.name) (u64_bytes p.place ++ u64_bytes p.length) rest in
    ap place_at regrouped ∙ rw (name_again p.name (u64_bytes p.place ++ sized) fits.name.0, number_again w64 (2 ^ 64) wide64 p.place sized fits.place, number_again w64 (2 ^ 64) wide64 p.length rest fits.length) refl

-- ---- blocks

-- no block
abbrev pub is_none : ℕ → ℕ → Bool
is_none rows count = eqb rows 0 || (ltb 65536 rows || eqb count 0)

some_rows : (rows count : ℕ) → is_none rows count ≡ false → (0 < rows) × (rows ≤ 65536) × (0 < count)
some_rows rows count e = by (eqb rows 0) (ltb 65536 rows) (eqb count 0) refl refl refl e
  where
    by : (a b c : Bool) → eqb rows 0 ≡ a → ltb 65536 rows ≡ b → eqb count 0 ≡ c → (a || (b || c)) ≡ false → (0 < rows) × (rows ≤ 65536) × (0 < count)
    by false false false ea eb ec f = (omega (arith, eqb-false rows 0 ea), ltb-false 65536 rows eb, omega (arith, eqb-false count 0 ec))
    by true b c ea eb ec f = absurd cc
    by false true c ea eb ec f = absurd cc
    by false false true ea eb ec f = absurd cc

not_none : (rows count : ℕ) → 0 < rows → rows ≤ 65536 → 0 < count → is_none rows count ≡ false
not_none rows count some few columned = by (eqb rows 0) (eqb count 0) refl refl
  where
    by : (a c : Bool) → eqb rows 0 ≡ a → eqb count 0 ≡ c → is_none rows count ≡ false
    by false false ea ec = rw (ea, ec, le-ltb _ _ few) refl
    by true c ea ec = absurd (omega (arith, some, eqb-true rows 0 ea))
    by false true ea ec = absurd (omega (arith, columned, eqb-true count 0 ec))

abbrev pub made_block : ℕ → List Place → BlockPlaces
made_block rows columns = record { rows = rows; columns = columns }

block_made : (bytes : List ℕ) (rows count : ℕ × List ℕ) (columns : List Place × List ℕ)
    → Takes bytes (u32_bytes rows.0) rows.1
    → Takes rows.1 (u32_bytes count.0) count.1 × (count.0 < 2 ^ 32)
    → Takes count.1 (flat_map place_bytes columns.0) columns.1 × (length columns.0 ≡ count.0) × AllByRecursion PlaceFits columns.0
    → (0 < rows.0) × (rows.0 ≤ 65536) × (0 < count.0)
    → Takes bytes (block_bytes (made_block rows.0 columns.0)) columns.1 × BlockFits (made_block rows.0 columns.0)
unfolding block_bytes
block_made bytes rows count columns first second third some =
    let counted : Takes rows.1 (u32_bytes (length columns.0)) count.1 = subst (λ (k : ℕ). Takes rows.1 (u32_bytes k) count.1) (sym third.1) second.0 in
    let last_two = Takes-then rows.1 (u32_bytes (length columns.0)) count.1 (flat_map place_bytes columns.0) columns.1 counted third.0 in
    let all = Takes-then bytes (u32_bytes rows.0) rows.1 (u32_bytes (length columns.0) ++ flat_map place_bytes columns.0) columns.1 first last_two in
    (all, record { some = some.0; few = some.1; columned = omega (arith, some.2, third.1); count = omega (arith, second.1, third.1); each = third.2 })

pub block_takes : (bytes : List ℕ) (x : BlockPlaces × List ℕ) → IsBytes bytes → block_at bytes ≡ Some x → Takes bytes (block_bytes x.0) x.1 × BlockFits x.0
unfolding block_at
block_takes bytes x fits e =
    let a = bind_some (number_at w32 bytes) (λ rows. number_at w32 rows.1 >>= λ count. cond (is_none rows.0 count.0) None (many_at place_at count.0 count.1 >>= λ columns. Some (made_block rows.0 columns.0, columns.1))) x e in
    let b = bind_some (number_at w32 a.0.1) (λ count. cond (is_none a.0.0 count.0) None (many_at place_at count.0 count.1 >>= λ columns. Some (made_block a.0.0 columns.0, columns.1))) x a.2 in
    let g = passed (is_none a.0.0 b.0.0) (many_at place_at b.0.0 b.0.1 >>= λ columns. Some (made_block a.0.0 columns.0, columns.1)) x b.2 in
    let c = bind_some (many_at place_at b.0.0 b.0.1) (λ columns. Some (made_block a.0.0 columns.0, columns.1)) x g.1 in
    let first = number_takes w32 (2 ^ 32) wide32 bytes a.0 fits a.1 in
    let second = number_takes w32 (2 ^ 32) wide32 a.0.1 b.0 first.0.rest_fits b.1 in
    let third = items_take place_at place_bytes PlaceFits place_takes b.0.0 b.0.1 c.0 second.0.rest_fits c.1 in
    let made : BlockPlaces × List ℕ = (made_block a.0.0 c.0.0, c.0.1) in
    subst (λ (y : BlockPlaces × List ℕ). Takes bytes (block_bytes y.0) y.1 × BlockFits y.0) (some_is made x c.2) (block_made bytes a.0 b.0 c.0 first.0 second third (some_rows a.0.0 b.0.0 g.0))

pub block_again : (b : BlockPlaces) (rest : List ℕ) → BlockFits b → block_at (block_bytes b ++ rest) ≡ Some (b, rest)
unfolding block_at block_bytes
block_again b rest fits =
    let columns = flat_map place_bytes b.columns ++ rest in
    let counted = u32_bytes (length b.columns) ++ columns in
    let regrouped : block_bytes b ++ rest ≡ u32_bytes b.rows ++ counted = append_assoc (u32_bytes b.rows) (u32_bytes (length b.columns) ++ flat_map place_bytes b.columns) rest in
    let low : b.rows < 2 ^ 32 = omega (arith, fits.few) in
    ap block_at regrouped
    ∙ rw (
      number_again w32 (2 ^ 32) wide32 b.rows counted low,
      number_again w32 (2 ^ 32) wide32 (length b.columns) columns fits.count,
      not_none b.rows (length b.columns) fits.some fits.few fits.columned,
      items_again place_at place_bytes PlaceFits place_again b.columns rest fits.each,
    ) refl

-- ---- tables

abbrev pub made_table : List ℕ → ℤ → ℕ → ℕ → List BlockPlaces → TablePlaces
made_table name horizon writes skip blocks = record { name = name; horizon = horizon; writes = writes; skip = skip; blocks = blocks }

table_made : (bytes : List ℕ) (name : List ℕ × List ℕ) (horizon : ℤ × List ℕ) (writes skip count : ℕ × List ℕ) (blocks : List BlockPlaces × List ℕ)
    → Takes bytes (name_bytes name.0) name.1 × (length name.0 ≤ 255) × IsUtf8 name.0
    → Takes name.1 (i64_bytes horizon.0) horizon.1 × IsTime horizon.0
    → Takes horizon.1 (u64_bytes writes.0) writes.1 × (writes.0 < 2 ^ 63)
    → Takes writes.1 (u32_bytes skip.0) skip.1 × (skip.0 < 2 ^ 32)
    → Takes skip.1 (u32_bytes count.0) count.1 × (count.0 < 2 ^ 32)
    → Takes count.1 (flat_map block_bytes blocks.0) blocks.1 × (length blocks.0 ≡ count.0) × AllByRecursion BlockFits blocks.0
    → Takes bytes (table_bytes (made_table name.0 horizon.0 writes.0 skip.0 blocks.0)) blocks.1 × TableFits (made_table name.0 horizon.0 writes.0 skip.0 blocks.0)
unfolding table_bytes
table_made bytes name horizon writes skip count blocks first second third fourth fifth sixth =
    let blocked = flat_map block_bytes blocks.0 in
    let counted : Takes skip.1 (u32_bytes (length blocks.0)) count.1 = subst (λ (k : ℕ). Takes skip.1 (u32_bytes k) count.1) (sym sixth.1) fifth.0 in
    let two = Takes-then skip.1 (u32_bytes (length blocks.0)) count.1 blocked blocks.1 counted sixth.0 in
    let three = Takes-then writes.1 (u32_bytes skip.0) skip.1 (u32_bytes (length blocks.0) ++ blocked) blocks.1 fourth.0 two in
    let four = Takes-then horizon.1 (u64_bytes writes.0) writes.1 (u32_bytes skip.0 ++ (u32_bytes (length blocks.0) ++ blocked)) blocks.1 third.0 three in
    let five = Takes-then name.1 (i64_bytes horizon.0) horizon.1 (u64_bytes writes.0 ++ (u32_bytes skip.0 ++ (u32_bytes (length blocks.0) ++ blocked))) blocks.1 second.0 four in
    let all = Takes-then bytes (name_bytes name.0) name.1 (i64_bytes horizon.0 ++ (u64_bytes writes.0 ++ (u32_bytes skip.0 ++ (u32_bytes (length blocks.0) ++ blocked)))) blocks.1 first.0 five in
    (all, record { name = (first.2, first.1); horizon = second.1; writes = third.1; skip = fourth.1; count = omega (arith, fifth.1, sixth.1); each = sixth.2 })

pub table_takes : (bytes : List ℕ) (x : TablePlaces × List ℕ) → IsBytes bytes → table_at bytes ≡ Some x → Takes bytes (table_bytes x.0) x.1 × TableFits x.0
unfolding table_at
table_takes bytes x fits e =
    let a = bind_some (name_at bytes) (λ name. time_at name.1 >>= λ horizon. below_2_63_at horizon.1 >>= λ writes. number_at w32 writes.1 >>= λ skip. number_at w32 skip.1 >>= λ count. many_at block_at count.0 count.1 >>= λ blocks. Some (made_table name.0 horizon.0 writes.0 skip.0 blocks.0, blocks.1)) x e in
    let b = bind_some (time_at a.0.1) (λ horizon. below_2_63_at horizon.1 >>= λ writes. number_at w32 writes.1 >>= λ skip. number_at w32 skip.1 >>= λ count. many_at block_at count.0 count.1 >>= λ blocks. Some (made_table a.0.0 horizon.0 writes.0 skip.0 blocks.0, blocks.1)) x a.2 in
    let c = bind_some (below_2_63_at b.0.1) (λ writes. number_at w32 writes.1 >>= λ skip. number_at w32 skip.1 >>= λ count. many_at block_at count.0 count.1 >>= λ blocks. Some (made_table a.0.0 b.0.0 writes.0 skip.0 blocks.0, blocks.1)) x b.2 in
    let d = bind_some (number_at w32 c.0.1) (λ skip. number_at w32 skip.1 >>= λ count. many_at block_at count.0 count.1 >>= λ blocks. Some (made_table a.0.0 b.0.0 c.0.0 skip.0 blocks.0, blocks.1)) x c.2 in
    let f = bind_some (number_at w32 d.0.1) (λ count. many_at block_at count.0 count.1 >>= λ blocks. Some (made_table a.0.0 b.0.0 c.0.0 d.0.0 blocks.0, blocks.1)) x d.2 in
    let g = bind_some (many_at block_at f.0.0 f.0.1) (λ blocks. Some (made_table a.0.0 b.0.0 c.0.0 d.0.0 blocks.0, blocks.1)) x f.2 in
    let first = name_takes bytes a.0 fits a.1 in
    let second = time_takes a.0.1 b.0 first.0.rest_fits b.1 in
    let third = low_takes b.0.1 c.0 second.0.rest_fits c.1 in
    let fourth = number_takes w32 (2 ^ 32) wide32 c.0.1 d.0 third.0.rest_fits d.1 in
    let fifth = number_takes w32 (2 ^ 32) wide32 d.0.1 f.0 fourth.0.rest_fits f.1 in
    let sixth = items_take block_at block_bytes BlockFits block_takes f.0.0 f.0.1 g.0 fifth.0.rest_fits g.1 in
    let made : TablePlaces × List ℕ = (made_table a.0.0 b.0.0 c.0.0 d.0.0 g.0.0, g.0.1) in
    subst (λ (y : TablePlaces × List ℕ). Takes bytes (table_bytes y.0) y.1 × TableFits y.0) (some_is made x g.2) (table_made bytes a.0 b.0 c.0 d.0 f.0 g.0 first second third fourth fifth sixth)

pub table_again : (t : TablePlaces) (rest : List ℕ) → TableFits t → table_at (table_bytes t ++ rest) ≡ Some (t, rest)
unfolding table_at table_bytes
table_again t rest fits =
    let blocks = flat_map block_bytes t.blocks ++ rest in
    let counted = u32_bytes (length t.blocks) ++ blocks in
    let skipped = u32_bytes t.skip ++ counted in
    let written = u64_bytes t.writes ++ skipped in
    let regrouped : table_bytes t ++ rest ≡ name_bytes t.name ++ (i64_bytes t.horizon ++ written) =
    append_assoc (name_bytes t.name) (i64_bytes t.horizon ++ (u64_bytes t.writes ++ (u32_bytes t.skip ++ (u32_bytes (length t.blocks) ++ flat_map block_bytes t.blocks)))) rest in
    ap table_at regrouped
    ∙ rw (
      name_again t.name (i64_bytes t.horizon ++ written) fits.name.0,
      time_again t.horizon written fits.horizon,
      low_again t.writes skipped fits.writes,
      number_again w32 (2 ^ 32) wide32 t.skip counted fits.skip,
      number_again w32 (2 ^ 32) wide32 (length t.blocks) blocks fits.count,
      items_again block_at block_bytes BlockFits block_again t.blocks rest fits.each,
    ) refl

-- ---- a directory

abbrev pub made_directory : ℕ → List TablePlaces → Directory
made_directory log_end tables = record { log_end = log_end; tables = tables }

nothing_left : (rest : List ℕ) → length rest ≡ 0 → rest ≡ []
nothing_left [] none = refl
nothing_left (b ∷ rest) none = absurd (omega (arith, none))

-- what was read is what was written, and has room
pub directory_takes : (bytes : List ℕ) (d : Directory) → IsBytes bytes → directory_at bytes ≡ Some d → (bytes ≡ directory_bytes d) × MayBeWritten d
unfolding directory_at directory_bytes
directory_takes bytes d fits e =
    let a = bind_some (below_2_63_at bytes) (λ log_end. byte_at log_end.1 >>= λ count. cond (ltb 16 count.0) None (many_at table_at count.0 count.1 >>= λ tables. cond (eqb (length tables.1) 0) (Some (made_directory log_end.0 tables.0)) None)) d e in
    let b = bind_some (byte_at a.0.1) (λ count. cond (ltb 16 count.0) None (many_at table_at count.0 count.1 >>= λ tables. cond (eqb (length tables.1) 0) (Some (made_directory a.0.0 tables.0)) None)) d a.2 in
    let g = passed (ltb 16 b.0.0) (many_at table_at b.0.0 b.0.1 >>= λ tables. cond (eqb (length tables.1) 0) (Some (made_directory a.0.0 tables.0)) None) d b.2 in
    let c = bind_some (many_at table_at b.0.0 b.0.1) (λ tables. cond (eqb (length tables.1) 0) (Some (made_directory a.0.0 tables.0)) None) d g.1 in
    let h = held (eqb (length c.0.1) 0) (Some (made_directory a.0.0 c.0.0)) d c.2 in
    let first = low_takes bytes a.0 fits a.1 in
    let second = byte_takes a.0.1 b.0 first.0.rest_fits b.1 in
    let third = items_take table_at table_bytes TableFits table_takes b.0.0 b.0.1 c.0 second.0.rest_fits c.1 in
    let tables = flat_map table_bytes c.0.0 in
    let behind = Takes-then a.0.1 (b.0.0 ∷ []) b.0.1 tables c.0.1 second.0 third.0 in
    let all = Takes-then bytes (u64_bytes a.0.0) a.0.1 (b.0.0 ∷ tables) c.0.1 first.0 behind in
    let none : c.0.1 ≡ [] = nothing_left c.0.1 (eqb-true (length c.0.1) 0 h.0) in
    let whole : bytes ≡ u64_bytes a.0.0 ++ (b.0.0 ∷ tables) = all.parts ∙ ap (λ (l : List ℕ). (u64_bytes a.0.0 ++ (b.0.0 ∷ tables)) ++ l) none ∙ append-nil (u64_bytes a.0.0 ++ (b.0.0 ∷ tables)) in
    let counted = ap (λ (k : ℕ). u64_bytes a.0.0 ++ (k ∷ tables)) (sym third.1) in
    subst (λ (x : Directory). (bytes ≡ directory_bytes x) × MayBeWritten x) (some_is (made_directory a.0.0 c.0.0) d h.1)
    (whole ∙ counted, record { log_end = first.1; few = omega (arith, third.1, ltb-false 16 b.0.0 g.0); each = third.2 })

-- what was written is read again
pub directory_again : (d : Directory) → MayBeWritten d → directory_at (directory_bytes d) ≡ Some d
unfolding directory_at directory_bytes
directory_again d fits =
    let tables = flat_map table_bytes d.tables in
    let low : ltb 16 (length d.tables) ≡ false = le-ltb _ _ fits.few in
    let all : many_at table_at (length d.tables) tables ≡ Some (d.tables, []) = ap (many_at table_at (length d.tables)) (sym (append-nil tables)) ∙ items_again table_at table_bytes TableFits table_again d.tables [] fits.each in
    rw (low_again d.log_end (length d.tables ∷ tables) fits.log_end, low, all) refl
