-- Why an image is too large: it has many columns, since each is short, or a table of it has many writes.
use Rattle.std.proofs.Common.{◌≡◌, ◌⊎◌, inl, inr, ℕ, zero, suc, ◌+◌, ◌*◌, ◌^◌, ◌-◌, ◌<◌, ◌≤◌, ◌==◌, ◌||◌, Bool, true, false, List, [], ◌∷◌, length, take, drop, slice_index, refl, sym, ap, subst, arith, length-take}
use Rattle.std.specs.Prelude.{nat_le}
use Rattle.std.specs.List.{AllByRecursion, list_any}
use Rattle.std.specs.Int.{div_ceil}
use Rattle.std.proofs.lemmas.Bool.{leb-true, or_cases}
use Rattle.std.proofs.lemmas.List.{get_or-drop, length-drop}
use Rattle.std.proofs.lemmas.Nat.{mul-le}
use Rattle.column_bytes.specs.declared.form.Form.{Form}
use Rattle.column_bytes.specs.declared.form.Form.TheVariants.{Offset, Delta, Dictionary, Sets}
use Rattle.dictionaries.specs.Fields.{u32_at}
use Rattle.column_bytes.specs.Cells.{IsExtra}
use Rattle.column_bytes.specs.Column.{IsPresence, codes_from, codes_part, count_in, extra_from, extra_part, presence_bits, presence_part, width_in}
use Rattle.dictionaries.specs.Dictionary.{IsDictionary, text_count, text_from, texts_size}
use Rattle.dictionaries.specs.Sets.{IsSetDictionary, sets_part, texts_part}
use Rattle.row_blocks.specs.declared.column.BlockColumn.{BlockColumn}
use Rattle.row_blocks.specs.Columns.{MeanCells}
use Rattle.row_blocks.specs.Blocks.{Block, IsBlock, IsOther}
use Rattle.row_blocks.specs.Held.{columns_count}
use Rattle.table_state.specs.Tables.{IsParts}
use Rattle.region_layout.specs.Names.{IsName}
use Rattle.region_layout.specs.declared.drained.DrainTable.{DrainTable}
use Rattle.region_layout.specs.Drained.{is_wide}
use Rattle.drain_copy.specs.Planned.{AreShort, HasShort, IsShortColumn, NeedRoom, blocks_entries, blocks_size, columns_entries, columns_size, tables_count, tables_entries, tables_size}
use Rattle.drain_copy.proofs.Fitting.{block_short, some_columns}

-- ---- numbers in the bytes

abbrev AreBytes : List ℕ → Type 0
AreBytes bytes = (k : ℕ) → slice_index bytes k < 256

dropped : (n : ℕ) (bytes : List ℕ) → AreBytes bytes → AreBytes (drop n bytes)
dropped n bytes below k = subst (λ (b : ℕ). b < 256) (sym (get_or-drop n bytes k 0)) (below (n + k))

taken : (n : ℕ) (bytes : List ℕ) → AreBytes bytes → AreBytes (take n bytes)
taken zero bytes below k = omega arith
taken (suc n) [] below k = omega arith
taken (suc n) (x ∷ xs) below zero = below 0
taken (suc n) (x ∷ xs) below (suc k) = taken n xs (λ (j : ℕ). below (suc j)) k

of_four : (a b c d : ℕ) → a < 256 → b < 256 → c < 256 → d < 256 → a + 256 * (b + 256 * (c + 256 * (d + 256 * 0))) < 2 ^ 32
of_four a b c d p q r s = omega (arith, p, q, r, s)

u32_below : (bytes : List ℕ) (at : ℕ) → AreBytes bytes → u32_at bytes at < 2 ^ 32
unfolding u32_at
u32_below bytes at below =
    let each = dropped at bytes below in
    of_four (slice_index (drop at bytes) 0) (slice_index (drop at bytes) 1) (slice_index (drop at bytes) 2) (slice_index (drop at bytes) 3) (each 0) (each 1) (each 2) (each 3)

end_below : (extra : List ℕ) (k : ℕ) → AreBytes extra → text_from extra k < 2 ^ 32
end_below extra zero below = omega arith
end_below extra (suc k) below = u32_below extra (4 + 4 * k) below

-- ---- the parts of a column

texts_short : (extra : List ℕ) → AreBytes extra → IsDictionary extra → length extra < 5 * 2 ^ 32
texts_short extra below is = omega (arith, is.ends.whole, u32_below extra 0 below, end_below extra (text_count extra) below)

sets_short : (extra : List ℕ) → AreBytes extra → IsSetDictionary extra → length extra < 13 * 2 ^ 32
sets_short extra below is =
    let n = texts_size extra in
    let part = sets_part extra in
    let rest : AreBytes part = dropped n extra below in
    omega (
      arith,
      texts_short (texts_part extra) (taken n extra below) is.numbered.dictionary,
      is.numbered.ends.whole,
      u32_below part 0 rest,
      end_below part (text_count part) rest,
      length-take n extra,
      length-drop n extra,
    )

extra_short : (form : Form) (n : ℕ) (extra : List ℕ) → n ≤ 65536 → AreBytes extra → IsExtra form n extra → length extra < 13 * 2 ^ 32
extra_short Offset n extra few below is = omega (arith, is)
extra_short Delta n extra few below is = omega (arith, is, few)
extra_short Dictionary n extra few below is = omega (arith, texts_short extra below is)
extra_short Sets n extra few below is = sets_short extra below is

presence_short : (all : Bool) (part : List ℕ) (n : ℕ) → n ≤ 65536 → IsPresence (presence_bits all part n) part n → length part ≤ 8192
presence_short true part n few is = let none : length part ≡ 0 = ap (λ (l : List ℕ). length l) is in omega (arith, none)
presence_short false part n few is = omega (arith, is.whole, few)

codes_short : (size bits : ℕ) → size ≡ div_ceil bits 8 → bits ≤ 65536 * 64 → size ≤ 524288
codes_short size bits is few = omega (arith, is, few)

pub column_short : (bytes : List ℕ) (n : ℕ) → ((k : ℕ) → slice_index bytes k < 256) → MeanCells bytes n → length bytes < 2 ^ 37
unfolding MeanCells
column_short bytes n below mean =
    let fields = mean.is.header.fields in
    let offsets = mean.is.header.offsets in
    let presence = presence_short (slice_index bytes 3 == 0) (presence_part bytes) (count_in bytes) fields.few mean.is.presence in
    let codes = codes_short (length (codes_part bytes)) (count_in bytes * width_in bytes) mean.is.codes.whole (mul-le (count_in bytes) (width_in bytes) 65536 64 fields.few fields.width) in
    let extra = extra_short mean.form (count_in bytes) (extra_part bytes) fields.few (dropped (extra_from bytes) bytes below) mean.is.extra in
    omega (
      arith,
      presence,
      codes,
      extra,
      offsets.codes,
      offsets.extra,
      offsets.inside,
      length-take (codes_from bytes - 40) (drop 40 bytes),
      length-drop 40 bytes,
      length-take (extra_from bytes - codes_from bytes) (drop (codes_from bytes) bytes),
      length-drop (codes_from bytes) bytes,
      length-drop (extra_from bytes) bytes,
    )

-- ---- and of tables

others_sized : (rows : ℕ) (columns : List BlockColumn) → AllByRecursion (IsOther rows) columns → AllByRecursion IsShortColumn columns → columns_size columns ≤ 2 ^ 37 * length columns
others_sized rows [] each short = omega arith
others_sized rows (c ∷ columns) each short = omega (arith, short.0 rows each.0.cells, others_sized rows columns each.1 short.1)

block_sized : (b : Block) → IsBlock b → AreShort b → columns_size b.columns ≤ 2 ^ 37 * length b.columns
block_sized b is short =
    let each : AllByRecursion IsShortColumn (is.times ∷ is.others) = subst (λ (cs : List BlockColumn). AllByRecursion IsShortColumn cs) is.columns_are short in
    subst (λ (cs : List BlockColumn). columns_size cs ≤ 2 ^ 37 * length cs) (sym is.columns_are)
    (omega (arith, each.0 b.rows is.timed.cells, others_sized b.rows is.others is.each each.1))

blocks_sized : (blocks : List Block) → AllByRecursion IsBlock blocks → AllByRecursion AreShort blocks → blocks_size blocks ≤ 2 ^ 37 * columns_count blocks
blocks_sized [] each short = omega arith
blocks_sized (b ∷ blocks) each short = omega (arith, block_sized b each.0 short.0, blocks_sized blocks each.1 short.1)

tables_sized : (tables : List DrainTable) → AllByRecursion (λ (t : DrainTable). IsParts t.parts) tables → AllByRecursion HasShort tables → tables_size tables ≤ 2 ^ 37 * tables_count tables
tables_sized [] each short = omega arith
tables_sized (t ∷ tables) each short = omega (arith, blocks_sized t.parts.blocks each.0.blocks short.0, tables_sized tables each.1 short.1)

columns_entered : (columns : List BlockColumn) → AllByRecursion (λ (c : BlockColumn). IsName c.name) columns → columns_entries columns ≤ 272 * length columns
columns_entered [] names = omega arith
columns_entered (c ∷ columns) names = omega (arith, names.0.1, columns_entered columns names.1)

-- a block has a column
blocks_entered : (blocks : List Block) → AllByRecursion IsBlock blocks → blocks_entries blocks ≤ 280 * columns_count blocks
blocks_entered [] each = omega arith
blocks_entered (b ∷ blocks) each = omega (arith, some_columns b each.0, columns_entered b.columns (block_short b each.0), blocks_entered blocks each.1)

tables_entered : (tables : List DrainTable) → AllByRecursion (λ (t : DrainTable). IsName t.name) tables → AllByRecursion (λ (t : DrainTable). IsParts t.parts) tables
    → tables_entries tables ≤ 280 * length tables + 280 * tables_count tables
tables_entered [] names each = omega arith
tables_entered (t ∷ tables) names each = omega (arith, names.0.1, blocks_entered t.parts.blocks each.0.blocks, tables_entered tables names.1 each.1)

-- ---- what is too large

pub long_needs : (tables : List DrainTable) → length tables ≤ 16 → AllByRecursion (λ (t : DrainTable). IsName t.name) tables → AllByRecursion (λ (t : DrainTable). IsParts t.parts) tables
    → AllByRecursion HasShort tables → 2 ^ 63 ≤ 16 + tables_size tables + (9 + tables_entries tables) → NeedRoom tables
long_needs tables few names each short long = inl (omega (arith, few, long, tables_sized tables each short, tables_entered tables names each))

blocks_counted : (blocks : List Block) → AllByRecursion IsBlock blocks → length blocks ≤ columns_count blocks
blocks_counted [] each = omega arith
blocks_counted (b ∷ blocks) each = omega (arith, some_columns b each.0, blocks_counted blocks each.1)

-- a block of so many columns
columns_counted : (n : ℕ) (blocks : List Block) → list_any (λ (b : Block). nat_le n (length b.columns)) blocks ≡ true → n ≤ columns_count blocks
columns_counted n [] many = absurd cc
columns_counted n (b ∷ blocks) many = elim (or_cases (nat_le n (length b.columns)) (list_any (λ (x : Block). nat_le n (length x.columns)) blocks) many) [
  | inl first ↦ omega (arith, leb-true n (length b.columns) first)
  | inr others ↦ omega (arith, columns_counted n blocks others)
]

table_needs : (t : DrainTable) → IsParts t.parts → is_wide t ≡ true → (2 ^ 25 ≤ columns_count t.parts.blocks) ⊎ (2 ^ 63 ≤ t.parts.writes)
table_needs t is wide =
    let blocks = t.parts.blocks in
    let many = list_any (λ (b : Block). nat_le (2 ^ 32) (length b.columns)) blocks in
    elim (or_cases (nat_le (2 ^ 32) (length blocks)) (nat_le (2 ^ 63) t.parts.writes || many) wide) [
      | inl first ↦ inl (omega (arith, leb-true (2 ^ 32) (length blocks) first, blocks_counted blocks is.blocks))
      | inr others ↦ elim (or_cases (nat_le (2 ^ 63) t.parts.writes) many others) [
        | inl writes ↦ inr (leb-true (2 ^ 63) t.parts.writes writes)
        | inr columns ↦ inl (omega (arith, columns_counted (2 ^ 32) blocks columns))
      ]
    ]

first_needs : (t : DrainTable) (tables : List DrainTable) → (2 ^ 25 ≤ columns_count t.parts.blocks) ⊎ (2 ^ 63 ≤ t.parts.writes) → NeedRoom (t ∷ tables)
first_needs t tables (inl columns) = inl (omega (arith, columns))
first_needs t tables (inr writes) = inr (0, t, refl, writes)

others_need : (t : DrainTable) (tables : List DrainTable) → NeedRoom tables → NeedRoom (t ∷ tables)
others_need t tables (inl columns) = inl (omega (arith, columns))
others_need t tables (inr (place, u, at, writes)) = inr (suc place, u, at, writes)

pub wide_needs : (tables : List DrainTable) → AllByRecursion (λ (t : DrainTable). IsParts t.parts) tables → list_any is_wide tables ≡ true → NeedRoom tables
wide_needs [] each wide = absurd cc
wide_needs (t ∷ tables) each wide = elim (or_cases (is_wide t) (list_any is_wide tables) wide) [
  | inl first ↦ first_needs t tables (table_needs t each.0 first)
  | inr others ↦ others_need t tables (wide_needs tables each.1 others)
]
