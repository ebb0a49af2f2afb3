-- Blocks that were seen one after another, and what is left of them.
use Rattle.std.proofs.Common.{◌≡◌, ℕ, ◌+◌, ◌<◌, ◌≤◌, List, [], ◌∷◌, ◌++◌, length, map, drop, get_or, ℤ, int_le, refl, sym, ap, ap₂, subst, ◌∙◌, append_assoc, Bool, true, cond, arith}
use Rattle.std.specs.Prelude.{bytes_eq}
use Rattle.std.specs.List.{flat_map, range_with_len}
use Rattle.std.proofs.lemmas.List.{append-nil, drop-append-le, drop-map, drop_all, drop_more, length-append, length-map}
use Rattle.std.proofs.lemmas.List.Concat.{flat_map-append}
use Rattle.std.proofs.lemmas.List.Elements.{filter-append}
use Rattle.std.proofs.lemmas.List.FromFn.{length-map-range_with_len}
use Rattle.std.proofs.lemmas.List.Sums.{sum_by-cons}
use Rattle.row_model.specs.declared.rows.Row.{Row}
use Rattle.leaf_model.specs.declared.queries.Query.{Query}
use Rattle.leaf_model.specs.Content.{rows_from}
use Rattle.leaf_model.specs.Groups.{groups}
use Rattle.row_model.specs.Values.{time_name}
use Rattle.group_table.specs.Joined.{joined}
use Rattle.group_table.proofs.Laws.{groups-append, joined-nil}
use Rattle.row_blocks.specs.declared.column.BlockColumn.{BlockColumn}
use Rattle.row_blocks.specs.Blocks.{Block, IsBlock, row_at, rows_in}
use Rattle.row_blocks.specs.Held.{IsSkip, block_rows, blocks_held, live_rows, rows_held}
use Rattle.block_scan.specs.Scanning.{block_steps, is_named, most_steps, named_columns}
use Rattle.block_scan.specs.Seen.{SeenBlock, StandFor, named_block, seen, seen_rows}
use Rattle.block_scan.proofs.Lists.{filter_mapped, map_alike, map_map, or_left}
use Rattle.block_scan.proofs.Narrowed.{groups_narrowed, itself, narrowed, row_named}

-- ---- a block of named columns

time_named : (q : Query) (name : List ℕ) → name ≡ time_name → is_named q name ≡ true
time_named q name e = or_left (bytes_eq name time_name) _ (ap (λ (n : List ℕ). bytes_eq n time_name) e ∙ itself time_name)

times_named : (q : Query) (times : BlockColumn) (others : List BlockColumn) → times.name ≡ time_name → named_columns q (times ∷ others) ≡ times ∷ named_columns q others
times_named q times others e = ap (λ (b : Bool). cond b (times ∷ named_columns q others) (named_columns q others)) (time_named q times.name e)

pub read_times : (q : Query) (rows : ℕ) (times made : BlockColumn) (others read : List BlockColumn) → times.name ≡ time_name → made ≡ times → read ≡ named_columns q others
    → made ∷ read ≡ named_columns q (times ∷ others)
read_times q rows times made others read e same columns = ap₂ (λ (c : BlockColumn) (cs : List BlockColumn). c ∷ cs) same columns ∙ sym (times_named q times others e)

rows_named : (q : Query) (b : Block) → IsBlock b → rows_in (named_block q b) ≡ map (narrowed q) (rows_in b)
rows_named q b is =
    let n = range_with_len 0 b.rows in
    ap (λ (cs : List BlockColumn). map (row_at (named_columns q cs)) n) is.columns_are
    ∙ ap (λ (cs : List BlockColumn). map (row_at cs) n) (times_named q is.times is.others is.timed.name)
    ∙ sym (map_alike (λ k. narrowed q (row_at (is.times ∷ is.others) k)) (row_at (is.times ∷ named_columns q is.others)) (row_named q is.times is.others) n)
    ∙ sym (map_map (narrowed q) (row_at (is.times ∷ is.others)) n)
    ∙ ap (λ (cs : List BlockColumn). map (narrowed q) (map (row_at cs) n)) (sym is.columns_are)

live_named : (q : Query) (b : Block) → IsBlock b → (skip : ℕ) (horizon : ℤ) → live_rows skip horizon (named_block q b) ≡ map (narrowed q) (live_rows skip horizon b)
live_named q b is skip horizon =
    ap (λ (l : List Row). rows_from horizon (drop skip l)) (rows_named q b is)
    ∙ ap (rows_from horizon) (drop-map (narrowed q) skip (rows_in b))
    ∙ filter_mapped (λ (row : Row). int_le horizon row.time) (narrowed q) (drop skip (rows_in b))

groups_seen : (q : Query) (b : Block) → IsBlock b → (skip : ℕ) (horizon : ℤ) → groups q (live_rows skip horizon (named_block q b)) ≡ groups q (live_rows skip horizon b)
groups_seen q b is skip horizon = ap (groups q) (live_named q b is skip horizon) ∙ groups_narrowed q (live_rows skip horizon b)

count_seen : (q : Query) (b : Block) → IsBlock b → (skip : ℕ) (horizon : ℤ) → length (live_rows skip horizon (named_block q b)) ≡ length (live_rows skip horizon b)
count_seen q b is skip horizon = ap (λ (l : List Row). length l) (live_named q b is skip horizon) ∙ length-map (live_rows skip horizon b) (narrowed q)

-- ---- one block after another

-- the rows of the first block, and of those behind it
held_next : (b : Block) (blocks : List Block) (skip : ℕ) (horizon : ℤ) → skip ≤ b.rows → blocks_held (b ∷ blocks) skip horizon ≡ live_rows skip horizon b ++ blocks_held blocks 0 horizon
held_next b blocks skip horizon inside =
    let live = λ (row : Row). int_le horizon row.time in
    let counted : length (rows_in b) ≡ b.rows = length-map-range_with_len (row_at b.columns) 0 b.rows in
    ap (rows_from horizon) (drop-append-le skip (rows_in b) (block_rows blocks) (omega (arith, counted, inside)))
    ∙ filter-append live (drop skip (rows_in b)) (block_rows blocks)

-- blocks and the tail
pub held_split : (blocks : List Block) (tail : List Row) (skip : ℕ) (horizon : ℤ) → rows_held blocks tail skip horizon ≡ blocks_held blocks skip horizon ++ rows_from horizon tail
held_split blocks tail skip horizon = filter-append (λ (row : Row). int_le horizon row.time) (drop skip (block_rows blocks)) tail

-- a cut ends inside the first block, or where it ends
abbrev pub IsCut : ℕ → List Block → Type 0
IsCut cut [] = cut ≡ 0
IsCut cut (b ∷ blocks) = cut ≤ b.rows

first_cut : (skip : ℕ) (blocks : List Block) → IsSkip skip blocks → IsCut skip blocks
first_cut skip [] is = is
first_cut skip (b ∷ blocks) is = omega (arith, is)

uncut : (blocks : List Block) → IsCut 0 blocks
uncut [] = refl
uncut (b ∷ blocks) = omega arith

-- the first i blocks are seen, and the others are left
pub record AreSeen (q : Query) (blocks : List Block) (skip : ℕ) (horizon : ℤ) (before i cut steps : ℕ) (views : List SeenBlock) : Type 0 where
  pub rows : List Row
  pub same : groups q (flat_map seen_rows views) ≡ groups q rows
  pub few : length (flat_map seen_rows views) ≤ length rows
  pub left : rows ++ blocks_held (drop i blocks) cut horizon ≡ blocks_held blocks skip horizon
  pub cut_is : IsCut cut (drop i blocks)
  pub counted : steps + most_steps q (drop i blocks) ≤ before + most_steps q blocks

pub none_seen : (q : Query) (blocks : List Block) (skip : ℕ) (horizon : ℤ) (steps : ℕ) (views : List SeenBlock) → views ≡ [] → IsSkip skip blocks → AreSeen q blocks skip horizon steps 0 skip steps views
none_seen q blocks skip horizon steps views none is = record {
  rows = [];
  same = ap (λ (l : List SeenBlock). groups q (flat_map seen_rows l)) none;
  few = let count = ap (λ (l : List SeenBlock). length (flat_map seen_rows l)) none in omega (arith, count);
  left = refl;
  cut_is = first_cut skip blocks is;
  counted = omega arith;
}

module _ (q : Query) (blocks : List Block) (skip : ℕ) (horizon : ℤ) (before i cut steps : ℕ) (views : List SeenBlock) (b : Block)
    (so_far : AreSeen q blocks skip horizon before i cut steps views) (inside : i < length blocks) (at : b ≡ get_or blocks i b) where
  next_block : drop i blocks ≡ b ∷ drop (i + 1) blocks
  next_block = drop_more blocks i b inside ∙ ap (λ (c : Block). c ∷ drop (i + 1) blocks) (sym at)

  pub cut_inside : cut ≤ b.rows
  cut_inside = subst (IsCut cut) next_block so_far.cut_is

  left_next : (so_far.rows ++ live_rows cut horizon b) ++ blocks_held (drop (i + 1) blocks) 0 horizon ≡ blocks_held blocks skip horizon
  left_next =
      append_assoc so_far.rows (live_rows cut horizon b) (blocks_held (drop (i + 1) blocks) 0 horizon)
      ∙ ap (λ (l : List Row). so_far.rows ++ l) (sym (held_next b (drop (i + 1) blocks) cut horizon cut_inside) ∙ ap (λ (l : List Block). blocks_held l cut horizon) (sym next_block))
      ∙ so_far.left

  -- the steps of this block are among all
  pub steps_inside : (now : ℕ) → now ≤ steps + block_steps q b → now + most_steps q (drop (i + 1) blocks) ≤ before + most_steps q blocks
  steps_inside now h =
      let counted : steps + most_steps q (b ∷ drop (i + 1) blocks) ≤ before + most_steps q blocks
      = subst (λ (l : List Block). steps + most_steps q l ≤ before + most_steps q blocks) next_block so_far.counted in
      let first : most_steps q (b ∷ drop (i + 1) blocks) ≡ block_steps q b + most_steps q (drop (i + 1) blocks)
      = sum_by-cons (λ (n : ℕ). n) (block_steps q b) (map (block_steps q) (drop (i + 1) blocks)) in
      omega (arith, counted, first, h)

  -- a block that gives no group is passed over
  pub one_apart : groups q (live_rows cut horizon b) ≡ [] → AreSeen q blocks skip horizon before (i + 1) 0 steps views
  one_apart none = record {
    rows = so_far.rows ++ live_rows cut horizon b;
    same =
        so_far.same ∙ sym (joined-nil (groups q so_far.rows)) ∙ ap (joined (groups q so_far.rows)) (sym none)
        ∙ sym (groups-append q so_far.rows (live_rows cut horizon b));
    few = omega (arith, so_far.few, length-append so_far.rows (live_rows cut horizon b));
    left = left_next;
    cut_is = uncut (drop (i + 1) blocks);
    counted = steps_inside steps (omega arith);
  }

  -- and another one is seen
  pub one_seen : (view : SeenBlock) (now : List SeenBlock) (later : ℕ) → IsBlock b → view ≡ seen cut horizon (named_block q b) → now ≡ views ++ view ∷ [] → later ≤ steps + block_steps q b
      → AreSeen q blocks skip horizon before (i + 1) 0 later now
  one_seen view now later is viewed pushed h =
      let all = flat_map seen_rows views in
      let live = live_rows cut horizon (named_block q b) in
      let rows : flat_map seen_rows now ≡ all ++ live
      = ap (flat_map seen_rows) pushed ∙ flat_map-append seen_rows views (view ∷ []) ∙ ap (λ (l : List Row). all ++ l) (append-nil (seen_rows view))
      ∙ ap (λ (v : SeenBlock). all ++ seen_rows v) viewed in
      let count = ap (λ (l : List Row). length l) rows in
      record {
        rows = so_far.rows ++ live_rows cut horizon b;
        same =
            ap (groups q) rows ∙ groups-append q all live ∙ ap₂ joined so_far.same (groups_seen q b is cut horizon)
            ∙ sym (groups-append q so_far.rows (live_rows cut horizon b));
        few = omega (arith, count, so_far.few, length-append all live, length-append so_far.rows (live_rows cut horizon b), count_seen q b is cut horizon);
        left = left_next;
        cut_is = uncut (drop (i + 1) blocks);
        counted = steps_inside later h;
      }

pub all_seen : (q : Query) (blocks : List Block) (skip : ℕ) (horizon : ℤ) (before i cut steps : ℕ) (views : List SeenBlock) → AreSeen q blocks skip horizon before i cut steps views
    → length blocks ≤ i → StandFor q blocks skip horizon views
all_seen q blocks skip horizon before i cut steps views are ended =
    let none : drop i blocks ≡ [] = drop_all i blocks ended in
    let no_cut : cut ≡ 0 = subst (IsCut cut) none are.cut_is in
    let nothing : blocks_held (drop i blocks) cut horizon ≡ [] = ap (λ (l : List Block). blocks_held l cut horizon) none ∙ ap (λ (k : ℕ). blocks_held [] k horizon) no_cut in
    let rows : are.rows ≡ blocks_held blocks skip horizon = sym (append-nil are.rows) ∙ ap (λ (l : List Row). are.rows ++ l) (sym nothing) ∙ are.left in
    record {
      same = are.same ∙ ap (groups q) rows;
      few = let count = ap (λ (l : List Row). length l) rows in omega (arith, are.few, count);
    }
