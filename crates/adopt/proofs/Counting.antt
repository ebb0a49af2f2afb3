-- How many rows of blocks are live, one block after another.
use Rattle.std.proofs.Common.{◌≡◌, ℕ, ◌+◌, ◌<◌, ◌≤◌, List, [], ◌∷◌, ◌++◌, length, drop, get_or, ℤ, int_le, refl, sym, ap, subst, ◌∙◌, arith}
use Rattle.std.proofs.lemmas.List.{append-nil, drop-append-le, drop_all, drop_more, length-append}
use Rattle.std.proofs.lemmas.List.Elements.{filter-append}
use Rattle.std.proofs.lemmas.List.FromFn.{length-map-range_with_len}
use Rattle.std.proofs.Math.Seq.{drop-nil}
use Rattle.row_model.specs.declared.rows.Row.{Row}
use Rattle.leaf_model.specs.Content.{rows_from}
use Rattle.std.specs.List.{AllByRecursion}
use Rattle.row_model.specs.Values.{IsTime}
use Rattle.table_state.specs.declared.parts.Parts.{Parts}
use Rattle.table_state.specs.Tables.{IsParts, most_rows}
use Rattle.row_blocks.specs.Blocks.{Block, IsBlock, row_at, rows_in}
use Rattle.row_blocks.specs.Held.{IsSkip, block_rows, blocks_held, live_rows, rows_held}
use Rattle.adopt.specs.Finishing.{live_count}
use Rattle.table_state.specs.Stored.{IsCut}

counted : (b : Block) → length (rows_in b) ≡ b.rows
counted b = length-map-range_with_len (row_at b.columns) 0 b.rows

held_next : (b : Block) (blocks : List Block) (cut : ℕ) (h : ℤ) → cut ≤ b.rows → blocks_held (b ∷ blocks) cut h ≡ live_rows cut h b ++ blocks_held blocks 0 h
held_next b blocks cut h inside =
    ap (rows_from h) (drop-append-le cut (rows_in b) (block_rows blocks) (omega (arith, counted b, inside)))
    ∙ filter-append (λ (row : Row). int_le h row.time) (drop cut (rows_in b)) (block_rows blocks)

count_first : (b : Block) (blocks : List Block) (cut : ℕ) (h : ℤ) → cut ≤ b.rows → live_count (b ∷ blocks) cut h ≡ length (live_rows cut h b) + live_count blocks 0 h
unfolding live_count
count_first b blocks cut h inside = ap (λ (l : List Row). length l) (held_next b blocks cut h inside) ∙ length-append (live_rows cut h b) (blocks_held blocks 0 h)

count_none : (cut : ℕ) (h : ℤ) → live_count [] cut h ≡ 0
unfolding live_count
count_none cut h = ap (λ (l : List Row). length (rows_from h l)) (drop-nil {A = Row} cut)

-- it is how many rows they hold
pub count_is : (blocks : List Block) (skip : ℕ) (h : ℤ) → live_count blocks skip h ≡ length (rows_held blocks [] skip h)
unfolding live_count
count_is blocks skip h = ap (λ (l : List Row). length (rows_from h l)) (sym (append-nil (drop skip (block_rows blocks))))

pub uncut : (blocks : List Block) → IsCut 0 blocks
uncut [] = refl
uncut (b ∷ blocks) = omega arith

pub cut_of : (skip : ℕ) (blocks : List Block) → IsSkip skip blocks → IsCut skip blocks
cut_of skip [] is = is
cut_of skip (b ∷ blocks) is = omega (arith, is)

module _ (blocks : List Block) (i : ℕ) (b : Block) (cut : ℕ) (h : ℤ) (within : i < length blocks) (at : b ≡ get_or blocks i b) (inside : IsCut cut (drop i blocks)) where
  next_block : drop i blocks ≡ b ∷ drop (i + 1) blocks
  next_block = drop_more blocks i b within ∙ ap (λ (c : Block). c ∷ drop (i + 1) blocks) (sym at)

  pub cut_inside : cut ≤ b.rows
  cut_inside = subst (IsCut cut) next_block inside

  pub count_next : (live one total : ℕ) → live + live_count (drop i blocks) cut h ≡ total → one ≡ length (live_rows cut h b) → live + one + live_count (drop (i + 1) blocks) 0 h ≡ total
  count_next live one total so_far is =
      let first = ap (λ (l : List Block). live_count l cut h) next_block ∙ count_first b (drop (i + 1) blocks) cut h cut_inside in
      omega (arith, so_far, is, first)

pub count_end : (blocks : List Block) (i cut : ℕ) (h : ℤ) (live total : ℕ) → length blocks ≤ i → live + live_count (drop i blocks) cut h ≡ total → live ≡ total
count_end blocks i cut h live total past so_far =
    let none = ap (λ (l : List Block). live_count l cut h) (drop_all i blocks past) ∙ count_none cut h in
    omega (arith, so_far, none)

-- what a table may be made of
pub parts_of : (p : Parts) → IsTime p.horizon → AllByRecursion IsBlock p.blocks → IsSkip p.skip p.blocks × (live_count p.blocks p.skip p.horizon ≤ most_rows) → IsParts p
parts_of p time blocks has = record { horizon = time; skip = has.0; blocks = blocks; few = let same = count_is p.blocks p.skip p.horizon in let few = has.1 in omega (arith, same, few) }

pub parts_give : (p : Parts) → IsParts p → IsSkip p.skip p.blocks × (live_count p.blocks p.skip p.horizon ≤ most_rows)
parts_give p is = (is.skip, let same = count_is p.blocks p.skip p.horizon in let few = is.few in omega (arith, same, few))
