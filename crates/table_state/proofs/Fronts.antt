-- Blocks one after another: how many of their rows are live, and how rows leave them from the front.
use Rattle.std.proofs.Common.{◌≡◌, ℕ, zero, suc, ◌+◌, ◌-◌, ◌<◌, ◌≤◌, Bool, true, false, ◌||◌, cond, List, [], ◌∷◌, ◌++◌, length, drop, get_or, filter, ℤ, int_le, refl, sym, ap, subst, ◌∙◌, arith}
use Rattle.std.specs.List.{AllByRecursion, list_any}
use Rattle.std.proofs.lemmas.List.{drop-append-le, drop-drop, drop_all, drop_more, length-append}
use Rattle.std.proofs.lemmas.List.Elements.{filter-append}
use Rattle.std.proofs.lemmas.List.FromFn.{length-map-range_with_len}
use Rattle.std.proofs.Math.Seq.{drop-append_seam}
use Rattle.row_model.specs.declared.rows.Row.{Row}
use Rattle.leaf_model.specs.Content.{rows_from}
use Rattle.row_blocks.specs.Blocks.{Block, IsBlock, row_at, rows_in}
use Rattle.row_blocks.specs.Held.{IsSkip, block_rows, live_rows}
use Rattle.row_blocks.specs.Live.{has_live}
use Rattle.table_state.specs.Stored.{AreAhead, IsCut, sealed_rows, skip_left}

pub counted : (b : Block) → length (rows_in b) ≡ b.rows
counted b = length-map-range_with_len (row_at b.columns) 0 b.rows

abbrev pub no_rows : List Row
no_rows = []

pub drop_none : (n : ℕ) → drop n no_rows ≡ no_rows
drop_none zero = refl
drop_none (suc n) = refl

-- ---- the first block, and those behind it

pub sealed_next : (b : Block) (blocks : List Block) (cut : ℕ) (h : ℤ) → cut ≤ b.rows → sealed_rows (b ∷ blocks) cut h ≡ live_rows cut h b ++ sealed_rows blocks 0 h
unfolding sealed_rows
sealed_next b blocks cut h inside =
    ap (rows_from h) (drop-append-le cut (rows_in b) (block_rows blocks) (omega (arith, counted b, inside)))
    ∙ filter-append (λ (row : Row). int_le h row.time) (drop cut (rows_in b)) (block_rows blocks)

pub sealed_none : (cut : ℕ) (h : ℤ) → sealed_rows [] cut h ≡ []
unfolding sealed_rows
sealed_none cut h = ap (rows_from h) (drop_none cut)

pub uncut : (blocks : List Block) → IsCut 0 blocks
uncut [] = refl
uncut (b ∷ blocks) = omega arith

pub cut_of : (skip : ℕ) (blocks : List Block) → IsSkip skip blocks → IsCut skip blocks
cut_of skip [] is = is
cut_of skip (b ∷ blocks) is = omega (arith, is)

module _ (blocks : List Block) (i : ℕ) (b : Block) (cut : ℕ) (h : ℤ) (within : i < length blocks) (at : b ≡ get_or blocks i b) (inside : IsCut cut (drop i blocks)) where
  next_block : drop i blocks ≡ b ∷ drop (i + 1) blocks
  next_block = drop_more blocks i b within ∙ ap (λ (c : Block). c ∷ drop (i + 1) blocks) (sym at)

  pub cut_inside : cut ≤ b.rows
  cut_inside = subst (IsCut cut) next_block inside

  pub sealed_at : sealed_rows (drop i blocks) cut h ≡ live_rows cut h b ++ sealed_rows (drop (i + 1) blocks) 0 h
  sealed_at = ap (λ (l : List Block). sealed_rows l cut h) next_block ∙ sealed_next b (drop (i + 1) blocks) cut h cut_inside

  pub count_next : (live one total : ℕ) → live + length (sealed_rows (drop i blocks) cut h) ≡ total → one ≡ length (live_rows cut h b)
      → live + one + length (sealed_rows (drop (i + 1) blocks) 0 h) ≡ total
  count_next live one total so_far is =
      let all = ap (λ (l : List Row). length l) sealed_at in
      let parts = length-append (live_rows cut h b) (sealed_rows (drop (i + 1) blocks) 0 h) in
      omega (arith, so_far, is, all, parts)

  -- the first live rows end in this block
  pub ends_here : (left place : ℕ) (all : List Row) → left < length (live_rows cut h b) → place < b.rows → live_rows place h b ≡ drop left (live_rows cut h b)
      → drop left (sealed_rows (drop i blocks) cut h) ≡ all → sealed_rows (drop i blocks) place h ≡ all
  ends_here left place all few there same so_far =
      let rest = sealed_rows (drop (i + 1) blocks) 0 h in
      ap (λ (l : List Block). sealed_rows l place h) next_block ∙ sealed_next b (drop (i + 1) blocks) place h (omega (arith, there))
      ∙ ap (λ (l : List Row). l ++ rest) same
      ∙ sym (drop-append-le left (live_rows cut h b) rest (omega (arith, few)))
      ∙ ap (drop left) (sym sealed_at) ∙ so_far

  pub ahead_here : (place n : ℕ) → n ≤ length (live_rows place h b) → AreAhead n (drop i blocks) place h
  ahead_here place n few = subst (λ (l : List Block). AreAhead n l place h) (sym next_block) few

  -- or behind it
  pub ends_behind : (left live now : ℕ) (all : List Row) → live ≡ length (live_rows cut h b) → live ≤ left → now ≡ left - live → left ≤ length (sealed_rows (drop i blocks) cut h)
      → drop left (sealed_rows (drop i blocks) cut h) ≡ all
      → (now ≤ length (sealed_rows (drop (i + 1) blocks) 0 h)) × (drop now (sealed_rows (drop (i + 1) blocks) 0 h) ≡ all)
  ends_behind left live now all is more e few so_far =
      let first = live_rows cut h b in
      let rest = sealed_rows (drop (i + 1) blocks) 0 h in
      let whole : length first + now ≡ left = omega (arith, is, more, e) in
      let count = ap (λ (l : List Row). length l) sealed_at in (
        omega (arith, few, count, length-append first rest, whole),
        ap (drop now) (sym (drop-append_seam first rest)) ∙ drop-drop now (length first) (first ++ rest) ∙ ap (λ (m : ℕ). drop m (first ++ rest)) whole
            ∙ ap (drop left) (sym sealed_at) ∙ so_far,
      )

none_behind : (blocks : List Block) (i cut : ℕ) (h : ℤ) → length blocks ≤ i → sealed_rows (drop i blocks) cut h ≡ []
none_behind blocks i cut h past = ap (λ (l : List Block). sealed_rows l cut h) (drop_all i blocks past) ∙ sealed_none cut h

pub count_end : (blocks : List Block) (i cut : ℕ) (h : ℤ) (live total : ℕ) → length blocks ≤ i → live + length (sealed_rows (drop i blocks) cut h) ≡ total → live ≡ total
count_end blocks i cut h live total past so_far =
    let none = ap (λ (l : List Row). length l) (none_behind blocks i cut h past) in omega (arith, so_far, none)

-- all live rows are gone
pub ends_last : (blocks : List Block) (i cut : ℕ) (h : ℤ) (left : ℕ) (all : List Row) → length blocks ≤ i → drop left (sealed_rows (drop i blocks) cut h) ≡ all
    → sealed_rows (drop (length blocks) blocks) 0 h ≡ all
ends_last blocks i cut h left all past so_far =
    none_behind blocks (length blocks) 0 h (omega arith) ∙ sym (drop_none left) ∙ ap (drop left) (sym (none_behind blocks i cut h past)) ∙ so_far

-- ---- blocks without a live row leave

any_none : (h : ℤ) (rows : List Row) (k : ℕ) → list_any (λ (row : Row). int_le h row.time) rows ≡ false → rows_from h (drop k rows) ≡ []
any_none h [] k e = ap (rows_from h) (drop_none k)
any_none h (row ∷ rows) zero e = by (int_le h row.time) e (any_none h rows 0)
  where
    by : (b : Bool) → (b || list_any (λ (r : Row). int_le h r.time) rows) ≡ false → (list_any (λ (r : Row). int_le h r.time) rows ≡ false → rows_from h rows ≡ []) → cond b (row ∷ rows_from h rows) (rows_from h rows) ≡ []
    by true f rest = absurd cc
    by false f rest = rest f
any_none h (row ∷ rows) (suc k) e = by (int_le h row.time) e (any_none h rows k)
  where
    by : (b : Bool) → (b || list_any (λ (r : Row). int_le h r.time) rows) ≡ false → (list_any (λ (r : Row). int_le h r.time) rows ≡ false → rows_from h (drop k rows) ≡ []) → rows_from h (drop k rows) ≡ []
    by true f rest = absurd cc
    by false f rest = rest f

pub dead : (h : ℤ) (b : Block) (k : ℕ) → has_live h b ≡ false → live_rows k h b ≡ []
unfolding has_live
dead h b k e = any_none h (rows_in b) k e

zero_skip : (blocks : List Block) → AllByRecursion IsBlock blocks → IsSkip 0 blocks
zero_skip [] all = refl
zero_skip (b ∷ blocks) all = all.0.some

pub live_blocks : (h : ℤ) (blocks : List Block) → AllByRecursion IsBlock blocks → AllByRecursion IsBlock (filter (has_live h) blocks)
live_blocks h [] all = tt
live_blocks h (b ∷ blocks) all = by (has_live h b) (live_blocks h blocks all.1)
  where
    by : (x : Bool) → AllByRecursion IsBlock (filter (has_live h) blocks) → AllByRecursion IsBlock (cond x (b ∷ filter (has_live h) blocks) (filter (has_live h) blocks))
    by true rest = (all.0, rest)
    by false rest = rest

pub live_cut : (skip : ℕ) (h : ℤ) (blocks : List Block) → AllByRecursion IsBlock blocks → IsSkip skip blocks → IsSkip (skip_left skip h blocks) (filter (has_live h) blocks)
live_cut skip h [] all is = refl
live_cut skip h (b ∷ blocks) all is = by (has_live h b)
  where
    by : (x : Bool) → IsSkip (cond x skip 0) (cond x (b ∷ filter (has_live h) blocks) (filter (has_live h) blocks))
    by true = is
    by false = zero_skip (filter (has_live h) blocks) (live_blocks h blocks all.1)

dead_gone : (h : ℤ) (blocks : List Block) → sealed_rows (filter (has_live h) blocks) 0 h ≡ sealed_rows blocks 0 h
dead_gone h [] = refl
dead_gone h (b ∷ blocks) = by (has_live h b) refl (dead_gone h blocks)
  where
    by : (x : Bool) → has_live h b ≡ x → sealed_rows (filter (has_live h) blocks) 0 h ≡ sealed_rows blocks 0 h
        → sealed_rows (cond x (b ∷ filter (has_live h) blocks) (filter (has_live h) blocks)) 0 h ≡ sealed_rows (b ∷ blocks) 0 h
    by true e rest =
        sealed_next b (filter (has_live h) blocks) 0 h (omega arith) ∙ ap (λ (l : List Row). live_rows 0 h b ++ l) rest ∙ sym (sealed_next b blocks 0 h (omega arith))
    by false e rest = rest ∙ ap (λ (l : List Row). l ++ sealed_rows blocks 0 h) (sym (dead h b 0 e)) ∙ sym (sealed_next b blocks 0 h (omega arith))

pub live_left : (skip : ℕ) (h : ℤ) (blocks : List Block) → IsSkip skip blocks → sealed_rows (filter (has_live h) blocks) (skip_left skip h blocks) h ≡ sealed_rows blocks skip h
live_left skip h [] is = sealed_none 0 h ∙ sym (sealed_none skip h)
live_left skip h (b ∷ blocks) is = by (has_live h b) refl
  where
    by : (x : Bool) → has_live h b ≡ x → sealed_rows (cond x (b ∷ filter (has_live h) blocks) (filter (has_live h) blocks)) (cond x skip 0) h ≡ sealed_rows (b ∷ blocks) skip h
    by true e =
        sealed_next b (filter (has_live h) blocks) skip h (omega (arith, is)) ∙ ap (λ (l : List Row). live_rows skip h b ++ l) (dead_gone h blocks) ∙ sym (sealed_next b blocks skip h (omega (arith, is)))
    by false e =
        dead_gone h blocks ∙ ap (λ (l : List Row). l ++ sealed_rows blocks 0 h) (sym (dead h b skip e)) ∙ sym (sealed_next b blocks skip h (omega (arith, is)))

pub each_behind : (n : ℕ) (blocks : List Block) → AllByRecursion IsBlock blocks → AllByRecursion IsBlock (drop n blocks)
each_behind zero blocks all = all
each_behind (suc n) [] all = tt
each_behind (suc n) (b ∷ blocks) all = each_behind n blocks all.1
