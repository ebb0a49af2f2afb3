-- A number of live rows of the first block, which is at most the number of all of them.
use Rattle.std.proofs.Common.{◌≡◌, ℕ, ◌-◌, ◌<◌, ◌≤◌, Bool, true, false, cond, filter, List, [], ◌∷◌, ◌++◌, length, drop, get_or, ℤ, refl, sym, ap, subst, arith}
use Rattle.std.proofs.lemmas.List.{length-drop}
use Rattle.row_model.specs.declared.rows.Row.{Row}
use Rattle.row_blocks.specs.Blocks.{Block}
use Rattle.row_blocks.specs.Held.{IsSkip, live_rows}
use Rattle.row_blocks.specs.Live.{has_live}
use Rattle.table_state.specs.Stored.{AreAhead, AreSealed, sealed_rows, skip_left}
use Rattle.table_state.proofs.Fronts.{cut_of, dead, ends_here}

pub none_ahead : (blocks : List Block) (skip : ℕ) (h : ℤ) → AreAhead 0 blocks skip h
none_ahead [] skip h = refl
none_ahead (b ∷ blocks) skip h = omega arith

more_ahead : (n : ℕ) (blocks more : List Block) (skip : ℕ) (h : ℤ) → AreAhead n blocks skip h → AreAhead n (blocks ++ more) skip h
more_ahead n [] more skip h is = subst (λ (m : ℕ). AreAhead m more skip h) (sym is) (none_ahead more skip h)
more_ahead n (b ∷ blocks) more skip h is = is

-- blocks that are sealed behind
pub sealed_ahead : (n : ℕ) (blocks : List Block) (skip : ℕ) (h : ℤ) (rows : List Row) (now : List Block) → AreSealed blocks rows now → AreAhead n blocks skip h → AreAhead n now skip h
sealed_ahead n blocks skip h rows now is ahead = subst (λ (l : List Block). AreAhead n l skip h) (sym is.is) (more_ahead n blocks is.more skip h ahead)

-- blocks without a live row leave
pub live_ahead : (n skip : ℕ) (h : ℤ) (blocks : List Block) → AreAhead n blocks skip h → AreAhead n (filter (has_live h) blocks) (skip_left skip h blocks) h
live_ahead n skip h [] is = is
live_ahead n skip h (b ∷ blocks) few = by (has_live h b) refl
  where
    by : (x : Bool) → has_live h b ≡ x → AreAhead n (cond x (b ∷ filter (has_live h) blocks) (filter (has_live h) blocks)) (cond x skip 0) h
    by true e = few
    by false e =
        let none = ap (λ (l : List Row). length l) (dead h b skip e) in let no : n ≡ 0 = omega (arith, none, few) in
        subst (λ (m : ℕ). AreAhead m (filter (has_live h) blocks) 0 h) (sym no) (none_ahead (filter (has_live h) blocks) 0 h)

-- what is left of the live rows of a block
pub left_ahead : (live rows : List Row) (left n m : ℕ) → live ≡ drop left rows → n ≤ length rows → m ≡ n - left → m ≤ length live
left_ahead live rows left n m is few e = let count = ap (λ (l : List Row). length l) is in omega (arith, count, length-drop left rows, few, e)

-- the first live rows end in the first block
module _ (blocks : List Block) (b : Block) (skip : ℕ) (h : ℤ) (some : 0 < length blocks) (at : b ≡ get_or blocks 0 b) where
  ahead_first : (n : ℕ) → AreAhead n blocks skip h → n ≤ length (live_rows skip h b)
  ahead_first n ahead = by blocks some at ahead
    where
      by : (l : List Block) → 0 < length l → b ≡ get_or l 0 b → AreAhead n l skip h → n ≤ length (live_rows skip h b)
      by [] none is few = absurd (omega (arith, none))
      by (x ∷ l) one is few = subst (λ (y : Block). n ≤ length (live_rows skip h y)) (sym is) few

  pub first_rows : (place gone n : ℕ) → IsSkip skip blocks → AreAhead n blocks skip h → gone < n → place < b.rows → live_rows place h b ≡ drop gone (live_rows skip h b)
      → sealed_rows blocks place h ≡ drop gone (sealed_rows blocks skip h)
  first_rows place gone n inside ahead less there same =
      ends_here blocks 0 b skip h some at (cut_of skip blocks inside) gone place (drop gone (sealed_rows blocks skip h)) (omega (arith, less, ahead_first n ahead)) there same refl
