-- What a mask leaves.
use Rattle.std.proofs.Common.{◌≡◌, ℕ, zero, suc, ◌+◌, List, [], ◌∷◌, length, map, drop, cond, Bool, ◌&&◌, ℤ, pos, int_le, slice_index_or, refl, sym, ap, ap₂, ◌∙◌, add-one, arith}
use Rattle.std.specs.List.{range_with_len}
use Rattle.std.proofs.Math.Dec.{leb-suc-suc, leb-suc-zero}
use Rattle.std.proofs.lemmas.Bool.{le-leb}
use Rattle.row_model.specs.declared.rows.Row.{Row}
use Rattle.leaf_model.specs.Content.{rows_from}
use Rattle.expiry.specs.Masks.{mask_of, rows_left, stays_at, times_of}

-- what f gives for the successors, g gives for the numbers
successors : (f g : ℕ → Bool) → ((k : ℕ) → f (suc k) ≡ g k) → (a n : ℕ) → map f (range_with_len (a + 1) n) ≡ map g (range_with_len a n)
successors f g same a zero = refl
successors f g same a (suc n) = ap₂ (λ (b : Bool) (bs : List Bool). b ∷ bs) (ap f (add-one a) ∙ same a) (successors f g same (a + 1) n)

-- the test of a place where one row more stands in front
uncut : (row : Row) (rows : List Row) (horizon : ℤ) (k : ℕ) → stays_at (times_of (row ∷ rows)) 0 horizon (suc k) ≡ stays_at (times_of rows) 0 horizon k
uncut row rows horizon k = ap (λ (b : Bool). b && int_le horizon (slice_index_or (times_of rows) k (pos 0))) (le-leb 0 (suc k) (omega arith) ∙ sym (le-leb 0 k (omega arith)))

one_less : (row : Row) (rows : List Row) (skip : ℕ) (horizon : ℤ) (k : ℕ) → stays_at (times_of (row ∷ rows)) (suc skip) horizon (suc k) ≡ stays_at (times_of rows) skip horizon k
one_less row rows skip horizon k = ap (λ (b : Bool). b && int_le horizon (slice_index_or (times_of rows) k (pos 0))) (leb-suc-suc skip k)

pub masks_leave : (rows : List Row) (skip : ℕ) (horizon : ℤ) → rows_left (mask_of (times_of rows) skip horizon) rows ≡ rows_from horizon (drop skip rows)
masks_leave [] zero horizon = refl
masks_leave [] (suc skip) horizon = refl
masks_leave (row ∷ rows) zero horizon =
    ap (λ (mask : List Bool). rows_left (int_le horizon row.time ∷ mask) (row ∷ rows))
    (successors (stays_at (times_of (row ∷ rows)) 0 horizon) (stays_at (times_of rows) 0 horizon) (uncut row rows horizon) 0 (length (times_of rows)))
    ∙ ap (λ (left : List Row). cond (int_le horizon row.time) (row ∷ left) left) (masks_leave rows 0 horizon)
masks_leave (row ∷ rows) (suc skip) horizon =
    ap₂ (λ (first : Bool) (mask : List Bool). rows_left (first ∷ mask) (row ∷ rows))
    (ap (λ (b : Bool). b && int_le horizon row.time) (leb-suc-zero skip))
    (successors (stays_at (times_of (row ∷ rows)) (suc skip) horizon) (stays_at (times_of rows) skip horizon) (one_less row rows skip horizon) 0 (length (times_of rows)))
    ∙ masks_leave rows skip horizon
