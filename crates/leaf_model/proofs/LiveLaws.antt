-- Bytes behind others that are cut off.
use Rattle.std.proofs.Common.{◌≡◌, ℕ, zero, suc, ◌+◌, ◌≤◌, List, [], ◌∷◌, ◌++◌, length, take, drop, refl, sym, ap, ◌∙◌, drop-drop, arith}

-- bytes that are put behind all stand behind those that are left
pub drop_more : (k : ℕ) (all more now : List ℕ) → k ≤ length all → now ≡ all ++ more → drop k now ≡ drop k all ++ more
drop_more k all more now le e = ap (drop k) e ∙ inner k all le
  where
    inner : (n : ℕ) (xs : List ℕ) → n ≤ length xs → drop n (xs ++ more) ≡ drop n xs ++ more
    inner zero xs le = refl
    inner (suc n) [] le = absurd (omega (arith, le))
    inner (suc n) (x ∷ xs) le = inner n xs (omega (arith, le))

-- more are cut off
pub cut_more : (dead count : ℕ) (all : List ℕ) → drop (dead + count) all ≡ drop count (drop dead all)
cut_more dead count all = sym (drop-drop count dead all)

abbrev no_bytes : List ℕ
no_bytes = []

none-taken : (n : ℕ) → no_bytes ≡ take n no_bytes
none-taken zero = refl
none-taken (suc n) = refl

pub take_left : (dead len : ℕ) (all : List ℕ) → drop dead (take (dead + len) all) ≡ take len (drop dead all)
take_left dead len all = inner dead (dead + len) all refl
  where
    inner : (k n : ℕ) (xs : List ℕ) → n ≡ k + len → drop k (take n xs) ≡ take len (drop k xs)
    inner zero n xs e = ap (λ (m : ℕ). take m xs) (omega (arith, e))
    inner (suc k) zero xs e = absurd (omega (arith, e))
    inner (suc k) (suc n) [] e = none-taken len
    inner (suc k) (suc n) (x ∷ xs) e = inner k n xs (omega (arith, e))
