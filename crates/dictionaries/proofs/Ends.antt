-- Ends that do not fall.
use Rattle.std.proofs.Common.{◌≡◌, ℕ, zero, suc, ◌+◌, ◌*◌, ◌<◌, ◌≤◌, List, length, inl, inr, subst, arith}
use Rattle.std.proofs.lemmas.Bool.{cases_lt}
use Rattle.dictionaries.specs.Dictionary.{text_count, text_from, AreEnds}

-- what rises at each step is at most what it comes to
pub rises : (f : ℕ → ℕ) (n : ℕ) → ((k : ℕ) → k < n → f k ≤ f (suc k)) → (j : ℕ) → j ≤ n → f j ≤ f n
rises f zero steps j h = let e : 0 ≡ j = omega arith in subst (λ i. f i ≤ f 0) e (omega arith)
rises f (suc n) steps j h = elim (cases_lt j (suc n)) [
  | inl below ↦ let before = rises f n (λ k within. steps k (omega arith)) j (omega arith) in let last = steps n (omega arith) in omega arith
  | inr past ↦ let e : suc n ≡ j = omega arith in subst (λ i. f i ≤ f (suc n)) e (omega arith)
]

-- each text ends within the bytes
pub ends_inside : (extra : List ℕ) → AreEnds extra → (k : ℕ) → k < text_count extra → 4 + 4 * text_count extra + text_from extra (suc k) ≤ length extra
ends_inside extra ends k within =
    let last = rises (text_from extra) (text_count extra) ends.rising (suc k) (omega arith) in
    let whole = ends.whole in
    omega arith
