-- Four small codes in one word.
use Rattle.std.proofs.Common.{◌≡◌, ℕ, ◌+◌, ◌*◌, ◌/◌, ◌%◌, ◌^◌, ◌<◌, ◌≤◌, ap, subst, ◌∙◌, arith, inl, inr}
use Rattle.std.proofs.Math.Nat.{mul-le-mul_right, add-mul}
use Rattle.std.proofs.lemmas.Bool.{cases_lt}
use Rattle.std.proofs.lemmas.Nat.{shr-shr}

-- what is known of a word after j of its codes: the codes behind them, and that none of them is above a number
pub record Seen (rest word width most j : ℕ) : Type 0 where
  pub rest_is : rest ≡ word / 2 ^ (j * width)
  pub below : (k : ℕ) → k < j → word / 2 ^ (k * width) % 2 ^ width ≤ most

pub next_seen : (rest word width most j : ℕ) → Seen rest word width most j → rest % 2 ^ width ≤ most → Seen (rest / 2 ^ width) word width most (j + 1)
next_seen rest word width most j seen low =
    let place : j * width + width ≡ (j + 1) * width = omega (arith, add-mul j 1 width) in
    record {
      rest_is = ap (λ n. n / 2 ^ width) seen.rest_is ∙ shr-shr word (j * width) width ∙ ap (λ n. word / 2 ^ n) place;
      below = λ k h. elim (cases_lt k j) [
        | inl before ↦ seen.below k before
        | inr last ↦
            let same : j ≡ k = omega arith in
            subst (λ i. word / 2 ^ (i * width) % 2 ^ width ≤ most) same (subst (λ n. n % 2 ^ width ≤ most) seen.rest_is low)
      ];
    }

-- the eight bytes that the first of four codes begins in hold all four
pub four_fit : (width j from : ℕ) → width ≤ 14 → j < 4 → from % 8 + j * width + width ≤ 64
four_fit width j from small few =
    let spread : j * width ≤ 3 * width = mul-le-mul_right width (omega (arith, few)) in
    omega (arith, small, spread)
