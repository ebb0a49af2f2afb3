-- Bits and codes, by the number that the bytes are.
use Rattle.std.proofs.Common.{◌≡◌, ℕ, zero, suc, ◌+◌, ◌-◌, ◌*◌, ◌/◌, ◌%◌, ◌^◌, ◌<◌, ◌≤◌, List, [], ◌∷◌, take, drop, slice_index, sym, ap, ap₂, ◌∙◌, arith, inl, inr}
use Rattle.std.proofs.Math.Pow.{mod-mod-pow}
use Rattle.std.proofs.lemmas.Bool.{cases_lt}
use Rattle.std.proofs.lemmas.Nat.{mod-pow-add, shr-shr, mod_below, pow_pos, field_of}
use Rattle.std.proofs.lemmas.Nat.Bits.{bit_at-zero, bit_at_cat_low, bit_at_cat_high}
use Rattle.std.specs.Int.{bit_at}
use Rattle.bit_columns.specs.Number.{number, AreBytes}
use Rattle.bit_columns.specs.Bits.{bit, bits_from}
use Rattle.bit_columns.proofs.Numbers.{number-window}

pub bit-is : (bytes : List ℕ) → AreBytes bytes → (b : ℕ) → bit bytes b ≡ bit_at (number bytes) b
bit-is [] h b = bit_at-zero (b % 8) ∙ sym (bit_at-zero b)
bit-is (x ∷ bytes) h b =
    let whole : number (x ∷ bytes) ≡ number bytes * 2 ^ 8 + x = omega arith in
    elim (cases_lt b 8) [
      | inl low ↦
          let byte : b / 8 ≡ 0 = omega arith in
          let place : b % 8 ≡ b = omega arith in
          ap₂ (λ i k. bit_at (slice_index (x ∷ bytes) i) k) byte place
          ∙ sym (bit_at_cat_low (number bytes) 8 x b low) ∙ ap (λ n. bit_at n b) (sym whole)
      | inr high ↦
          let byte : b / 8 ≡ suc ((b - 8) / 8) = omega arith in
          let place : b % 8 ≡ (b - 8) % 8 = omega arith in
          ap₂ (λ i k. bit_at (slice_index (x ∷ bytes) i) k) byte place
          ∙ bit-is bytes (λ i. h (suc i)) (b - 8)
          ∙ sym (bit_at_cat_high (number bytes) 8 x b (h 0) high) ∙ ap (λ n. bit_at n b) (sym whole)
    ]

pub bits_from-is : (bytes : List ℕ) → AreBytes bytes → (from w : ℕ) → bits_from bytes from w ≡ number bytes / 2 ^ from % 2 ^ w
unfolding bits_from
bits_from-is bytes h from zero = let below = mod_below (number bytes / 2 ^ from) 1 (omega arith) in omega arith
bits_from-is bytes h from (suc w) =
    let first = bit-is bytes h from in
    let rest = bits_from-is bytes h (from + 1) w in
    let shifted = shr-shr (number bytes) from 1 in
    let parts = mod-pow-add (number bytes / 2 ^ from) w 1 in
    let e : w + 1 ≡ suc w = omega arith in
    let cut : number bytes / 2 ^ from % 2 ^ suc w ≡ (number bytes / 2 ^ (from + 1) % 2 ^ w) * 2 + number bytes / 2 ^ from % 2 =
    ap (λ n. number bytes / 2 ^ from % 2 ^ n) (sym e) ∙ parts
    ∙ ap (λ n. (n % 2 ^ w) * 2 + number bytes / 2 ^ from % 2) shifted in
    omega arith

-- the bits from a place on, cut out of m bytes that hold them
pub bits_from-window : (bytes : List ℕ) (at skipped from w m : ℕ) → AreBytes bytes → from ≡ 8 * at + skipped → skipped + w ≤ 8 * m
    → number (take m (drop at bytes)) / 2 ^ skipped % 2 ^ w ≡ bits_from bytes from w
bits_from-window bytes at skipped from w m h place fits =
    let n = number bytes in
    let spare = 8 * m - (skipped + w) in
    let e : 8 * m ≡ spare + w + skipped = omega arith in
    ap (λ x. x / 2 ^ skipped % 2 ^ w) (number-window bytes at m h ∙ ap (λ k. n / 2 ^ (8 * at) % 2 ^ k) e)
    ∙ ap (λ x. x % 2 ^ w) (field_of (n / 2 ^ (8 * at)) (spare + w) skipped)
    ∙ mod-mod-pow (n / 2 ^ (8 * at) / 2 ^ skipped) spare w
    ∙ ap (λ x. x % 2 ^ w) (shr-shr n (8 * at) skipped)
    ∙ ap (λ k. n / 2 ^ k % 2 ^ w) (sym place)
    ∙ sym (bits_from-is bytes h from w)
