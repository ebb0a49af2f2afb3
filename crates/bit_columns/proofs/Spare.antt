-- The spare bits of the last byte.
use Rattle.std.proofs.Common.{◌≡◌, ℕ, ◌+◌, ◌-◌, ◌*◌, ◌/◌, ◌%◌, ◌^◌, ◌<◌, List, length, slice_index, sym, ap, ap₂, ◌∙◌, arith, inl, inr}
use Rattle.std.proofs.lemmas.Bool.{cases_lt}
use Rattle.std.proofs.lemmas.Nat.{shr_split, shr_le, mod_below, pow_pos, shr-shr}
use Rattle.std.proofs.lemmas.Nat.Bits.{bit_at_above, bit_at-zero, same_from_bits_below}
use Rattle.std.specs.Int.{bit_at, div_ceil}
use Rattle.bit_columns.specs.Number.{AreBytes}
use Rattle.bit_columns.specs.Bits.{IsBits}

pub IsBits-from_last : (bytes : List ℕ) (bits : ℕ) → length bytes ≡ div_ceil bits 8 → 0 < bits % 8
    → slice_index bytes (length bytes - 1) / 2 ^ (bits % 8) ≡ 0 → IsBits bytes bits
IsBits-from_last bytes bits whole some none =
    let last = slice_index bytes (length bytes - 1) in
    let below : last < 2 ^ (bits % 8) =
    let split = shr_split last (bits % 8) in
    let high = ap (λ n. n * 2 ^ (bits % 8)) none in
    let low = mod_below last (2 ^ (bits % 8)) (pow_pos (bits % 8)) in
    omega arith in
    record {
      whole = whole;
      spare = λ b from to.
          let byte : b / 8 ≡ length bytes - 1 = omega arith in
          ap (λ i. bit_at (slice_index bytes i) (b % 8)) byte ∙ bit_at_above last (bits % 8) (b % 8) below (omega arith);
    }

pub last_from_IsBits : (bytes : List ℕ) (bits : ℕ) → AreBytes bytes → IsBits bytes bits → 0 < bits % 8
    → slice_index bytes (length bytes - 1) / 2 ^ (bits % 8) ≡ 0
last_from_IsBits bytes bits h is some =
    let last = slice_index bytes (length bytes - 1) in
    let whole = is.whole in
    let below : last < 2 ^ 8 = h (length bytes - 1) in
    let high : last / 2 ^ (bits % 8) < 2 ^ 8 = omega (arith, shr_le last (bits % 8)) in
    same_from_bits_below 8 (last / 2 ^ (bits % 8)) 0 high (omega arith) (λ i inside.
    let place = bits % 8 + i in
    ap (λ n. n % 2) (shr-shr last (bits % 8) i)
    ∙ (elim (cases_lt place 8) as (λ _. bit_at last place ≡ bit_at 0 i) [
      | inl within ↦
          let b = 8 * (length bytes - 1) + place in
          let byte : b / 8 ≡ length bytes - 1 = omega arith in
          let rest : b % 8 ≡ place = omega arith in
          sym (ap₂ (λ k m. bit_at (slice_index bytes k) m) byte rest) ∙ is.spare b (omega arith) (omega arith) ∙ sym (bit_at-zero i)
      | inr past ↦ bit_at_above last 8 place below past ∙ sym (bit_at-zero i)
    ]))
