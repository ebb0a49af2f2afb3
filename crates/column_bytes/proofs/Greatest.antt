-- Codes of a width lie between 0 and the greatest one, and what stands for values is whole: no code between two that do
-- is left out.
use Rattle.std.proofs.Common.{◌≡◌, ℕ, zero, suc, ◌+◌, ◌*◌, ◌/◌, ◌%◌, ◌^◌, ◌<◌, ◌≤◌, List, slice_index, ap, ◌∙◌, arith}
use Rattle.std.proofs.lemmas.Int.{ints}
use Rattle.std.proofs.lemmas.Nat.{mod_below, pow-add}
use Rattle.bit_columns.specs.Bits.{bit, bits_from}
use Rattle.column_bytes.specs.Cells.{Codebook, Base, Anchors, Entries, Sets, IsCode}

pub bits_small : (bytes : List ℕ) (from w : ℕ) → bits_from bytes from w < 2 ^ w
unfolding bits_from
bits_small bytes from zero = omega arith
bits_small bytes from (suc w) =
    let low : bit bytes from < 2 = mod_below (slice_index bytes (from / 8) / 2 ^ (from % 8)) 2 (omega arith) in
    let rest = bits_small bytes (from + 1) w in
    let e : suc w ≡ 1 + w = omega arith in
    let power : 2 ^ suc w ≡ 2 ^ 1 * 2 ^ w = ap (λ n. 2 ^ n) e ∙ pow-add 2 1 w in
    omega (arith, low, rest, power)

pub between : (book : Codebook) (code greatest : ℕ) → IsCode book 0 → IsCode book greatest → code ≤ greatest → IsCode book code
between (Base base) code greatest least most h = grind (arith, ints)
between (Anchors anchors) code greatest least most h = tt
between (Entries texts) code greatest least most h = omega (arith, most, h)
between (Sets sets) code greatest least most h = omega (arith, most, h)
