-- Bits that are put behind others, in plain numbers.
use Rattle.std.proofs.Common.{◌≡◌, ℕ, ◌+◌, ◌*◌, ◌/◌, ◌%◌, ◌^◌, ◌<◌, ◌≤◌, List, ◌++◌, length, take, sym, ap, ◌∙◌, arith}
use Rattle.std.proofs.Math.Nat.{mul_assoc, add-mul, pow-le-pow_right, mod-eq_of_lt}
use Rattle.std.proofs.lemmas.Nat.{pow-add, mul-add-lt, div-add-mod', mod_below}
use Rattle.std.proofs.lemmas.List.{length-append}
use Rattle.std.specs.Int.{w64, to_le_bytes, div_ceil}
use Rattle.bit_columns.specs.Number.{number, AreBytes}
use Rattle.bit_columns.proofs.Numbers.{number-append, number-take, number-to_le_bytes}

-- bits above bits
pub above_lt : (waiting value count width : ℕ) → waiting < 2 ^ count → value < 2 ^ width
    → value * 2 ^ count + waiting < 2 ^ (count + width)
above_lt waiting value count width low high =
    let below = mul-add-lt value (2 ^ count) waiting (2 ^ width) high low in
    omega (arith, pow-add 2 count width)

-- the bits that wait grow
pub written_waiting : (front waiting value count bytes : ℕ)
    → front + (value * 2 ^ count + waiting) * 2 ^ bytes ≡ front + waiting * 2 ^ bytes + value * 2 ^ (bytes + count)
written_waiting front waiting value count bytes =
    let spread = add-mul (value * 2 ^ count) waiting (2 ^ bytes) in
    let regrouped = mul_assoc value (2 ^ count) (2 ^ bytes) in
    let e : count + bytes ≡ bytes + count = omega arith in
    let power = ap (λ n. value * n) (sym (pow-add 2 count bytes) ∙ ap (λ n. 2 ^ n) e) in
    omega arith

-- a whole word goes to the bytes, and the rest waits
pub written_word : (bytes : List ℕ) (all : ℕ)
    → number (bytes ++ to_le_bytes w64 (all % 2 ^ 64)) + all / 2 ^ 64 * 2 ^ (8 * length (bytes ++ to_le_bytes w64 (all % 2 ^ 64)))
    ≡ number bytes + all * 2 ^ (8 * length bytes)
written_word bytes all =
    let low = all % 2 ^ 64 in
    let high = all / 2 ^ 64 in
    let word = to_le_bytes w64 low in
    let size = 2 ^ (8 * length bytes) in
    let parts = number-append bytes word in
    let value = ap (λ n. n * size) (number-to_le_bytes low (mod_below all (2 ^ 64) (omega arith))) in
    let len = length-append bytes word in
    let e : 8 * length (bytes ++ word) ≡ 64 + 8 * length bytes = omega arith in
    let grown : high * 2 ^ (8 * length (bytes ++ word)) ≡ high * 2 ^ 64 * size =
    ap (λ n. high * 2 ^ n) e ∙ ap (λ n. high * n) (pow-add 2 64 (8 * length bytes)) ∙ sym (mul_assoc high (2 ^ 64) size) in
    let whole = div-add-mod' all (2 ^ 64) in
    let spread : all * size ≡ high * 2 ^ 64 * size + low * size = ap (λ n. n * size) (sym whole) ∙ add-mul (high * 2 ^ 64) low size in
    omega arith

-- the last bits, in the bytes that they take
pub written_last : (bytes : List ℕ) (waiting count : ℕ) → count < 64 → waiting < 2 ^ count
    → AreBytes (to_le_bytes w64 waiting)
    → number (bytes ++ take (div_ceil count 8) (to_le_bytes w64 waiting)) ≡ number bytes + waiting * 2 ^ (8 * length bytes)
written_last bytes waiting count few low are =
    let used = div_ceil count 8 in
    let word = to_le_bytes w64 waiting in
    let wide : 2 ^ count ≤ 2 ^ 64 = pow-le-pow_right {n = 2} (omega arith) {i = count} {j = 64} (omega arith) in
    let held : 2 ^ count ≤ 2 ^ (8 * used) = pow-le-pow_right {n = 2} (omega arith) {i = count} {j = 8 * used} (omega arith) in
    let value : number (take used word) ≡ waiting =
    number-take used word are ∙ ap (λ n. n % 2 ^ (8 * used)) (number-to_le_bytes waiting (omega arith))
    ∙ mod-eq_of_lt {n = waiting} {m = 2 ^ (8 * used)} (omega arith) in
    number-append bytes (take used word) ∙ ap (λ n. number bytes + n * 2 ^ (8 * length bytes)) value
