-- What a word shows of a bit string: the steps of reading it, in plain numbers.
use Rattle.std.proofs.Common.{◌≡◌, ℕ, ◌+◌, ◌-◌, ◌*◌, ◌/◌, ◌%◌, ◌^◌, ◌<◌, ◌≤◌, List, [], ◌∷◌, ◌++◌, length, take, drop, get_or, slice_index, bit_or, sym, ap, ap₂, ◌∙◌, arith}
use Rattle.std.proofs.Math.Nat.{pow-le-pow_right, mul_assoc, add-mul-div_right}
use Rattle.std.proofs.lemmas.Nat.{pow-add, mod-pow-add, shr_high, mod_low, pow_pos, or_comm, or_shifted, shr_below, shl_whole}
use Rattle.std.proofs.lemmas.List.{take_more, drop_more, length-drop, get_or-drop, length-take-le}
use Rattle.bit_columns.specs.Number.{number, AreBytes}
use Rattle.bit_columns.proofs.Numbers.{number-append, number-lt}

-- a word's upper bits, and a byte's lower ones above them
pub or_crossing : (word next s t : ℕ) → s + t ≡ 64 → word < 2 ^ 64
    → bit_or (word / 2 ^ s) (next * 2 ^ t % 2 ^ 64) ≡ (next * 2 ^ 64 + word) / 2 ^ s % 2 ^ 64
or_crossing word next s t e h =
    let high : word / 2 ^ s < 2 ^ t = shr_below word t s (let f : t + s ≡ 64 = omega arith in rw f h) in
    let whole : 2 ^ 64 ≡ 2 ^ t * 2 ^ s = ap (λ n. 2 ^ n) (let f : 64 ≡ t + s = omega arith in f) ∙ pow-add 2 t s in
    let cut : (n : ℕ) → n % 2 ^ 64 ≡ (n / 2 ^ t % 2 ^ s) * 2 ^ t + n % 2 ^ t = λ n. ap (λ k. n % 2 ^ k) (sym e) ∙ mod-pow-add n s t in
    let shifted : next * 2 ^ t % 2 ^ 64 ≡ (next % 2 ^ s) * 2 ^ t =
    let zeroed : next * 2 ^ t + 0 ≡ next * 2 ^ t = omega arith in
    let top = shr_high next t 0 (pow_pos t) in
    let bottom = mod_low next t 0 (pow_pos t) in
    let parts = cut (next * 2 ^ t + 0) in
    ap (λ n. n % 2 ^ 64) (sym zeroed) ∙ parts ∙ ap₂ (λ a b. (a % 2 ^ s) * 2 ^ t + b) top bottom ∙ (omega arith) in
    let moved : (next * 2 ^ 64 + word) / 2 ^ s ≡ next * 2 ^ t + word / 2 ^ s =
    let split : next * 2 ^ 64 + word ≡ word + next * 2 ^ t * 2 ^ s = omega (arith, ap (λ n. next * n) whole, mul_assoc next (2 ^ t) (2 ^ s)) in
    ap (λ n. n / 2 ^ s) split ∙ add-mul-div_right word (next * 2 ^ t) (pow_pos s) ∙ (omega arith) in
    let parts = cut (next * 2 ^ t + word / 2 ^ s) in
    let below : (next * 2 ^ t + word / 2 ^ s) % 2 ^ 64 ≡ (next % 2 ^ s) * 2 ^ t + word / 2 ^ s =
    parts ∙ ap₂ (λ a b. (a % 2 ^ s) * 2 ^ t + b) (shr_high next t (word / 2 ^ s) high) (mod_low next t (word / 2 ^ s) high) in
    ap (bit_or (word / 2 ^ s)) shifted ∙ or_comm (word / 2 ^ s) ((next % 2 ^ s) * 2 ^ t)
    ∙ or_shifted (next % 2 ^ s) t (word / 2 ^ s) high
    ∙ sym below ∙ ap (λ n. n % 2 ^ 64) (sym moved)

-- one more byte below the bytes read
pub or_byte : (bytes : List ℕ) (place : ℕ) → AreBytes bytes → place < length bytes → length bytes ≤ place + 8
    → bit_or (number (drop (place + 1) bytes) * 2 ^ 8 % 2 ^ 64) (slice_index bytes place) ≡ number (drop place bytes)
or_byte bytes place h inside few =
    let rest = drop (place + 1) bytes in
    let len : length rest ≡ length bytes - (place + 1) = length-drop (place + 1) bytes in
    let are : AreBytes rest = λ i. let e = get_or-drop (place + 1) bytes i 0 in omega (arith, e, h (place + 1 + i)) in
    let fits : 2 ^ (8 * length rest) ≤ 2 ^ 56 = pow-le-pow_right {n = 2} (omega arith) {i = 8 * length rest} {j = 56} (omega arith) in
    let below : number rest < 2 ^ 56 = omega (arith, number-lt rest are) in
    let whole = shl_whole (number rest) 56 8 64 below (omega arith) in
    let read = ap number (drop_more bytes place 0 inside) in
    ap (λ n. bit_or n (slice_index bytes place)) whole ∙ or_shifted (number rest) 8 (slice_index bytes place) (h place) ∙ omega (arith, read)

-- nine bytes are a word and a byte
pub number-nine : (bytes : List ℕ) (at : ℕ) → at + 8 < length bytes
    → number (take 9 (drop at bytes)) ≡ slice_index bytes (at + 8) * 2 ^ 64 + number (take 8 (drop at bytes))
number-nine bytes at inside =
    let rest = drop at bytes in
    let len = length-drop at bytes in
    let more : take 9 rest ≡ take 8 rest ++ get_or rest 8 0 ∷ [] = take_more rest 8 0 (omega arith) in
    let eight = length-take-le 8 rest (omega arith) in
    let byte = get_or-drop at bytes 8 0 in
    let parts = number-append (take 8 rest) (get_or rest 8 0 ∷ []) in
    let power : 2 ^ (8 * length (take 8 rest)) ≡ 2 ^ 64 = ap (λ n. 2 ^ (8 * n)) eight in
    omega (arith, ap number more, parts, ap (λ n. (get_or rest 8 0 + 256 * 0) * n) power, byte)
