-- Bytes as one number: its parts, and what it is below.
use Rattle.std.proofs.Common.{◌≡◌, ℕ, zero, suc, ◌+◌, ◌-◌, ◌*◌, ◌/◌, ◌%◌, ◌^◌, ◌<◌, List, [], ◌∷◌, ◌++◌, length, take, drop, refl, sym, ap, ap₂, ◌∙◌, arith, inl, inr}
use Rattle.std.proofs.Math.Nat.{zero-div, zero-mod, div-one, mul_left_comm}
use Rattle.std.proofs.lemmas.Nat.{pow-add, mod-pow-add, shr-shr, shr_high, mod_low, mod_below, pow_pos, from_le_bytes-to_le_bytes_8}
use Rattle.std.proofs.lemmas.List.{get_or-drop, get_or_append_left, get_or-append_right, take_all}
use Rattle.std.proofs.lemmas.Bool.{cases_lt}
use Rattle.std.specs.Int.{w64, to_le_bytes}
use Rattle.bit_columns.specs.Number.{number, AreBytes}

pub number-low : (b : ℕ) (bytes : List ℕ) → b < 256 → number (b ∷ bytes) % 2 ^ 8 ≡ b
number-low b bytes h = ap (λ n. n % 2 ^ 8) (omega arith) ∙ mod_low (number bytes) 8 b h

pub number-high : (b : ℕ) (bytes : List ℕ) → b < 256 → number (b ∷ bytes) / 2 ^ 8 ≡ number bytes
number-high b bytes h = ap (λ n. n / 2 ^ 8) (omega arith) ∙ shr_high (number bytes) 8 b h

pub number-drop : (k : ℕ) (bytes : List ℕ) → AreBytes bytes → number (drop k bytes) ≡ number bytes / 2 ^ (8 * k)
number-drop zero bytes h = sym (div-one (number bytes))
number-drop (suc k) [] h = sym (zero-div (2 ^ (8 * suc k)))
number-drop (suc k) (b ∷ bytes) h =
    let rest = number-drop k bytes (λ i. h (suc i)) in
    let high = number-high b bytes (h 0) in
    let shifted = shr-shr (number (b ∷ bytes)) 8 (8 * k) in
    let e : 8 + 8 * k ≡ 8 * suc k = omega arith in
    rest ∙ ap (λ n. n / 2 ^ (8 * k)) (sym high) ∙ shifted ∙ ap (λ n. number (b ∷ bytes) / 2 ^ n) e

pub number-take : (m : ℕ) (bytes : List ℕ) → AreBytes bytes → number (take m bytes) ≡ number bytes % 2 ^ (8 * m)
number-take zero bytes h = let below = mod_below (number bytes) 1 (omega arith) in omega arith
number-take (suc m) [] h = sym (zero-mod (2 ^ (8 * suc m)))
number-take (suc m) (b ∷ bytes) h =
    let rest = number-take m bytes (λ i. h (suc i)) in
    let e : 8 * m + 8 ≡ 8 * suc m = omega arith in
    let parts = mod-pow-add (number (b ∷ bytes)) (8 * m) 8 in
    let cut : number (b ∷ bytes) % 2 ^ (8 * suc m) ≡ (number bytes % 2 ^ (8 * m)) * 2 ^ 8 + b =
    ap (λ n. number (b ∷ bytes) % 2 ^ n) (sym e) ∙ parts
    ∙ ap₂ (λ x y. (x % 2 ^ (8 * m)) * 2 ^ 8 + y) (number-high b bytes (h 0)) (number-low b bytes (h 0)) in
    omega arith

pub number-append : (xs ys : List ℕ) → number (xs ++ ys) ≡ number xs + number ys * 2 ^ (8 * length xs)
number-append [] ys = omega arith
number-append (b ∷ xs) ys =
    let rest = number-append xs ys in
    let e : 8 * length (b ∷ xs) ≡ 8 + 8 * length xs = omega arith in
    let grown : 2 ^ (8 * length (b ∷ xs)) ≡ 256 * 2 ^ (8 * length xs) = ap (λ n. 2 ^ n) e ∙ pow-add 2 8 (8 * length xs) in
    let moved : number ys * (256 * 2 ^ (8 * length xs)) ≡ 256 * (number ys * 2 ^ (8 * length xs)) = mul_left_comm (number ys) 256 (2 ^ (8 * length xs)) in
    let here = ap (λ n. number ys * n) grown in
    omega arith

-- the bytes of a number of 64 bits
pub number-to_le_bytes : (n : ℕ) → n < 2 ^ 64 → number (to_le_bytes w64 n) ≡ n
number-to_le_bytes n h = omega (arith, from_le_bytes-to_le_bytes_8 n h)

-- the bits that m bytes hold, cut out from the byte at `at` on
pub number-window : (bytes : List ℕ) (at m : ℕ) → AreBytes bytes
    → number (take m (drop at bytes)) ≡ number bytes / 2 ^ (8 * at) % 2 ^ (8 * m)
number-window bytes at m h =
    number-take m (drop at bytes) (λ i. let e = get_or-drop at bytes i 0 in omega (arith, e, h (at + i)))
    ∙ ap (λ n. n % 2 ^ (8 * m)) (number-drop at bytes h)

pub number-lt : (bytes : List ℕ) → AreBytes bytes → number bytes < 2 ^ (8 * length bytes)
number-lt bytes h =
    let all = take_all (length bytes) bytes (omega arith) in
    let below = mod_below (number bytes) (2 ^ (8 * length bytes)) (pow_pos (8 * length bytes)) in
    omega (arith, number-take (length bytes) bytes h, ap number all)

pub AreBytes-to_le_bytes : (n : ℕ) → AreBytes (to_le_bytes w64 n)
AreBytes-to_le_bytes n zero = omega arith
AreBytes-to_le_bytes n (suc zero) = mod_below (n / 256 ^ 1) 256 (omega arith)
AreBytes-to_le_bytes n (suc (suc zero)) = mod_below (n / 256 ^ 2) 256 (omega arith)
AreBytes-to_le_bytes n (suc (suc (suc zero))) = mod_below (n / 256 ^ 3) 256 (omega arith)
AreBytes-to_le_bytes n (suc (suc (suc (suc zero)))) = mod_below (n / 256 ^ 4) 256 (omega arith)
AreBytes-to_le_bytes n (suc (suc (suc (suc (suc zero))))) = mod_below (n / 256 ^ 5) 256 (omega arith)
AreBytes-to_le_bytes n (suc (suc (suc (suc (suc (suc zero)))))) = mod_below (n / 256 ^ 6) 256 (omega arith)
AreBytes-to_le_bytes n (suc (suc (suc (suc (suc (suc (suc zero))))))) = mod_below (n / 256 ^ 7) 256 (omega arith)
AreBytes-to_le_bytes n (suc (suc (suc (suc (suc (suc (suc (suc i)))))))) = omega arith

pub AreBytes-append : (xs ys : List ℕ) → AreBytes xs → AreBytes ys → AreBytes (xs ++ ys)
AreBytes-append xs ys h k i = elim (cases_lt i (length xs)) [
  | inl first ↦ omega (arith, get_or_append_left xs ys 0 i first, h i)
  | inr later ↦ omega (arith, get_or-append_right xs ys (length xs) i 0 refl later, k (i - length xs))
]

pub AreBytes-take : (n : ℕ) (xs : List ℕ) → AreBytes xs → AreBytes (take n xs)
AreBytes-take zero xs h i = omega arith
AreBytes-take (suc n) [] h i = omega arith
AreBytes-take (suc n) (x ∷ xs) h zero = h 0
AreBytes-take (suc n) (x ∷ xs) h (suc i) = AreBytes-take n xs (λ k. h (suc k)) i
