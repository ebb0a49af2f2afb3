-- Values put together to one number, w bits each.
use Rattle.std.proofs.Common.{◌≡◌, ℕ, zero, suc, ◌+◌, ◌*◌, ◌/◌, ◌%◌, ◌^◌, ◌<◌, List, [], ◌∷◌, ◌++◌, length, map, take, get_or, Bool, true, false, eqb, slice_index, refl, sym, ap, subst, ◌∙◌, arith, inl, inr}
use Rattle.std.proofs.Math.Nat.{div-one, mul_assoc, add-mul}
use Rattle.std.proofs.lemmas.Nat.{pow-add, shr-shr, shr_high, mod_low, mul-add-lt, pow_pos}
use Rattle.std.proofs.lemmas.Bool.{cases_lt}
use Rattle.std.proofs.lemmas.Nat.Bits.{bit_at_above}
use Rattle.std.proofs.lemmas.List.{take_more, length-take-le, length-map, get_or_past}
use Rattle.std.proofs.lemmas.List.FromFn.{fill_by_all}
use Rattle.std.specs.List.{All}
use Rattle.std.specs.Int.{bit_at, div_ceil, from_bool}
use Rattle.bit_columns.specs.Number.{number, AreBytes}
use Rattle.bit_columns.specs.Bits.{bit, code, codes, is_present, presence, IsBits}
use Rattle.bit_columns.proofs.Bits.{bit-is, bits_from-is}

abbrev pub joined : ℕ → List ℕ → ℕ
joined w [] = 0
joined w (v ∷ values) = joined w values * 2 ^ w + v

-- each is below the power of the width
abbrev pub AreNarrow : ℕ → List ℕ → Type 0
AreNarrow w values = (i : ℕ) → slice_index values i < 2 ^ w

pub AreNarrow-all : (w : ℕ) (values : List ℕ) → All (λ value. value < 2 ^ w) values → AreNarrow w values
AreNarrow-all w values all i = elim (cases_lt i (length values)) [
  | inl inside ↦ all i 0 inside
  | inr past ↦ omega (arith, get_or_past values i 0 past, pow_pos w)
]

pub joined-push : (w : ℕ) (values : List ℕ) (v : ℕ) → joined w (values ++ v ∷ []) ≡ joined w values + v * 2 ^ (length values * w)
joined-push w [] v = let e : 0 * w ≡ 0 = omega arith in let one : 2 ^ (0 * w) ≡ 1 = ap (λ n. 2 ^ n) e in omega (arith, ap (λ n. v * n) one)
joined-push w (x ∷ values) v =
    let rest = joined-push w values v in
    let e : suc (length values) * w ≡ length values * w + w = omega arith in
    let grown : v * 2 ^ (suc (length values) * w) ≡ v * 2 ^ (length values * w) * 2 ^ w =
    ap (λ n. v * 2 ^ n) e ∙ ap (λ n. v * n) (pow-add 2 (length values * w) w) ∙ sym (mul_assoc v (2 ^ (length values * w)) (2 ^ w)) in
    let spread : joined w (values ++ v ∷ []) * 2 ^ w ≡ joined w values * 2 ^ w + v * 2 ^ (length values * w) * 2 ^ w =
    ap (λ n. n * 2 ^ w) rest ∙ add-mul (joined w values) (v * 2 ^ (length values * w)) (2 ^ w) in
    omega arith

pub joined-at : (w : ℕ) (values : List ℕ) → AreNarrow w values → (i : ℕ) → i < length values
    → joined w values / 2 ^ (i * w) % 2 ^ w ≡ slice_index values i
joined-at w [] h i l = absurd (omega arith)
joined-at w (v ∷ values) h zero l =
    let e : 0 * w ≡ 0 = omega arith in
    ap (λ n. joined w (v ∷ values) / 2 ^ n % 2 ^ w) e ∙ ap (λ n. n % 2 ^ w) (div-one (joined w (v ∷ values)))
    ∙ mod_low (joined w values) w v (h 0)
joined-at w (v ∷ values) h (suc i) l =
    let e : suc i * w ≡ w + i * w = omega arith in
    ap (λ n. joined w (v ∷ values) / 2 ^ n % 2 ^ w) e
    ∙ ap (λ n. n % 2 ^ w) (sym (shr-shr (joined w (v ∷ values)) w (i * w)))
    ∙ ap (λ n. n / 2 ^ (i * w) % 2 ^ w) (shr_high (joined w values) w v (h 0))
    ∙ joined-at w values (λ k. h (suc k)) i (omega arith)

-- the codes of bytes that are the joined values
pub codes-joined : (bytes : List ℕ) (w : ℕ) (values : List ℕ) → AreBytes bytes → AreNarrow w values
    → number bytes ≡ joined w values → codes bytes w (length values) ≡ values
codes-joined bytes w values b h e =
    sym (fill_by_all (code bytes w) values (length values) 0 refl (λ k l.
    sym (bits_from-is bytes b (k * w) w ∙ ap (λ n. n / 2 ^ (k * w) % 2 ^ w) e ∙ joined-at w values h k l)))

pub joined-lt : (w : ℕ) (values : List ℕ) → AreNarrow w values → joined w values < 2 ^ (length values * w)
joined-lt w [] h = let e : 0 * w ≡ 0 = omega arith in omega (arith, ap (λ n. 2 ^ n) e)
joined-lt w (v ∷ values) h =
    let rest = joined-lt w values (λ i. h (suc i)) in
    let below = mul-add-lt (joined w values) (2 ^ w) v (2 ^ (length values * w)) rest (h 0) in
    let e : w + length values * w ≡ suc (length values) * w = omega arith in
    omega (arith, pow-add 2 w (length values * w), ap (λ n. 2 ^ n) e)

-- the bytes of the joined values have no spare bit that is 1
pub IsBits-joined : (bytes : List ℕ) (w : ℕ) (values : List ℕ) → AreBytes bytes → AreNarrow w values
    → length bytes ≡ div_ceil (length values * w) 8 → number bytes ≡ joined w values → IsBits bytes (length values * w)
IsBits-joined bytes w values b h whole e = record {
  whole = whole;
  spare = λ place from to.
      bit-is bytes b place ∙ bit_at_above (number bytes) (length values * w) place (omega (arith, joined-lt w values h)) from;
}

-- one more value
pub joined-more : (w : ℕ) (values : List ℕ) (i : ℕ) → i < length values
    → joined w (take (i + 1) values) ≡ joined w (take i values) + slice_index values i * 2 ^ (i * w)
joined-more w values i inside =
    ap (joined w) (take_more values i 0 inside) ∙ joined-push w (take i values) (slice_index values i)
    ∙ ap (λ n. joined w (take i values) + slice_index values i * 2 ^ (n * w)) (length-take-le i values (omega arith))

pub AreNarrow-bits : (bits : List Bool) → AreNarrow 1 (map from_bool bits)
AreNarrow-bits [] i = omega arith
AreNarrow-bits (true ∷ bits) zero = omega arith
AreNarrow-bits (false ∷ bits) zero = omega arith
AreNarrow-bits (b ∷ bits) (suc i) = AreNarrow-bits bits i

from_bool-is_one : (b : Bool) (n : ℕ) → n ≡ from_bool b → eqb n 1 ≡ b
from_bool-is_one true n e = ap (λ k. eqb k 1) e
from_bool-is_one false n e = ap (λ k. eqb k 1) e

pub from_bool-at : (bits : List Bool) (k : ℕ) → k < length bits → slice_index (map from_bool bits) k ≡ from_bool (get_or bits k false)
from_bool-at [] k h = absurd (omega arith)
from_bool-at (b ∷ bits) zero h = refl
from_bool-at (b ∷ bits) (suc k) h = from_bool-at bits k (omega arith)

-- the bits of bytes that are the joined bits
pub presence-joined : (bytes : List ℕ) (bits : List Bool) → AreBytes bytes
    → number bytes ≡ joined 1 (map from_bool bits) → presence bytes (length bits) ≡ bits
presence-joined bytes bits b e =
    sym (fill_by_all (is_present bytes) bits (length bits) false refl (λ k l.
    let place : k * 1 ≡ k = omega arith in
    let here = bit-is bytes b k ∙ ap (λ n. bit_at n k) e
    ∙ ap (λ j. joined 1 (map from_bool bits) / 2 ^ j % 2) (sym place)
    ∙ joined-at 1 (map from_bool bits) (AreNarrow-bits bits) k (omega (arith, length-map bits from_bool))
    ∙ from_bool-at bits k l in
    sym (from_bool-is_one (get_or bits k false) (bit bytes k) here)))

pub IsBits-joined_bits : (bytes : List ℕ) (bits : List Bool) → AreBytes bytes
    → length bytes ≡ div_ceil (length bits * 1) 8 → number bytes ≡ joined 1 (map from_bool bits) → IsBits bytes (length bits)
IsBits-joined_bits bytes bits b whole e =
    let same : length (map from_bool bits) * 1 ≡ length bits = omega (arith, length-map bits from_bool) in
    let size : length bytes ≡ div_ceil (length (map from_bool bits) * 1) 8 = omega (arith, length-map bits from_bool) in
    subst (IsBits bytes) same (IsBits-joined bytes 1 (map from_bool bits) b (AreNarrow-bits bits) size e)
