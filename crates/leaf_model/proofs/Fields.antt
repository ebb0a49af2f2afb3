-- A field that is read is the field that was written, and what was written is read again.
use Rattle.std.proofs.Common.{◌≡◌, ℕ, suc, ◌+◌, ◌-◌, ◌^◌, ◌<◌, ◌≤◌, ℤ, pos, negsuc, Bool, true, false, cond, ltb, List, [], ◌∷◌, ◌++◌, length, take, drop, Option, Some, None, refl, sym, ap, subst, ◌∙◌, append_assoc, arith, inl, inr}
use Rattle.std.specs.Prelude.{FitsSigned}
use Rattle.std.specs.Str.{IsUtf8, is_utf8}
use Rattle.std.specs.Int.{Width, w16, w32, w64, byte_len, from_le_bytes, to_le_bytes, cast_signed, cast_unsigned}
use Rattle.std.proofs.lemmas.Bool.{cases_lt, ltb-false, ltb-true, lt-ltb, le-ltb}
use Rattle.std.proofs.lemmas.List.{take_at, drop_at, take-append-drop, length-append, length-take, get_or-drop, get_or-take, get_or_past}
use Rattle.std.proofs.lemmas.Nat.{le_bytes_2, le_bytes_4, le_bytes_8, from_le_bytes-to_le_bytes_2, from_le_bytes-to_le_bytes_4, from_le_bytes-to_le_bytes_8}
use Rattle.std.proofs.lemmas.Int.{ints}
use Rattle.std.proofs.lemmas.Str.{IsUtf8-from_is_utf8, is_utf8-from_IsUtf8}
use Rattle.leaf_model.specs.Bytes.{IsBytes, name_bytes, i64_bytes}
use Rattle.row_model.specs.Values.{IsTime}
use Rattle.leaf_model.specs.Reading.{◌>>=◌, byte_at, number_at, text_at, name_at, time_at}

pub IsBytes-drop : (n : ℕ) (bytes : List ℕ) → IsBytes bytes → IsBytes (drop n bytes)
IsBytes-drop n bytes h i = rw get_or-drop (h (n + i))

pub IsBytes-take : (n : ℕ) (bytes : List ℕ) → IsBytes bytes → IsBytes (take n bytes)
IsBytes-take n bytes h i =
    elim (cases_lt i n) [
      | inl lt ↦ rw (get_or-take n bytes i 0 lt) (h i)
      | inr le ↦ rw (get_or_past (take n bytes) i 0 (omega (arith, length-take n bytes))) (omega arith)
    ]

pub IsBytes-rest : (b : ℕ) (bytes : List ℕ) → IsBytes (b ∷ bytes) → IsBytes bytes
IsBytes-rest b bytes h i = h (suc i)

-- the value of a step that found something
pub bind_some : {A B : Type 0} (r : Option A) (f : A → Option B) (y : B) → (r >>= f) ≡ Some y → (x : A) × (r ≡ Some x) × (f x ≡ Some y)
bind_some (Some x) f y e = (x, refl, e)
bind_some None f y e = absurd cc

-- a test that did not stop the reading
pub passed : {A : Type 0} (b : Bool) (x : Option A) (y : A) → cond b None x ≡ Some y → (b ≡ false) × (x ≡ Some y)
passed true x y e = absurd cc
passed false x y e = (refl, e)

pub held : {A : Type 0} (b : Bool) (x : Option A) (y : A) → cond b x None ≡ Some y → (b ≡ true) × (x ≡ Some y)
held true x y e = (refl, e)
held false x y e = absurd cc

abbrev found : {A : Type 0} → A → Option A
found x = Some x

pub some_is : {A : Type 0} (x y : A) → found x ≡ found y → x ≡ y
some_is x y e = cc

-- what a reader took from the front
pub record Takes (bytes text rest : List ℕ) : Type 0 where
  pub parts : bytes ≡ text ++ rest
  pub rest_fits : IsBytes rest

pub Takes-then : (a x b y c : List ℕ) → Takes a x b → Takes b y c → Takes a (x ++ y) c
Takes-then a x b y c p q = record { parts = p.parts ∙ ap (λ (t : List ℕ). x ++ t) q.parts ∙ sym (append_assoc x y c); rest_fits = q.rest_fits }

-- ---- a byte

pub byte_takes : (bytes : List ℕ) (x : ℕ × List ℕ) → IsBytes bytes → byte_at bytes ≡ Some x → Takes bytes (x.0 ∷ []) x.1 × (x.0 < 256)
byte_takes [] x fits e = absurd cc
byte_takes (b ∷ bytes) x fits e = subst (λ (y : ℕ × List ℕ). Takes (b ∷ bytes) (y.0 ∷ []) y.1 × (y.0 < 256)) (some_is (b, bytes) x e) (record { parts = refl; rest_fits = IsBytes-rest b bytes fits }, fits 0)

-- ---- numbers

pub record IsWide (w : Width) (limit : ℕ) : Type 0 where
  pub len : (n : ℕ) → length (to_le_bytes w n) ≡ byte_len w
  pub back : (bytes : List ℕ) → length bytes ≡ byte_len w → IsBytes bytes → to_le_bytes w (from_le_bytes w bytes) ≡ bytes
  pub again : (n : ℕ) → n < limit → from_le_bytes w (to_le_bytes w n) ≡ n
  pub below : (bytes : List ℕ) → IsBytes bytes → from_le_bytes w bytes < limit

pub wide16 : IsWide w16 (2 ^ 16)
wide16 = record {
  len = λ n. refl;
  back = λ bytes len fits. le_bytes_2 bytes _ len fits refl;
  again = λ n lt. from_le_bytes-to_le_bytes_2 n lt;
  below = λ bytes fits. omega (arith, fits 0, fits 1);
}

pub wide32 : IsWide w32 (2 ^ 32)
wide32 = record {
  len = λ n. refl;
  back = λ bytes len fits. le_bytes_4 bytes _ len fits refl;
  again = λ n lt. from_le_bytes-to_le_bytes_4 n lt;
  below = λ bytes fits. omega (arith, fits 0, fits 1, fits 2, fits 3);
}

pub wide64 : IsWide w64 (2 ^ 64)
wide64 = record {
  len = λ n. refl;
  back = λ bytes len fits. le_bytes_8 bytes _ len fits refl;
  again = λ n lt. from_le_bytes-to_le_bytes_8 n lt;
  below = λ bytes fits. omega (arith, fits 0, fits 1, fits 2, fits 3, fits 4, fits 5, fits 6, fits 7);
}

pub number_takes : (w : Width) (limit : ℕ) (wide : IsWide w limit) (bytes : List ℕ) (x : ℕ × List ℕ) → IsBytes bytes → number_at w bytes ≡ Some x → Takes bytes (to_le_bytes w x.0) x.1 × (x.0 < limit)
number_takes w limit wide bytes x fits e =
    let g = passed (ltb (length bytes) (byte_len w)) (Some (from_le_bytes w (take (byte_len w) bytes), drop (byte_len w) bytes)) x e in
    let long : byte_len w ≤ length bytes = ltb-false _ _ g.0 in
    let front : to_le_bytes w (from_le_bytes w (take (byte_len w) bytes)) ≡ take (byte_len w) bytes = wide.back (take (byte_len w) bytes) (omega (arith, length-take (byte_len w) bytes)) (IsBytes-take (byte_len w) bytes fits) in
    subst (λ (y : ℕ × List ℕ). Takes bytes (to_le_bytes w y.0) y.1 × (y.0 < limit)) (some_is (from_le_bytes w (take (byte_len w) bytes), drop (byte_len w) bytes) x g.1)
    (record { parts = rw front (sym (take-append-drop (byte_len w) bytes)); rest_fits = IsBytes-drop (byte_len w) bytes fits }, wide.below (take (byte_len w) bytes) (IsBytes-take (byte_len w) bytes fits))

pub number_again : (w : Width) (limit : ℕ) (wide : IsWide w limit) (n : ℕ) (rest : List ℕ) → n < limit → number_at w (to_le_bytes w n ++ rest) ≡ Some (n, rest)
number_again w limit wide n rest lt =
    let len = wide.len n in
    let long : ltb (length (to_le_bytes w n ++ rest)) (byte_len w) ≡ false = le-ltb _ _ (omega (arith, length-append (to_le_bytes w n) rest)) in
    rw (long, take_at (to_le_bytes w n) rest (byte_len w) len, drop_at (to_le_bytes w n) rest (byte_len w) len, wide.again n lt) refl

-- ---- texts

pub text_takes : (n : ℕ) (bytes : List ℕ) (x : List ℕ × List ℕ) → IsBytes bytes → text_at n bytes ≡ Some x → Takes bytes x.0 x.1 × (length x.0 ≡ n) × IsUtf8 x.0
unfolding text_at
text_takes n bytes x fits e =
    let g = passed (ltb (length bytes) n) (cond (is_utf8 (take n bytes)) (Some (take n bytes, drop n bytes)) None) x e in
    let h = held (is_utf8 (take n bytes)) (Some (take n bytes, drop n bytes)) x g.1 in
    let long : n ≤ length bytes = ltb-false _ _ g.0 in
    subst (λ (y : List ℕ × List ℕ). Takes bytes y.0 y.1 × (length y.0 ≡ n) × IsUtf8 y.0) (some_is (take n bytes, drop n bytes) x h.1)
    (record { parts = sym (take-append-drop n bytes); rest_fits = IsBytes-drop n bytes fits }, omega (arith, length-take n bytes), IsUtf8-from_is_utf8 (take n bytes) h.0)

pub text_again : (text rest : List ℕ) → IsUtf8 text → text_at (length text) (text ++ rest) ≡ Some (text, rest)
unfolding text_at
text_again text rest utf8 =
    let long : ltb (length (text ++ rest)) (length text) ≡ false = le-ltb _ _ (omega (arith, length-append text rest)) in
    rw (long, take_at text rest (length text) refl, is_utf8-from_IsUtf8 text utf8, drop_at text rest (length text) refl) refl

pub name_takes : (bytes : List ℕ) (x : List ℕ × List ℕ) → IsBytes bytes → name_at bytes ≡ Some x → Takes bytes (name_bytes x.0) x.1 × (length x.0 ≤ 255) × IsUtf8 x.0
unfolding name_at
name_takes bytes x fits e =
    let a = bind_some (byte_at bytes) (λ n. text_at n.0 n.1) x e in
    let first = byte_takes bytes a.0 fits a.1 in
    let second = text_takes a.0.0 a.0.1 x first.0.rest_fits a.2 in
    let both = Takes-then bytes (a.0.0 ∷ []) a.0.1 x.0 x.1 first.0 second.0 in
    (subst (λ (k : ℕ). Takes bytes (k ∷ x.0) x.1) (sym second.1) both, omega (arith, first.1, second.1), second.2)

pub name_again : (name rest : List ℕ) → IsUtf8 name → name_at (name_bytes name ++ rest) ≡ Some (name, rest)
unfolding name_at
name_again name rest utf8 = text_again name rest utf8

-- ---- times

pub time_is : (n : ℕ) → n < 2 ^ 63 → IsTime (pos n)
time_is n lt = (omega (ints, arith), omega (ints, arith, lt))

pub time_takes : (bytes : List ℕ) (x : ℤ × List ℕ) → IsBytes bytes → time_at bytes ≡ Some x → Takes bytes (i64_bytes x.0) x.1 × IsTime x.0
unfolding time_at
time_takes bytes x fits e =
    let a = bind_some (number_at w64 bytes) (λ n. cond (ltb n.0 (2 ^ 63)) (Some (pos n.0, n.1)) None) x e in
    let g = held (ltb a.0.0 (2 ^ 63)) (Some (pos a.0.0, a.0.1)) x a.2 in
    let first = number_takes w64 (2 ^ 64) wide64 bytes a.0 fits a.1 in
    let low = ltb-true _ _ g.0 in
    subst (λ (y : ℤ × List ℕ). Takes bytes (i64_bytes y.0) y.1 × IsTime y.0) (some_is (pos a.0.0, a.0.1) x g.1) (first.0, time_is a.0.0 low)

pub time_again : (time : ℤ) (rest : List ℕ) → IsTime time → time_at (i64_bytes time ++ rest) ≡ Some (time, rest)
unfolding time_at
time_again (pos n) rest fits =
    let low : n < 2 ^ 63 = omega (ints, arith, fits.1) in
    rw (number_again w64 (2 ^ 64) wide64 n rest (omega (arith, low)), lt-ltb n (2 ^ 63) low) refl
time_again (negsuc n) rest fits = absurd (omega (ints, arith, fits.0))

positive : (n : ℕ) → n < 2 ^ 63 → FitsSigned w64 (pos n)
positive n lt = omega (ints, arith, lt)

negative : (n : ℕ) → n < 2 ^ 63 → FitsSigned w64 (negsuc n)
negative n lt = omega (ints, arith, lt)

chosen_fits : (n : ℕ) (b : Bool) → ltb n (2 ^ 63) ≡ b → n < 2 ^ 64 → FitsSigned w64 (cond b (pos n) (negsuc (2 ^ 64 - suc n)))
chosen_fits n true e lt = positive n (ltb-true _ _ e)
chosen_fits n false e lt = negative (2 ^ 64 - suc n) (omega (arith, ltb-false n (2 ^ 63) e, lt))

pub cast_fits : (n : ℕ) → n < 2 ^ 64 → FitsSigned w64 (cast_signed w64 n)
cast_fits n lt = chosen_fits n (ltb n (2 ^ 63)) refl lt

pub unsigned_below : (z : ℤ) → FitsSigned w64 z → cast_unsigned w64 z < 2 ^ 64
unsigned_below (pos n) fits = omega (ints, arith, fits)
unsigned_below (negsuc n) fits = omega arith
