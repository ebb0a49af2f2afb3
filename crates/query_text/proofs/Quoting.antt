-- Doubling a mark of ASCII keeps a text of UTF-8.
use Rattle.std.proofs.Common.{◌≡◌, ℕ, ◌+◌, ◌/◌, ◌≤◌, ◌<◌, Bool, true, false, ◌&&◌, List, [], ◌∷◌, ◌++◌, cond, refl, sym, ap, ◌∙◌, arith}
use Rattle.std.specs.Prelude.{IsUtf8}
use Rattle.std.specs.Bool.{◌==◌}
use Rattle.std.specs.List.{flat_map}
use Rattle.std.proofs.lemmas.List.{append_assoc, append-nil}
use Rattle.std.proofs.lemmas.Str.{IsUtf8-append, IsUtf8-from_ascii, encode_ascii, encodes-append}
use Rattle.std.proofs.lemmas.Bool.Decides.{nat_tests}
use lib.Utf8.{scalar, scalars, encode, encodes, next}
use lib.Dec.{ltb}
use Rattle.query_text.specs.Printing.{doubled, in_quotes}
use Rattle.query_text.proofs.Lexing.{one_ascii}

other_mark : (m b : ℕ) → m < 128 → 128 ≤ b → (b == m) ≡ false
other_mark m b h k = grind (arith, nat_tests)

single : (m b : ℕ) → m < 128 → 128 ≤ b → doubled m b ≡ b ∷ []
single m b h k = rw (other_mark m b h k) refl

-- the bytes of another character are not doubled
untouched : (m c : ℕ) → m < 128 → (c == m) ≡ false → flat_map (doubled m) (encode c) ≡ encode c
unfolding encode
untouched m c h other = by (ltb c 128) (ltb c 2048) (ltb c 65536)
  where
    by : (x y z : Bool) → flat_map (doubled m) (cond x (c ∷ []) (cond y ((192 + c / 64) ∷ next c ∷ []) (cond z ((224 + c / 4096) ∷ next (c / 64) ∷ next c ∷ []) ((240 + c / 262144) ∷ next (c / 4096) ∷ next (c / 64) ∷ next c ∷ []))))
        ≡ cond x (c ∷ []) (cond y ((192 + c / 64) ∷ next c ∷ []) (cond z ((224 + c / 4096) ∷ next (c / 64) ∷ next c ∷ []) ((240 + c / 262144) ∷ next (c / 4096) ∷ next (c / 64) ∷ next c ∷ [])))
    by true y z = rw other refl
    by false true z = rw (single m (192 + c / 64) h (omega arith), single m (next c) h (omega arith)) refl
    by false false true = rw (single m (224 + c / 4096) h (omega arith), single m (next (c / 64)) h (omega arith), single m (next c) h (omega arith)) refl
    by false false false = rw (single m (240 + c / 262144) h (omega arith), single m (next (c / 4096)) h (omega arith), single m (next (c / 64)) h (omega arith), single m (next c) h (omega arith)) refl

the_mark : (m c : ℕ) → (c == m) ≡ true → c ≡ m
the_mark m c h = grind (arith, nat_tests)

-- one character, by whether it is the mark
one_doubled : (m c : ℕ) (t : Bool) → (c == m) ≡ t → m < 128 → encodes (cond t (c ∷ c ∷ []) (c ∷ [])) ≡ flat_map (doubled m) (encode c)
one_doubled m c true e h =
    let low : c < 128 = rw (the_mark m c e) h in
    rw (encode_ascii c low, e) refl
one_doubled m c false e h = append-nil (encode c) ∙ sym (untouched m c h e)

char_doubled : (m c : ℕ) → m < 128 → encodes (doubled m c) ≡ flat_map (doubled m) (encode c)
char_doubled m c h = one_doubled m c (c == m) refl h

flat_map_append : (m : ℕ) (xs ys : List ℕ) → flat_map (doubled m) (xs ++ ys) ≡ flat_map (doubled m) xs ++ flat_map (doubled m) ys
flat_map_append m [] ys = refl
flat_map_append m (x ∷ xs) ys = ap (λ zs. doubled m x ++ zs) (flat_map_append m xs ys) ∙ sym (append_assoc (doubled m x) (flat_map (doubled m) xs) (flat_map (doubled m) ys))

all_doubled : (m : ℕ) (cs : List ℕ) → m < 128 → encodes (flat_map (doubled m) cs) ≡ flat_map (doubled m) (encodes cs)
all_doubled m [] h = refl
all_doubled m (c ∷ cs) h =
    encodes-append (doubled m c) (flat_map (doubled m) cs)
    ∙ (λ i. char_doubled m c h i ++ all_doubled m cs h i)
    ∙ sym (flat_map_append m (encode c) (encodes cs))

left_true : (x y : Bool) → x && y ≡ true → x ≡ true
left_true true y h = refl
left_true false y h = h

right_true : (x y : Bool) → x && y ≡ true → y ≡ true
right_true true y h = h
right_true false y h = cc

one_scalar : (t : Bool) (c : ℕ) (cs : List ℕ) → scalar c ≡ true → scalars cs ≡ true → scalars (cond t (c ∷ c ∷ []) (c ∷ []) ++ cs) ≡ true
one_scalar true c cs h k = rw (h, k) refl
one_scalar false c cs h k = rw (h, k) refl

scalars_doubled : (m : ℕ) (cs : List ℕ) → scalars cs ≡ true → scalars (flat_map (doubled m) cs) ≡ true
scalars_doubled m [] h = refl
scalars_doubled m (c ∷ cs) h = one_scalar (c == m) c (flat_map (doubled m) cs) (left_true (scalar c) (scalars cs) h) (scalars_doubled m cs (right_true (scalar c) (scalars cs) h))

doubled_utf8 : (m : ℕ) (bs : List ℕ) → m < 128 → IsUtf8 bs → IsUtf8 (flat_map (doubled m) bs)
doubled_utf8 m bs h u = (flat_map (doubled m) u.0, (scalars_doubled m u.0 u.1.0, all_doubled m u.0 h ∙ ap (flat_map (doubled m)) u.1.1))

-- a text in quotes is one of UTF-8
pub quoted_utf8 : (m : ℕ) (bs : List ℕ) → m < 128 → IsUtf8 bs → IsUtf8 (in_quotes m bs)
quoted_utf8 m bs h u =
    let mark = IsUtf8-from_ascii (m ∷ []) (one_ascii m h) in
    IsUtf8-append (m ∷ []) _ mark (IsUtf8-append (flat_map (doubled m) bs) (m ∷ []) (doubled_utf8 m bs h u) mark)
