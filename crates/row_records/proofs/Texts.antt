-- A text at the front of bytes, or none.
use Rattle.std.proofs.Common.{◌≡◌, ℕ, ◌≤◌, Bool, true, false, List, length, take, drop, Some, None, refl}
use Rattle.std.specs.Str.{IsUtf8, is_utf8}
use Rattle.std.proofs.lemmas.Bool.{le-ltb}
use Rattle.std.proofs.lemmas.Str.{IsUtf8-from_is_utf8, is_utf8-from_IsUtf8}
use Rattle.leaf_model.specs.Reading.{text_at}

not_text : (b : Bool) (bytes : List ℕ) → is_utf8 bytes ≡ b → (IsUtf8 bytes → ⊥) → b ≡ false
not_text true bytes e never = absurd (never (IsUtf8-from_is_utf8 bytes e))
not_text false bytes e never = refl

pub text_found : (n : ℕ) (bytes front rest : List ℕ) → n ≤ length bytes → take n bytes ≡ front → drop n bytes ≡ rest → IsUtf8 front → text_at n bytes ≡ Some (front, rest)
unfolding text_at
text_found n bytes front rest long f r utf8 = rw (le-ltb _ _ long, f, r, is_utf8-from_IsUtf8 front utf8) refl

pub text_broken : (n : ℕ) (bytes front : List ℕ) → n ≤ length bytes → take n bytes ≡ front → (IsUtf8 front → ⊥) → text_at n bytes ≡ None
unfolding text_at
text_broken n bytes front long f never = rw (le-ltb _ _ long, f, not_text (is_utf8 front) front refl never) refl
