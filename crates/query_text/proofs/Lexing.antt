-- Values of digits, quotes byte by byte, and tokens behind a token.
use Rattle.std.proofs.Common.{◌≡◌, ℕ, suc, zero, ◌+◌, ◌*◌, ◌-◌, ◌≤◌, ◌<◌, Bool, true, false, List, [], ◌∷◌, length, drop, take, take_while, length-drop, cond, get_or, Some, None, refl, sym, ap, ◌∙◌, arith, add-one, drop-cons, nat_le, if◌then◌else◌}
use Rattle.std.specs.Prelude.{IsUtf8}
use Rattle.std.specs.Str.{is_utf8, IsAscii}
use Rattle.std.proofs.lemmas.Str.{IsUtf8-from_is_utf8, IsUtf8-from_ascii}
use Rattle.std.proofs.lemmas.List.Sums.{take_while-cons}
use Rattle.std.proofs.lemmas.Bool.Decides.{nat_tests}
use Rattle.query_text.specs.declared.tokens.FoundToken.{FoundToken}
use Rattle.query_text.specs.Tokens.{value_from, tokens_from, token_with, is_blank_byte, begins_word, goes_on_word}

-- more digits make no less
pub value_grows : (n : ℕ) (ds : List ℕ) → n ≤ value_from n ds
value_grows n [] = omega arith
value_grows n (d ∷ ds) = let more = value_grows (n * 10 + (d - 48)) ds in omega (arith, more)

-- the tokens behind a token begin where it ends
pub tokens_behind : (n at : ℕ) (text : List ℕ) → n ≤ length text → tokens_from n at text ≡ tokens_from 0 (at + n) (drop n text)
tokens_behind zero at text h = ap (λ k. tokens_from 0 k text) (omega arith)
tokens_behind (suc n) at [] h = absurd (omega arith)
tokens_behind (suc n) at (b ∷ text) h = tokens_behind n (at + 1) text (omega arith) ∙ ap (λ k. tokens_from 0 k (drop n text)) (omega arith)

pub rest_is : (xs : List ℕ) (i : ℕ) → i < length xs → drop i xs ≡ get_or xs i 0 ∷ drop (i + 1) xs
rest_is xs i h = rw (add-one, drop-cons xs i 0) refl

pub none_past : (n x limit : ℕ) → None ≡ (if nat_le n limit then Some n else None) → n ≤ x → None ≡ (if nat_le x limit then Some x else None)
none_past n x limit h le = grind (arith, nat_tests)

pub no_text : (bs : List ℕ) → (IsUtf8 bs → false ≡ true) → is_utf8 bs ≡ false
no_text bs h = by (is_utf8 bs) (λ e. h (IsUtf8-from_is_utf8 bs e))
  where
    by : (b : Bool) → (b ≡ true → false ≡ true) → b ≡ false
    by true f = sym (f refl)
    by false f = refl

drop_nil : (k : ℕ) → [] ≡ drop {A = ℕ} k []
drop_nil zero = refl
drop_nil (suc k) = refl

drop_more : (m n : ℕ) (xs : List ℕ) → drop m (drop n xs) ≡ drop (n + m) xs
drop_more m zero xs =
    let place : m ≡ 0 + m = omega arith in
    ap (λ k. drop k xs) place
drop_more m (suc n) [] = sym (drop_nil m) ∙ drop_nil (suc n + m)
drop_more m (suc n) (x ∷ xs) =
    let place : suc (n + m) ≡ suc n + m = omega arith in
    drop_more m n xs ∙ ap (λ k. drop k (x ∷ xs)) place

-- a token that begins at a byte, and then the tokens behind it
pub one_token : (text : List ℕ) (i : ℕ) (found : FoundToken) → i < length text → is_blank_byte (get_or text i 0) ≡ false
    → found ≡ token_with (get_or text i 0) (drop (i + 1) text) → found.more ≤ length (drop (i + 1) text)
    → tokens_from 0 i (drop i text) ≡ record { at = i; token = found.token } ∷ tokens_from 0 (i + 1 + found.more) (drop (i + 1 + found.more) text)
one_token text i found here solid is short =
    let b = get_or text i 0 in
    let rest = drop (i + 1) text in
    let cut = rest_is text i here in
    let behind_it = tokens_behind found.more (i + 1) rest short in
    let joined : drop found.more rest ≡ drop (i + 1 + found.more) text = drop_more found.more (i + 1) text in
    let after : tokens_from found.more (i + 1) rest ≡ tokens_from 0 (i + 1 + found.more) (drop (i + 1 + found.more) text) =
    behind_it ∙ ap (tokens_from 0 (i + 1 + found.more)) joined in
    let unfolded : tokens_from 0 i (b ∷ rest) ≡ record { at = i; token = found.token } ∷ tokens_from found.more (i + 1) rest =
    rw (solid, ← is) refl in
    ap (tokens_from 0 i) cut ∙ unfolded ∙ ap (λ ps. record { at = i; token = found.token } ∷ ps) after

take_all : (xs : List ℕ) → take (length xs) xs ≡ xs
take_all [] = refl
take_all (x ∷ xs) = ap (λ rest. x ∷ rest) (take_all xs)

pub take_rest : (xs : List ℕ) (k : ℕ) → take (length xs - k) (drop k xs) ≡ drop k xs
take_rest xs k = rw (← length-drop k xs) (take_all (drop k xs))

letter_ascii : (b : ℕ) → goes_on_word b ≡ true → b < 128
letter_ascii b h = grind (arith, nat_tests)

first_ascii : (b : ℕ) → begins_word b ≡ true → b < 128
first_ascii b h = grind (arith, nat_tests)

ascii_cons : (b : ℕ) (bs : List ℕ) → b < 128 → IsAscii bs → IsAscii (b ∷ bs)
ascii_cons b bs h all zero = h
ascii_cons b bs h all (suc i) = all i

ascii_nil : IsAscii []
ascii_nil i = omega arith

word_by : (b : ℕ) (bs : List ℕ) (t : Bool) → goes_on_word b ≡ t → IsAscii bs → IsAscii (cond t (b ∷ bs) [])
word_by b bs true h all = ascii_cons b bs (letter_ascii b h) all
word_by b bs false h all = ascii_nil

word_ascii : (rest : List ℕ) → IsAscii (take_while goes_on_word rest)
word_ascii [] = ascii_nil
word_ascii (b ∷ rest) = rw (take_while-cons goes_on_word b rest) (word_by b (take_while goes_on_word rest) (goes_on_word b) refl (word_ascii rest))

pub word_utf8 : (b : ℕ) (rest : List ℕ) → begins_word b ≡ true → IsUtf8 (b ∷ take_while goes_on_word rest)
word_utf8 b rest h = IsUtf8-from_ascii (b ∷ take_while goes_on_word rest) (ascii_cons b (take_while goes_on_word rest) (first_ascii b h) (word_ascii rest))

pub one_ascii : (b : ℕ) → b < 128 → IsAscii (b ∷ [])
one_ascii b h = ascii_cons b [] h ascii_nil
