-- The tokens of written parts.
use Rattle.std.proofs.Common.{◌≡◌, ℕ, suc, zero, ◌+◌, ◌<◌, ◌≤◌, ◌^◌, Bool, true, false, ◌&&◌, ◌||◌, not, List, [], ◌∷◌, ◌++◌, length, take_while, cond, Some, if◌then◌else◌, refl, sym, ap, ◌∙◌, pos, negsuc, ℤ, arith}
use Rattle.std.specs.Prelude.{codes, decimal, bytes_eq}
use Rattle.std.specs.Int.{IsInRange}
use Rattle.std.specs.Fmt.{signed_decimal}
use Rattle.std.specs.Bool.{◌==◌}
use Rattle.std.specs.Str.{is_utf8}
use Rattle.std.specs.Char.{is_ascii_digit}
use Rattle.std.specs.List.{list_all, flat_map}
use Rattle.std.proofs.lemmas.Bool.{lt-ltb, le-ltb, le-leb, eqb-true, eq-eqb, false≢true, and_parts}
use Rattle.std.proofs.lemmas.List.Sums.{take_while-cons}
use Rattle.std.proofs.lemmas.Bool.Decides.{nat_tests}
use Rattle.std.proofs.lemmas.Fmt.{digits_decimal, digits_value-decimal, decimal_nonempty}
use Rattle.std.proofs.lemmas.Str.Parse.{IsNumeralModel, IsDigitsTest, FoldsDigits, numerals_by_fold}
use Rattle.std.proofs.lemmas.List.{append_assoc, length-append}
use Rattle.leaf_model.specs.declared.queries.Op.{Op}
use Rattle.leaf_model.specs.declared.queries.Op.TheVariants.{Eq, Ne, Lt, Le, Gt, Ge, Has}
use Rattle.query_text.specs.declared.tokens.Token.{Token}
use Rattle.query_text.specs.declared.tokens.Token.TheVariants as token
use Rattle.query_text.specs.Tokens.{Placed, tokens_from, token_with, is_blank_byte, begins_word, goes_on_word, value_from, quote_from}
use Rattle.query_text.specs.Roles.{is_keyword, name_of_token}
use Rattle.query_text.specs.Printing.{doubled, in_quotes, is_plain, name_text, op_text}
use Rattle.query_text.specs.Grammar.{plain_tokens}

-- ---- tokens without places

abbrev pub lexed : ℕ → List ℕ → List Token
lexed passed [] = []
lexed (suc passed) (b ∷ rest) = lexed passed rest
lexed zero (b ∷ rest) = if is_blank_byte b then lexed 0 rest else ((token_with b rest).token ∷ lexed (token_with b rest).more rest)

blank_same : (t : Bool) (ps qs : List Placed) (ts us : List Token) → plain_tokens ps ≡ ts → plain_tokens qs ≡ us → plain_tokens (if t then ps else qs) ≡ (if t then ts else us)
blank_same true ps qs ts us h k = h
blank_same false ps qs ts us h k = k

pub same_tokens : (passed at : ℕ) (text : List ℕ) → plain_tokens (tokens_from passed at text) ≡ lexed passed text
same_tokens passed at [] = refl
same_tokens (suc passed) at (b ∷ rest) = same_tokens passed (at + 1) rest
same_tokens zero at (b ∷ rest) =
    blank_same (is_blank_byte b) (tokens_from 0 (at + 1) rest) (record { at = at; token = (token_with b rest).token } ∷ tokens_from (token_with b rest).more (at + 1) rest)
    (lexed 0 rest) ((token_with b rest).token ∷ lexed (token_with b rest).more rest) (same_tokens 0 (at + 1) rest)
    (ap (λ ts. (token_with b rest).token ∷ ts) (same_tokens (token_with b rest).more (at + 1) rest))

pass : (xs next : List ℕ) → lexed (length xs) (xs ++ next) ≡ lexed 0 next
pass [] next = refl
pass (x ∷ xs) next = pass xs next

-- ---- what may follow a word, a number or a quote

abbrev pub stops : List ℕ → Bool
stops [] = true
stops (b ∷ bs) = b == 32 || (b == 44 || b == 41)

no_word : (b : ℕ) → (b == 32 || (b == 44 || b == 41)) ≡ true → goes_on_word b ≡ false
no_word b h = grind (arith, nat_tests)

no_digit : (b : ℕ) → (b == 32 || (b == 44 || b == 41)) ≡ true → is_ascii_digit b ≡ false
no_digit b h = grind (arith, nat_tests)

no_mark : (m b : ℕ) → 34 ≤ m → m ≤ 39 → (b == 32 || (b == 44 || b == 41)) ≡ true → (b == m) ≡ false
no_mark m b low high h = grind (arith, nat_tests)

-- ---- words

taken_all : (p : ℕ → Bool) (xs next : List ℕ) → list_all p xs ≡ true → take_while p next ≡ [] → take_while p (xs ++ next) ≡ xs
taken_all p [] next h k = k
taken_all p (x ∷ xs) next h k =
    let both = and_parts (p x) (list_all p xs) h in
    rw (take_while-cons p x (xs ++ next), both.0) (ap (λ ys. x ∷ ys) (taken_all p xs next both.1 k))

word_stops : (next : List ℕ) → stops next ≡ true → take_while goes_on_word next ≡ []
word_stops [] h = refl
word_stops (b ∷ bs) h = rw (no_word b h) refl

digits_stop : (next : List ℕ) → stops next ≡ true → take_while is_ascii_digit next ≡ []
digits_stop [] h = refl
digits_stop (b ∷ bs) h = rw (no_digit b h) refl

word_no_blank : (b : ℕ) → begins_word b ≡ true → is_blank_byte b ≡ false
word_no_blank b h = grind (arith, nat_tests)

pub lexed_word : (b : ℕ) (bs next : List ℕ) → begins_word b ≡ true → list_all goes_on_word bs ≡ true → bytes_eq (b ∷ bs) (codes "HAS") ≡ false → stops next ≡ true
    → lexed 0 ((b ∷ bs) ++ next) ≡ token.Word (b ∷ bs) ∷ lexed 0 next
lexed_word b bs next first rest other end =
    let taken = taken_all goes_on_word bs next rest (word_stops next end) in
    rw (word_no_blank b first, first, taken, other) (ap (λ ts. token.Word (b ∷ bs) ∷ ts) (pass bs next))

-- ---- integers

abbrev AllDigits : List ℕ → Type 0
AllDigits ds = list_all is_ascii_digit ds ≡ true

digit_range : (c : ℕ) → is_ascii_digit c ≡ true → IsInRange 48 57 c
digit_range c h = grind (arith, nat_tests)

range_digit : (c : ℕ) → IsInRange 48 57 c → is_ascii_digit c ≡ true
range_digit c h = grind (arith, nat_tests)

digits_test : IsDigitsTest AllDigits
digits_test = record {
  empty = refl;
  parts = λ c cs h. (let both = and_parts (is_ascii_digit c) (list_all is_ascii_digit cs) h in (digit_range c both.0, both.1));
  more = λ c cs r h. rw (range_digit c r, h) refl;
}

folds : FoldsDigits value_from
folds = record { empty = λ n. refl; more = λ n c cs r. refl }

numerals : IsNumeralModel AllDigits (value_from 0)
numerals = numerals_by_fold AllDigits digits_test value_from folds

digit_no_blank : (b : ℕ) → is_ascii_digit b ≡ true → is_blank_byte b ≡ false
digit_no_blank b h = grind (arith, nat_tests)

digit_no_word : (b : ℕ) → is_ascii_digit b ≡ true → begins_word b ≡ false
digit_no_word b h = grind (arith, nat_tests)

lexed_digits : (ds next : List ℕ) (n : ℕ) → AllDigits ds → value_from 0 ds ≡ n → 0 < length ds → n < 2 ^ 63 → stops next ≡ true → lexed 0 (ds ++ next) ≡ token.Int (Some (pos n)) ∷ lexed 0 next
lexed_digits [] next n h v some small end = absurd (omega arith)
lexed_digits (d ∷ ds) next n h v some small end =
    let both = and_parts (is_ascii_digit d) (list_all is_ascii_digit ds) h in
    let taken = taken_all is_ascii_digit ds next both.1 (digits_stop next end) in
    rw (digit_no_blank d both.0, digit_no_word d both.0, both.0, taken, v, lt-ltb n (2 ^ 63) small) (ap (λ ts. token.Int (Some (pos n)) ∷ ts) (pass ds next))

lexed_minus : (ds next : List ℕ) (n : ℕ) → AllDigits ds → value_from 0 ds ≡ suc n → 0 < length ds → suc n ≤ 2 ^ 63 → stops next ≡ true → lexed 0 (45 ∷ (ds ++ next)) ≡ token.Int (Some (negsuc n)) ∷ lexed 0 next
lexed_minus [] next n h v some small end = absurd (omega arith)
lexed_minus (d ∷ ds) next n h v some small end =
    let taken = taken_all is_ascii_digit (d ∷ ds) next h (digits_stop next end) in
    rw (taken, v, le-leb (suc n) (2 ^ 63) small) (ap (λ ts. token.Int (Some (negsuc n)) ∷ ts) (pass (d ∷ ds) next))

-- an i64
abbrev pub IsI64 : ℤ → Type 0
IsI64 (pos n) = n < 2 ^ 63
IsI64 (negsuc n) = n < 2 ^ 63

pub lexed_int : (z : ℤ) (next : List ℕ) → IsI64 z → stops next ≡ true → lexed 0 (signed_decimal z ++ next) ≡ token.Int (Some z) ∷ lexed 0 next
lexed_int (pos n) next fits end =
    let wide : n < 2 ^ 64 = omega (arith, fits) in
    lexed_digits (decimal n) next n (digits_decimal numerals n wide) (digits_value-decimal numerals n wide) (decimal_nonempty n wide) fits end
lexed_int (negsuc n) next fits end =
    let wide : suc n < 2 ^ 64 = omega (arith, fits) in
    lexed_minus (decimal (suc n)) next n (digits_decimal numerals (suc n) wide) (digits_value-decimal numerals (suc n) wide) (decimal_nonempty (suc n) wide) (omega (arith, fits)) end

-- ---- quotes

stopped_quote : (m : ℕ) (next : List ℕ) → 34 ≤ m → m ≤ 39 → stops next ≡ true → quote_from m true next ≡ Some (record { inside = []; long = 0 })
stopped_quote m [] low high h = refl
stopped_quote m (b ∷ bs) low high h = rw (no_mark m b low high h) refl

quote_by : (t : Bool) (m b : ℕ) (bs further : List ℕ) (long : ℕ) → (b == m) ≡ t → quote_from m false further ≡ Some (record { inside = bs; long = long })
    → quote_from m false (cond t (b ∷ b ∷ []) (b ∷ []) ++ further) ≡ Some (record { inside = b ∷ bs; long = length (cond t (b ∷ b ∷ []) (b ∷ [])) + long })
quote_by true m b bs further long e h =
    let same : m ≡ b = sym (eqb-true b m e) in
    let longer : (long + 1) + 1 ≡ 2 + long = omega arith in
    rw (e, h) (λ i. Some (record { inside = same i ∷ bs; long = longer i }))
quote_by false m b bs further long e h =
    let longer : long + 1 ≡ 1 + long = omega arith in
    rw (e, h) (λ i. Some (record { inside = b ∷ bs; long = longer i }))

-- what is behind the opening mark
quote_back : (m : ℕ) (bs next : List ℕ) → 34 ≤ m → m ≤ 39 → stops next ≡ true
    → quote_from m false ((flat_map (doubled m) bs ++ (m ∷ [])) ++ next) ≡ Some (record { inside = bs; long = length (flat_map (doubled m) bs ++ (m ∷ [])) })
quote_back m [] next low high h =
    let same : (m == m) ≡ true = eq-eqb m m refl in
    rw (same, stopped_quote m next low high h) refl
quote_back m (b ∷ bs) next low high h =
    let inner = flat_map (doubled m) bs in
    let cut : ((doubled m b ++ inner) ++ (m ∷ [])) ++ next ≡ doubled m b ++ ((inner ++ (m ∷ [])) ++ next) =
    ap (λ xs. xs ++ next) (append_assoc (doubled m b) inner (m ∷ [])) ∙ append_assoc (doubled m b) (inner ++ (m ∷ [])) next in
    let long : length ((doubled m b ++ inner) ++ (m ∷ [])) ≡ length (doubled m b) + length (inner ++ (m ∷ [])) =
    ap length (append_assoc (doubled m b) inner (m ∷ [])) ∙ length-append (doubled m b) (inner ++ (m ∷ [])) in
    ap (quote_from m false) cut ∙ quote_by (b == m) m b bs ((inner ++ (m ∷ [])) ++ next) (length (inner ++ (m ∷ []))) refl (quote_back m bs next low high h)
    ∙ (λ i. Some (record { inside = b ∷ bs; long = sym long i }))

-- a text that a query's text may hold
pub record IsText (t : List ℕ) : Type 0 where
  pub short : length t ≤ 65535
  pub utf8 : is_utf8 t ≡ true

pub lexed_text : (t next : List ℕ) → IsText t → stops next ≡ true → lexed 0 (in_quotes 39 t ++ next) ≡ token.Text t ∷ lexed 0 next
lexed_text t next good end =
    rw (quote_back 39 t next (omega arith) (omega arith) end, le-leb 0 (length t) (omega arith), le-leb (length t) 65535 good.short, good.utf8)
    (ap (λ ts. token.Text t ∷ ts) (pass (flat_map (doubled 39) t ++ (39 ∷ [])) next))

-- ---- names

pub record IsName (n : List ℕ) : Type 0 where
  pub some : 0 < length n
  pub short : length n ≤ 255
  pub utf8 : is_utf8 n ≡ true

pub record LexedName (n next : List ℕ) : Type 0 where
  pub t : Token
  pub names : name_of_token t ≡ Some n
  pub is : lexed 0 (name_text n ++ next) ≡ t ∷ lexed 0 next

not_true : (b : Bool) → not b ≡ true → b ≡ false
not_true true h = absurd (false≢true h)
not_true false h = refl

or_first : (x y : Bool) → (x || y) ≡ false → x ≡ false
or_first true y h = absurd (false≢true (sym h))
or_first false y h = refl

lexed_plain : (n next : List ℕ) → is_plain n ≡ true → length n ≤ 255 → stops next ≡ true → (name_of_token (token.Word n) ≡ Some n) × (lexed 0 (n ++ next) ≡ token.Word n ∷ lexed 0 next)
lexed_plain [] next h short end = absurd (false≢true h)
lexed_plain (b ∷ bs) next h short end =
    let first = and_parts (begins_word b) (list_all goes_on_word bs && not (is_keyword (b ∷ bs))) h in
    let rest = and_parts (list_all goes_on_word bs) (not (is_keyword (b ∷ bs))) first.1 in
    let plain = not_true (is_keyword (b ∷ bs)) rest.1 in
    (rw (plain, le-ltb 255 (length (b ∷ bs)) short) refl, lexed_word b bs next first.0 rest.0 (or_first (bytes_eq (b ∷ bs) (codes "HAS")) _ plain) end)

lexed_quoted : (n next : List ℕ) → IsName n → stops next ≡ true → lexed 0 (in_quotes 34 n ++ next) ≡ token.Name n ∷ lexed 0 next
lexed_quoted n next good end =
    let some = good.some in
    rw (quote_back 34 n next (omega arith) (omega arith) end, le-leb 1 (length n) (omega (arith, some)), le-leb (length n) 255 good.short, good.utf8)
    (ap (λ ts. token.Name n ∷ ts) (pass (flat_map (doubled 34) n ++ (34 ∷ [])) next))

name_by : (b : Bool) (n next : List ℕ) → is_plain n ≡ b → IsName n → stops next ≡ true → (t : Token) × ((name_of_token t ≡ Some n) × (lexed 0 ((if b then n else in_quotes 34 n) ++ next) ≡ t ∷ lexed 0 next))
name_by true n next e good end = let both = lexed_plain n next e good.short end in (token.Word n, (both.0, both.1))
name_by false n next e good end = (token.Name n, (refl, lexed_quoted n next good end))

pub lexed_name : (n next : List ℕ) → IsName n → stops next ≡ true → LexedName n next
lexed_name n next good end = let l = name_by (is_plain n) n next refl good end in record { t = l.0; names = l.1.0; is = l.1.1 }

pub lexed_op : (o : Op) (next : List ℕ) → lexed 0 (op_text o ++ (codes " " ++ next)) ≡ token.Compare o ∷ lexed 0 next
lexed_op Eq next = refl
lexed_op Ne next = refl
lexed_op Lt next = refl
lexed_op Le next = refl
lexed_op Gt next = refl
lexed_op Ge next = refl
lexed_op Has next = refl
