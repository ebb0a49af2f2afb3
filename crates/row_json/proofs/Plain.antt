-- What the lexer makes of the pieces of a row of the plainest form.
use Rattle.std.proofs.Common.{◌≡◌, ◌≢◌, ◌⊎◌, inl, inr, ℕ, ℤ, pos, neg_ℤ, ◌-ℤ◌, to_z, of_z, zero, suc, ◌+◌, ◌-◌, ◌*◌, ◌<◌, ◌≤◌, ◌^◌, ◌<ℤ◌, Bool, true, false, not, cond, ◌||◌, ◌&&◌, ◌==◌, List, [], ◌∷◌, ◌++◌, length, take, drop, get_or, Option, Some, None, option_map, option_and_then, refl, sym, ap, ap₂, subst, ◌∙◌, arith, append-nil, ne_eqb, lt-ltb, true≢false}
use Rattle.std.specs.List.{prefix_len}
use Rattle.std.specs.Int.{w64}
use Rattle.std.proofs.lemmas.Int.{ints, to_z-of_z, to_z_pos}
use Rattle.std.specs.Prelude.{FitsSigned, IfSome, slice_index}
use Rattle.std.specs.Char.{is_ascii_digit, digit_value}
use Rattle.std.specs.Str.Parse.{AllDigits, digits_value}
use Rattle.std.proofs.lemmas.Bool.{or_parts, or_cases, not-true, eqb-true, false≢true}
use Rattle.std.proofs.lemmas.List.{drop_more, drop_all, length-drop, take_all}
use Rattle.std.proofs.lemmas.Int.Digits.{digits_more, digits_value_more}
use Rattle.std.proofs.lemmas.Str.{digit_value_digit}
use Rattle.fast_float.proofs.Integers.{digits_len_all}
use Rattle.fast_float.proofs.Writing.{scan-text_of}
use Rattle.fast_float.specs.Text.{Parts, scan, text_of, digits_of, with_sign, IsWellFormed}
use Rattle.json.specs.Token.{Token, bad}
use Rattle.json.specs.Token as json
use Rattle.json.specs.Text.{content, plain, prepend}
use Rattle.json.specs.Word.{head, is_operator, is_space, ends_word, word, after_number, after_minus, after_whole, after_fraction, after_exponent, after_digits}
use Rattle.json.specs.Lex.{Lexeme, token, comma, colon, Class, quote, backslash, operator, space, other, class, Mode, lex_byte, lex, between, in_word, in_string, string_token, Place, fresh, after_value, after_comma, after_key, may_begin, begins_colon, punctuate}
use Rattle.json.specs.Json.{members, parse_map, read_key, value}
use Rattle.json.proofs.Grammar.{value-begin_object}
use Rattle.json.specs.Run.{is_plain}
use Rattle.json.specs.Print.{IsNumber}
use Rattle.json.proofs.Printed.Numbers.{in_word-ended, lex-number}
use Rattle.serde_json.specs.Data.{Data, Num, number, string, null, object, Members, no_members, put}
use Rattle.serde_json.specs.Find.{as_i64}
use Rattle.serde_json.specs.Read.{number_of, number_from, converted, of_json, of_members, read}
use Rattle.row_json.proofs.Grown.{all_read, converted_object, one_more, whole_text}
use Rattle.row_json.proofs.Seen.{from_zero_is, below_zero_is, of_token}
use Rattle.row_json.specs.Quick.{AreOfRow, data_of}
use Rattle.row_json.specs.Plain.{HasDigits, IsNatural, Reads, ReadsKey, is_ended, json_tokens_from}

-- ---- strings

stays_inside : (o s : Bool) (x : ℕ) (r : List ℕ) (k : Mode → List Lexeme) → lex_byte in_string (cond o operator (cond s space other)) x r k ≡ k in_string
stays_inside true s x r k = refl
stays_inside false true x r k = refl
stays_inside false false x r k = refl

plain_byte : (x : ℕ) (xs : List ℕ) → is_plain x ≡ true → lex in_string (x ∷ xs) ≡ lex in_string xs
unfolding lex
plain_byte x xs h =
    let none = or_parts ((x == 34) || (x == 92)) _ (not-true _ h) in
    let tests = or_parts (x == 34) _ none.0 in
    rw (tests.0, tests.1) (stays_inside (is_operator x) (is_space x) x xs (λ m. lex m xs))

run_at : (p : Bool) (x n : ℕ) (xs : List ℕ) → is_plain x ≡ p → lex in_string xs ≡ lex in_string (drop n xs) → lex in_string (x ∷ xs) ≡ lex in_string (drop (cond p (1 + n) 0) (x ∷ xs))
run_at false x n xs e ih = refl
run_at true x n xs e ih =
    let next : suc n ≡ 1 + n = omega arith in
    plain_byte x xs e ∙ ih ∙ ap (λ k. lex in_string (drop k (x ∷ xs))) next

plain_run : (xs : List ℕ) → lex in_string xs ≡ lex in_string (drop (prefix_len is_plain xs) xs)
plain_run [] = refl
plain_run (x ∷ xs) = run_at (is_plain x) x (prefix_len is_plain xs) xs refl (plain_run xs)

content_at : (p : Bool) (x n : ℕ) (xs : List ℕ) → is_plain x ≡ p → (n < length xs → get_or xs n 0 ≡ 34 → content plain xs ≡ Some (take n xs))
    → cond p (1 + n) 0 < length (x ∷ xs) → get_or (x ∷ xs) (cond p (1 + n) 0) 0 ≡ 34 → content plain (x ∷ xs) ≡ Some (take (cond p (1 + n) 0) (x ∷ xs))
unfolding content
content_at false x n xs e ih less is = ap (λ (y : ℕ). content plain (y ∷ xs)) is
content_at true x n xs e ih less is =
    let next : 1 + n ≡ suc n = omega arith in
    let none = or_parts ((x == 34) || (x == 92)) _ (not-true _ e) in
    let tests = or_parts (x == 34) _ none.0 in
    let there : get_or xs n 0 ≡ 34 = ap (λ (k : ℕ). get_or (x ∷ xs) k 0) (sym next) ∙ is in
    rw (tests.0, tests.1, none.1, ih (omega (arith, less)) there, next)

content_run : (xs : List ℕ) → prefix_len is_plain xs < length xs → get_or xs (prefix_len is_plain xs) 0 ≡ 34 → content plain xs ≡ Some (take (prefix_len is_plain xs) xs)
content_run [] less is = absurd (omega (arith, less))
content_run (x ∷ xs) less is = content_at (is_plain x) x (prefix_len is_plain xs) xs refl (content_run xs) less is

quoted_lexed : (inside : List ℕ) (len : ℕ) → len ≡ prefix_len is_plain inside → len < length inside → get_or inside len 0 ≡ 34
    → lex between (34 ∷ inside) ≡ token (json.string (take len inside)) ∷ lex between (drop (len + 1) inside)
unfolding lex
quoted_lexed inside len is less closes =
    let inner = content_run inside (omega (arith, is, less)) (ap (λ (n : ℕ). get_or inside n 0) (sym is) ∙ closes) in
    let whole : content plain inside ≡ Some (take len inside) = inner ∙ ap (λ (n : ℕ). Some (take n inside)) (sym is) in
    let back : drop len inside ≡ 34 ∷ drop (len + 1) inside = drop_more inside len 0 less ∙ ap (λ (x : ℕ). x ∷ drop (len + 1) inside) closes in
    let passed : lex in_string inside ≡ lex in_string (34 ∷ drop (len + 1) inside) = plain_run inside ∙ ap (λ (n : ℕ). lex in_string (drop n inside)) (sym is) ∙ ap (lex in_string) back in
    ap₂ (λ (o : Option (List ℕ)) (l : List Lexeme). token (string_token o) ∷ l) whole passed

-- the first byte of a list, and what stands behind it
pub first_byte : (x : ℕ) (bs : List ℕ) → 0 < length bs → get_or bs 0 0 ≡ x → bs ≡ x ∷ drop 1 bs
first_byte x [] some is = absurd (omega (arith, some))
first_byte x (b ∷ bs) some is = ap (λ (y : ℕ). y ∷ bs) is

pub quoted_read : (text inside : List ℕ) (len k : ℕ) → 0 < length text → get_or text 0 0 ≡ 34 → inside ≡ drop 1 text → len ≡ prefix_len is_plain inside → len < length inside → get_or inside len 0 ≡ 34 → length inside ≤ k + (len + 1)
    → lex between text ≡ token (json.string (take len inside)) ∷ lex between (take k (drop (len + 1) inside))
quoted_read text inside len k some opens behind is less closes enough =
    let whole : text ≡ 34 ∷ inside = first_byte 34 text some opens ∙ ap (λ (r : List ℕ). 34 ∷ r) (sym behind) in
    let all : take k (drop (len + 1) inside) ≡ drop (len + 1) inside = take_all k (drop (len + 1) inside) (omega (arith, enough, length-drop (len + 1) inside)) in
    ap (lex between) whole ∙ quoted_lexed inside len is less closes ∙ ap (λ (r : List ℕ). token (json.string (take len inside)) ∷ lex between r) (sym all)

-- ---- what stands behind a value

pub ended_word : (t : List ℕ) → is_ended t ≡ true → ends_word t ≡ true
ended_word [] h = refl
ended_word (x ∷ xs) h = elim (or_cases (x == 44) (x == 125) h) [
  | inl e ↦ subst (λ y. ends_word (y ∷ xs) ≡ true) (sym (eqb-true x 44 e)) refl
  | inr e ↦ subst (λ y. ends_word (y ∷ xs) ≡ true) (sym (eqb-true x 125 e)) refl
]

pub ended_no_colon : (t : List ℕ) → is_ended t ≡ true → begins_colon (lex between t) ≡ false
unfolding lex
ended_no_colon [] h = refl
ended_no_colon (x ∷ xs) h = elim (or_cases (x == 44) (x == 125) h) [
  | inl e ↦ subst (λ y. begins_colon (lex between (y ∷ xs)) ≡ false) (sym (eqb-true x 44 e)) refl
  | inr e ↦ subst (λ y. begins_colon (lex between (y ∷ xs)) ≡ false) (sym (eqb-true x 125 e)) refl
]

-- ---- keys and values

pub key_taken : (p : Place) (s : List ℕ) (ls : List Lexeme) → may_begin p ≡ true → punctuate p (token (json.string s) ∷ colon ∷ ls) ≡ json.key s ∷ punctuate fresh ls
unfolding punctuate
key_taken fresh s ls h = refl
key_taken after_value s ls h = absurd (false≢true h)
key_taken after_comma s ls h = refl
key_taken after_key s ls h = absurd (false≢true h)

string_at : (b : Bool) (s : List ℕ) (ls : List Lexeme) → begins_colon ls ≡ b → b ≡ false → punctuate fresh (token (json.string s) ∷ ls) ≡ json.string s ∷ punctuate after_value ls
unfolding punctuate
string_at b s ls e h = rw (e ∙ h)

pub string_taken : (s : List ℕ) (ls : List Lexeme) → begins_colon ls ≡ false → punctuate fresh (token (json.string s) ∷ ls) ≡ json.string s ∷ punctuate after_value ls
string_taken s ls h = string_at false s ls h refl

null_taken : (ls : List Lexeme) → punctuate fresh (token json.null ∷ ls) ≡ json.null ∷ punctuate after_value ls
unfolding punctuate
null_taken ls = refl

number_taken : (s : List ℕ) (ls : List Lexeme) → punctuate fresh (token (json.number s) ∷ ls) ≡ json.number s ∷ punctuate after_value ls
unfolding punctuate
number_taken s ls = refl

pub colon_lexed : (r : List ℕ) → lex between (58 ∷ r) ≡ colon ∷ lex between r
unfolding lex
colon_lexed r = refl

pub comma_taken : (r : List ℕ) → json_tokens_from after_value (44 ∷ r) ≡ json_tokens_from after_comma r
unfolding lex punctuate
comma_taken r = refl

pub brace_taken : json_tokens_from after_value (125 ∷ []) ≡ json.end_object ∷ []
unfolding lex punctuate
brace_taken = refl

pub object_begun : (r : List ℕ) → json_tokens_from fresh (123 ∷ r) ≡ json.begin_object ∷ json_tokens_from fresh r
unfolding lex punctuate
object_begun r = refl

pub text_read : (text s rest : List ℕ) → lex between text ≡ token (json.string s) ∷ lex between rest → is_ended rest ≡ true → Reads text rest (string s)
text_read text s rest lexed ended = record { token = json.string s; first = ap (punctuate fresh) lexed ∙ string_taken s (lex between rest) (ended_no_colon rest ended); is = refl }

null_lexed : (rest : List ℕ) → ends_word rest ≡ true → lex between (110 ∷ 117 ∷ 108 ∷ 108 ∷ rest) ≡ token json.null ∷ lex between rest
unfolding lex word
null_lexed rest h = ap₂ (λ (b : Bool) l. token (cond b json.null bad) ∷ l) h (in_word-ended rest h)

pub null_read : (rest : List ℕ) → is_ended rest ≡ true → Reads (110 ∷ 117 ∷ 108 ∷ 108 ∷ rest) rest null
null_read rest ended = record { token = json.null; first = ap (punctuate fresh) (null_lexed rest (ended_word rest ended)) ∙ null_taken (lex between rest); is = refl }

null_bytes : (text : List ℕ) → 4 ≤ length text → get_or text 0 0 ≡ 110 → get_or text 1 0 ≡ 117 → get_or text 2 0 ≡ 108 → get_or text 3 0 ≡ 108 → text ≡ 110 ∷ 117 ∷ 108 ∷ 108 ∷ drop 4 text
null_bytes [] long n u l k = absurd (omega (arith, long))
null_bytes (a ∷ []) long n u l k = absurd (omega (arith, long))
null_bytes (a ∷ b ∷ []) long n u l k = absurd (omega (arith, long))
null_bytes (a ∷ b ∷ c ∷ []) long n u l k = absurd (omega (arith, long))
null_bytes (a ∷ b ∷ c ∷ d ∷ bs) long n u l k = λ i. n i ∷ u i ∷ l i ∷ k i ∷ bs

pub null_found : (text rest : List ℕ) → 4 ≤ length text → get_or text 0 0 ≡ 110 → get_or text 1 0 ≡ 117 → get_or text 2 0 ≡ 108 → get_or text 3 0 ≡ 108 → rest ≡ drop 4 text → is_ended rest ≡ true → Reads text rest null
null_found text rest long n u l k behind ended =
    subst (λ (t : List ℕ). Reads t rest null) (sym (null_bytes text long n u l k ∙ ap (λ (r : List ℕ). 110 ∷ 117 ∷ 108 ∷ 108 ∷ r) (sym behind))) (null_read rest ended)

pub name_read : (text name rest after : List ℕ) → lex between text ≡ token (json.string name) ∷ lex between rest → 0 < length rest → get_or rest 0 0 ≡ 58 → after ≡ drop 1 rest → ReadsKey text name after
name_read text name rest after lexed some is behind = λ p may.
    let colon_first : lex between rest ≡ colon ∷ lex between after = ap (lex between) (first_byte 58 rest some is ∙ ap (λ (r : List ℕ). 58 ∷ r) (sym behind)) ∙ colon_lexed after in
    ap (punctuate p) (lexed ∙ ap (λ (l : List Lexeme). token (json.string name) ∷ l) colon_first) ∙ key_taken p name (lex between after) may

-- ---- numbers

abbrev parts_of : List ℕ → Parts
parts_of ds = record { whole = ds; point = false; fraction = []; exponent_negative = false; exponent = []; len = length (ds ++ []) }

scan_digits : (ds : List ℕ) → AllDigits 10 ds → scan ds ≡ parts_of ds
scan_digits ds h =
    ap scan (sym (append-nil ds)) ∙ scan-text_of (parts_of ds) (record { whole_digits = h; fraction_digits = tt; exponent_digits = tt; no_point = λ _. refl; no_exponent = λ _. refl; len_is = refl })

worth : (ds : List ℕ) (n : ℕ) → digits_value 10 ds ≡ n → n ≡ digits_of (parts_of ds)
worth ds n is = sym is ∙ ap (digits_value 10) (sym (append-nil ds))

no_minus : (ds : List ℕ) → AllDigits 10 ds → 0 < length ds → get_or ds 0 0 ≡ 45 → ⊥
no_minus [] h some e = omega arith
no_minus (d ∷ ds) h some e = let digit : digit_value d < 10 = h.0 in let is : d ≡ 45 = e in grind arith

pub natural_number : (ds : List ℕ) (n : ℕ) → IsNatural ds n → (num : Num) × (number_of ds ≡ Some num) × (as_i64 num ≡ Some (pos n))
unfolding number_of
natural_number ds n h =
    let same = worth ds n h.is in
    let fits : digits_of (parts_of ds) < 2 ^ 64 = omega (arith, same, h.small) in
    let made = from_zero_is (parts_of ds) n (h.some, refl, refl) fits same h.small in
    (made.0, rw (ne_eqb (get_or ds 0 0) 45 (no_minus ds h.digits h.some)) (ap (number_from false) (scan_digits ds h.digits) ∙ made.1), made.2)

pub negative_number : (ds : List ℕ) (n : ℕ) → IsNatural ds n → 0 < n → (num : Num) × (number_of (45 ∷ ds) ≡ Some num) × (as_i64 num ≡ Some (neg_ℤ (pos n)))
unfolding number_of
negative_number ds n h some =
    let same = worth ds n h.is in
    let z : neg_ℤ (pos n) ≡ with_sign true (digits_of (parts_of ds)) = ap (λ k. neg_ℤ (pos k)) same in
    let small = h.small in
    let fits : FitsSigned w64 (with_sign true (digits_of (parts_of ds))) = subst (λ k. FitsSigned w64 k) z (grind arith) in
    let below : neg_ℤ (pos n) <ℤ pos 0 = grind arith in
    let made = below_zero_is (parts_of ds) (neg_ℤ (pos n)) (h.some, refl, refl) fits z below in
    (made.0, ap (number_from true) (scan_digits ds h.digits) ∙ made.1, made.2)

-- digits without a zero in front are a number
whole_digits : (ds : List ℕ) → get_or ds 0 0 ≢ 48 → 0 < length ds → prefix_len is_ascii_digit ds ≡ length ds → after_whole ds ≡ Some []
whole_digits [] first some all = absurd (omega arith)
whole_digits (d ∷ ds) first some all = rw (ne_eqb d 48 first, all, ne_eqb (suc (length ds)) 0 (λ e. omega arith)) (ap Some (drop_all (length ds) ds (omega arith)))

one_digit : (ds : List ℕ) → length ds ≡ 1 → prefix_len is_ascii_digit ds ≡ length ds → after_whole ds ≡ Some []
one_digit [] one all = absurd (omega (arith, one))
one_digit (d ∷ []) one all = one_at (d == 48) refl
  where
    one_at : (b : Bool) → (d == 48) ≡ b → after_whole (d ∷ []) ≡ Some []
    one_at true e = rw e
    one_at false e = rw (e, all)
one_digit (d ∷ e ∷ ds) one all = absurd (omega (arith, one))

whole_natural : (ds : List ℕ) (n : ℕ) → IsNatural ds n → after_whole ds ≡ Some []
whole_natural ds n h =
    let all : prefix_len is_ascii_digit ds ≡ length ds = digits_len_all ds h.digits in
    elim h.first [
      | inl one ↦ one_digit ds one all
      | inr first ↦ whole_digits ds first h.some all
    ]

no_sign : (ds : List ℕ) → AllDigits 10 ds → 0 < length ds → after_minus ds ≡ ds
no_sign [] h some = absurd (omega arith)
no_sign (d ∷ ds) h some = rw (ne_eqb d 45 (λ e. no_minus (d ∷ ds) h some e))

natural_is : (ds : List ℕ) (n : ℕ) → IsNatural ds n → IsNumber ds
unfolding after_number
natural_is ds n h =
    ap (λ o. option_and_then after_exponent (option_and_then after_fraction o)) (ap after_whole (no_sign ds h.digits h.some) ∙ whole_natural ds n h)

negative_is : (ds : List ℕ) (n : ℕ) → IsNatural ds n → IsNumber (45 ∷ ds)
unfolding after_number
negative_is ds n h = ap (λ o. option_and_then after_exponent (option_and_then after_fraction o)) (whole_natural ds n h)

number_read : (text s rest : List ℕ) (num : Num) → text ≡ s ++ rest → IsNumber s → is_ended rest ≡ true → number_of s ≡ Some num → Reads text rest (number num)
number_read text s rest num cut is ended found =
    let lexed : lex between text ≡ token (json.number s) ∷ lex between rest = ap (lex between) cut ∙ lex-number s rest is (ended_word rest ended) in
    record { token = json.number s; first = ap (punctuate fresh) lexed ∙ number_taken s (lex between rest); is = ap (option_map number) found }

pub natural_read : (text ds rest : List ℕ) (n : ℕ) → text ≡ ds ++ rest → IsNatural ds n → is_ended rest ≡ true → (num : Num) × Reads text rest (number num) × (as_i64 num ≡ Some (pos n))
natural_read text ds rest n cut h ended =
    let found = natural_number ds n h in
    (found.0, number_read text ds rest found.0 cut (natural_is ds n h) ended found.1, found.2)

pub negative_read : (text ds rest : List ℕ) (n : ℕ) → 0 < n → get_or text 0 0 ≡ 45 → 0 < length text → drop 1 text ≡ ds ++ rest → IsNatural ds n → is_ended rest ≡ true
    → (num : Num) × Reads text rest (number num) × (as_i64 num ≡ Some (neg_ℤ (pos n)))
negative_read text ds rest n some minus long cut h ended =
    let found = negative_number ds n h some in
    let whole : text ≡ (45 ∷ ds) ++ rest = drop_more text 0 0 long ∙ ap₂ (λ x r. x ∷ r) minus cut in
    (found.0, number_read text (45 ∷ ds) rest found.0 whole (negative_is ds n h) ended found.1, found.2)

negated_is : (n : ℕ) → pos 0 -ℤ pos n ≡ neg_ℤ (pos n)
negated_is n = omega (arith, ints)

pub negated : (n : ℕ) → n < 2 ^ 63 → to_z w64 (of_z w64 (pos 0 -ℤ to_z w64 n)) ≡ neg_ℤ (pos n)
negated n small =
    let fits : FitsSigned w64 (neg_ℤ (pos n)) = grind arith in
    ap (λ (z : ℤ). to_z w64 (of_z w64 (pos 0 -ℤ z))) (to_z_pos w64 n small) ∙ ap (λ (z : ℤ). to_z w64 (of_z w64 z)) (negated_is n) ∙ to_z-of_z w64 (neg_ℤ (pos n)) fits

-- ---- digits, one more at a time

pub digits_next : (text : List ℕ) (n at digit : ℕ) → HasDigits text n at → at < length text → 48 ≤ get_or text at 0 → get_or text at 0 ≤ 57 → digit + 48 ≡ get_or text at 0 → n * 10 + digit < 2 ^ 63 → HasDigits text (n * 10 + digit) (at + 1)
digits_next text n at digit h inside least most is small =
    let value : digit_value (get_or text at 0) ≡ digit = omega (arith, digit_value_digit (get_or text at 0) (least, most), is) in
    let less : digit_value (get_or text at 0) < 10 = omega (arith, value, is, most) in
    record {
      inside = omega (arith, inside);
      digits = digits_more 10 text at inside h.digits less;
      is = digits_value_more 10 text at inside ∙ ap₂ (λ (a b : ℕ). a * 10 + b) h.is value;
      small = small;
    }

-- ---- one member more, and the end

module _ (p : Place) (text name held rest : List ℕ) (old : Members) (n : ℕ) (d : Data) (may : may_begin p ≡ true) (key : ReadsKey text name held) (reads : Reads held rest d) (enough : length (json_tokens_from p text) ≤ n) where
  first_tokens : json_tokens_from p text ≡ json.key name ∷ reads.token ∷ json_tokens_from after_value rest
  first_tokens = key p may ∙ ap (λ (ts : List Token). json.key name ∷ ts) reads.first

  pub counted_tokens : length (json_tokens_from after_value rest) + 2 ≤ n
  counted_tokens = omega (arith, enough, ap length first_tokens)

  pub member_read : converted (λ ms. of_members ms old) (members (value 126) n (json_tokens_from p text)) ≡ converted (λ ms. of_members ms (put name d old)) (members (value 126) (n - 1) (json_tokens_from after_value rest))
  member_read =
      let done : converted of_json (value 126 (reads.token ∷ json_tokens_from after_value rest)) ≡ Some (d, json_tokens_from after_value rest) = of_token 126 reads.token (json_tokens_from after_value rest) d reads.is in
      ap (λ (ts : List Token). converted (λ ms. of_members ms old) (members (value 126) n ts)) first_tokens
      ∙ one_more (value 126) old n name (json.key name ∷ reads.token ∷ json_tokens_from after_value rest) (reads.token ∷ json_tokens_from after_value rest) (json_tokens_from after_value rest) d (omega (arith, counted_tokens)) refl done

pub members_closed : (old : Members) (n : ℕ) (rest : List ℕ) → rest ≡ 125 ∷ [] → length (json_tokens_from after_value rest) ≤ n → converted (λ ms. of_members ms old) (members (value 126) n (json_tokens_from after_value rest)) ≡ Some (old, [])
members_closed old n rest is enough = all_read (value 126) old n (json_tokens_from after_value rest) [] enough (ap (λ r. read_key (json_tokens_from after_value r)) is ∙ ap read_key brace_taken)

-- the one byte of a list
pub only_byte : (x : ℕ) (bs : List ℕ) → length bs ≡ 1 → get_or bs 0 0 ≡ x → bs ≡ x ∷ []
only_byte x [] one is = absurd (omega (arith, one))
only_byte x (b ∷ []) one is = ap (λ (y : ℕ). y ∷ []) is
only_byte x (b ∷ c ∷ bs) one is = absurd (omega (arith, one))

-- ---- the whole text

pub walked : (found : Option ℤ) (text : List ℕ) → 0 < length text → get_or text 0 0 ≡ 123
    → IfSome found (λ time. (all : Members) × (converted (λ ms. of_members ms no_members) (members (value 126) (length (json_tokens_from fresh (drop 1 text))) (json_tokens_from fresh (drop 1 text))) ≡ Some (all, [])) × AreOfRow time all)
    → IfSome found (λ time. (all : Members) × (read text ≡ Some (object all)) × AreOfRow time all)
walked None text some brace h = tt
walked (Some t) text some brace h =
    let s = json_tokens_from fresh (drop 1 text) in
    let first : json_tokens_from fresh text ≡ json.begin_object ∷ s = ap (json_tokens_from fresh) (first_byte 123 text some brace) ∙ object_begun (drop 1 text) in
    let opened = ap (converted of_json) (ap (value 127) first ∙ value-begin_object 127 s (omega arith)) ∙ converted_object (members (value 126) (length s) s) in
    let done : converted of_json (value 127 (json_tokens_from fresh text)) ≡ Some (object h.0, []) = opened ∙ ap (parse_map object) h.1 in
    (h.0, whole_text (value 127 (json_tokens_from fresh text)) (object h.0) done, h.2)
