-- Numbers as texts.
use Rattle.std.proofs.Common.{◌≡◌, ◌<◌, ◌≤◌, ◌&&◌, ℕ, zero, suc, ℤ, pos, List, [], ◌∷◌, length, refl, ap, sym, ◌∙◌, arith, Bool, true, false, cond, true≢false, subst, Some, None, Result, Ok, Err, ◌^◌, min, ltb, leb}
use Rattle.std.proofs.lemmas.Bool.Decides.{nat_tests}
use Rattle.std.proofs.lemmas.Str.{IsUtf8-from_ascii}
use Rattle.std.specs.Char.{is_ascii_digit, is_ascii_lowercase}
use Rattle.std.specs.List.{list_all}
use Rattle.std.specs.Str.{IsUtf8, IsAscii, all_ascii_digits}
use Rattle.std.specs.Str.Parse.{ParsesSigned, ParsesUnsigned, digits_value}
use Rattle.std.specs.Result.{OkIff, result_ok, result_unwrap_or}
use Rattle.std.specs.Option.{option_map}
use Rattle.std.proofs.lemmas.Str.Parse.{IsNumeralModel, numerals_by_value, tells_all_ascii_digits, parse_digits, parse_signed_digits}
use Rattle.text_lines.specs.Numbers.{is_number, number_of, capped, count_of, time_of_word}
use mir.Syntax.{w64}

-- numbers
number_by : (a b c : Bool) → (a && b && c) ≡ true → (a ≡ true) × (c ≡ true)
number_by true true true h = (refl, refl)
number_by true true false h = absurd (true≢false (sym h))
number_by true false c h = absurd (true≢false (sym h))
number_by false b c h = absurd (true≢false (sym h))

pub number_digits : (word : List ℕ) → is_number word ≡ true → list_all is_ascii_digit word ≡ true
number_digits word is = (number_by (ltb 0 (length word)) (leb (length word) 20) (list_all is_ascii_digit word) is).1

pub number_some : (word : List ℕ) → is_number word ≡ true → 0 < length word
number_some word is =
    let low : ltb 0 (length word) ≡ true = (number_by (ltb 0 (length word)) (leb (length word) 20) (list_all is_ascii_digit word) is).0 in
    grind (arith, nat_tests, low)

all_digits : (ds : List ℕ) → all_ascii_digits ds ≡ list_all is_ascii_digit ds
all_digits [] = refl
all_digits (d ∷ ds) = ap (λ b. is_ascii_digit d && b) (all_digits ds)

own : IsNumeralModel (λ ds. all_ascii_digits ds ≡ true) (digits_value 10)
own = numerals_by_value _ tells_all_ascii_digits

decided : {E : Type 0} (v n : ℕ) (number : Bool) (r : Result ℕ E) → number ≡ true → 0 < n → OkIff r ((0 < n) × (v < 2 ^ 64)) v → Some (result_unwrap_or r 18446744073709551615) ≡ option_map capped (cond number (Some v) None)
decided v n number (Ok x) is some h =
    let e : x ≡ min v 18446744073709551615 = omega (arith, h.0.1, h.1) in
    rw is (ap Some e)
decided v n number (Err e) is some h =
    let large : 2 ^ 64 ≤ v = grind (arith, some, h) in
    let e : 18446744073709551615 ≡ min v 18446744073709551615 = omega (arith, large) in
    rw is (ap Some e)

pub number_parsed : {E : Type 0} (word digits : List ℕ) (r : Result ℕ E) → digits ≡ word → ParsesUnsigned 64 10 digits r → is_number word ≡ true → Some (result_unwrap_or r 18446744073709551615) ≡ option_map capped (number_of word)
number_parsed word digits r same parsed is =
    let here : ParsesUnsigned 64 10 word r = subst (λ ds. ParsesUnsigned 64 10 ds r) same parsed in
    decided (digits_value 10 word) (length word) (is_number word) r is (number_some word is) (parse_digits own 64 word r here (all_digits word ∙ number_digits word is))

held : {E : Type 0} (v n : ℕ) (number : Bool) (r : Result ℕ E) → number ≡ true → 0 < n → OkIff r ((0 < n) × (v < 2 ^ 64)) v → result_ok r ≡ cond (number && ltb v (2 ^ 64)) (Some v) None
held v n number (Ok x) is some h = grind (arith, nat_tests, h.0.1, h.1)
held v n number (Err e) is some h = grind (arith, nat_tests, h)

pub count_parsed : {E : Type 0} (word digits : List ℕ) (r : Result ℕ E) → digits ≡ word → ParsesUnsigned 64 10 digits r → is_number word ≡ true → result_ok r ≡ count_of word
count_parsed word digits r same parsed is =
    let here : ParsesUnsigned 64 10 word r = subst (λ ds. ParsesUnsigned 64 10 ds r) same parsed in
    held (digits_value 10 word) (length word) (is_number word) r is (number_some word is) (parse_digits own 64 word r here (all_digits word ∙ number_digits word is))

timed : {E : Type 0} (v n : ℕ) (number : Bool) (r : Result ℤ E) → number ≡ true → 0 < n → OkIff r ((0 < n) × (v < 2 ^ 63)) (pos v) → result_ok r ≡ cond (number && ltb v (2 ^ 63)) (Some (pos v)) None
timed v n number (Ok x) is some h = grind (arith, nat_tests, h.0.1, h.1)
timed v n number (Err e) is some h = grind (arith, nat_tests, h)

pub time_parsed : {E : Type 0} (word digits : List ℕ) (r : Result ℤ E) → digits ≡ word → ParsesSigned w64 10 digits r → is_number word ≡ true → result_ok r ≡ time_of_word word
time_parsed word digits r same parsed is =
    let here : ParsesSigned w64 10 word r = subst (λ ds. ParsesSigned w64 10 ds r) same parsed in
    timed (digits_value 10 word) (length word) (is_number word) r is (number_some word is) (parse_signed_digits own w64 word r here (all_digits word ∙ number_digits word is))
