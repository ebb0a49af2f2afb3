-- Names as texts.
use Rattle.std.proofs.Common.{◌≡◌, ◌<◌, ◌≤◌, ◌&&◌, ℕ, zero, suc, ℤ, pos, List, [], ◌∷◌, length, refl, ap, sym, ◌∙◌, arith, Bool, true, false, cond, true≢false, subst, Some, None, Result, Ok, Err, ◌^◌, min, ltb, leb}
use Rattle.std.proofs.lemmas.Bool.Decides.{nat_tests}
use Rattle.std.proofs.lemmas.Str.{IsUtf8-from_ascii}
use Rattle.std.specs.Char.{is_ascii_digit, is_ascii_lowercase}
use Rattle.std.specs.List.{list_all}
use Rattle.std.specs.Str.{IsUtf8, IsAscii, all_ascii_digits}
use Rattle.std.specs.Str.Parse.{ParsesSigned, ParsesUnsigned, digits_value}
use Rattle.std.specs.Result.{OkIff, result_ok, result_unwrap_or}
use Rattle.std.specs.Option.{option_map}
use Rattle.std.proofs.lemmas.Str.Parse.{IsNumeralModel, numerals_by_value, tells_all_ascii_digits, parse_digits, parse_signed_digits}
use Rattle.row_model.specs.Names.{is_table_name, is_name_byte}
use mir.Syntax.{w64}

-- bytes that pass a test of bytes below 128 are ASCII
ascii_all : (test : ℕ → Bool) → ((b : ℕ) → test b ≡ true → b < 128) → (word : List ℕ) → list_all test word ≡ true → IsAscii word
ascii_all test low [] all i = omega arith
ascii_all test low (b ∷ bs) all zero = low b (grind (arith, all))
ascii_all test low (b ∷ bs) all (suc i) = ascii_all test low bs (grind (arith, all)) i

digit_low : (b : ℕ) → is_ascii_digit b ≡ true → b < 128
digit_low b is = grind (arith, nat_tests, is)

name_byte_low : (b : ℕ) → is_name_byte b ≡ true → b < 128
name_byte_low b is = grind (arith, nat_tests, is)

letter_low : (b : ℕ) → is_ascii_lowercase b ≡ true → b < 128
letter_low b is = grind (arith, nat_tests, is)

pub digits_utf8 : (word : List ℕ) → list_all is_ascii_digit word ≡ true → IsUtf8 word
digits_utf8 word all = IsUtf8-from_ascii word (ascii_all is_ascii_digit digit_low word all)

ascii_at : (b : ℕ) (bs : List ℕ) → b < 128 → IsAscii bs → IsAscii (b ∷ bs)
ascii_at b bs first rest zero = first
ascii_at b bs first rest (suc i) = rest i

pub name_utf8 : (word : List ℕ) → is_table_name word ≡ true → IsUtf8 word
name_utf8 [] is = absurd (grind (arith, is))
name_utf8 (b ∷ bs) is =
    let first : b < 128 = letter_low b (grind (arith, is)) in
    let rest : list_all is_name_byte bs ≡ true = grind (arith, is) in
    let each : IsAscii (b ∷ bs) = λ i. ascii_at b bs first (ascii_all is_name_byte name_byte_low bs rest) i in
    IsUtf8-from_ascii (b ∷ bs) each
