-- The digits of a number can be printed.
use Rattle.std.proofs.Common.{ℕ, ◌<◌, ◌^◌, List, [], ◌∷◌, arith}
use Rattle.std.specs.Fmt.{decimal}
use Rattle.std.specs.Str.Parse.{AllDigits}
use Rattle.std.proofs.lemmas.Fmt.{digits_decimal}
use Rattle.std.proofs.lemmas.Str.Parse.{numerals_by_value, tells_digits}
use Rattle.rollover_watch.specs.Lines.{ArePrintable}

digits_print : (ds : List ℕ) → AllDigits 10 ds → ArePrintable ds
digits_print [] all = tt
digits_print (d ∷ ds) all =
    let here = tells_digits.parts d ds all in
    ((omega (arith, here.0), omega (arith, here.0)), digits_print ds here.1)

pub decimal_prints : (n : ℕ) → n < 2 ^ 64 → ArePrintable (decimal n)
decimal_prints n fits = digits_print (decimal n) (digits_decimal (numerals_by_value _ tells_digits) n fits)
