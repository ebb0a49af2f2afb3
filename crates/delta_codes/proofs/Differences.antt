-- Codes of differences: they fit 64 bits, they stand for one difference each, and what they do to a value.
use Rattle.std.proofs.Common.{◌≡◌, ℤ, pos, negsuc, ◌+ℤ◌, ◌-ℤ◌, FitsSigned, w64, ap, ◌∙◌, arith}
use Rattle.std.specs.Int.{int_wrap}
use Rattle.std.proofs.lemmas.Int.{ints, int_wrap-add_right, int_wrap_fits}
use Rattle.delta_codes.specs.Slots.{zigzag, unzigzag, after}

pub unzigzag_zigzag : (d : ℤ) → unzigzag (zigzag d) ≡ d
unzigzag_zigzag (pos d) = grind arith
unzigzag_zigzag (negsuc d) = grind arith

-- the difference between two values leads from the one to the other, also where it wraps
pub after_difference : (before value : ℤ) → FitsSigned w64 value → after before (zigzag (int_wrap w64 (value -ℤ before))) ≡ value
after_difference before value fits =
    ap (λ d. int_wrap w64 (before +ℤ d)) (unzigzag_zigzag (int_wrap w64 (value -ℤ before)))
    ∙ int_wrap-add_right w64 before (value -ℤ before)
    ∙ ap (int_wrap w64) (omega (arith, ints))
    ∙ int_wrap_fits w64 value fits
