-- What anchors and codes mean.
use Rattle.std.specs.Prelude.{ℕ, zero, suc, ◌+◌, ◌-◌, ◌*◌, ◌/◌, ◌%◌, List, length, map, ℤ, pos, negsuc, ◌+ℤ◌, ◌-ℤ◌, if◌then◌else◌, ◌==◌, slice_index, slice_index_or}
use Rattle.std.specs.List.{range_with_len}
use Rattle.std.specs.Int.{w64, int_wrap, div_ceil}

-- the code of a difference d: 2d for d from 0 up, and -2d - 1 below 0 (`negsuc d` is -d - 1)
abbrev pub zigzag : ℤ → ℕ
zigzag (pos d) = 2 * d
zigzag (negsuc d) = 2 * d + 1

-- the difference that a code stands for
abbrev pub unzigzag : ℕ → ℤ
unzigzag code = if code % 2 == 0 then pos (code / 2) else negsuc (code / 2)

-- a value plus the difference that a code stands for, wrapping at 64 bits
abbrev pub after : ℤ → ℕ → ℤ
after before code = int_wrap w64 (before +ℤ unzigzag code)

-- slot i: an anchor if i is a multiple of 64, else slot i - 1 plus the difference of code i
abbrev pub slot : List ℤ → List ℕ → ℕ → ℤ
slot anchors codes zero = slice_index_or anchors 0 (pos 0)
slot anchors codes (suc i) = if suc i % 64 == 0
    then slice_index_or anchors (suc i / 64) (pos 0)
    else after (slot anchors codes i) (slice_index codes (suc i))

-- the slots that anchors and codes mean, one for each code
abbrev pub slots : List ℤ → List ℕ → List ℤ
slots anchors codes = map (slot anchors codes) (range_with_len 0 (length codes))

-- ---- what is written for values

-- the values at the places 0, 64, 128 and so on
abbrev pub anchors_of : List ℤ → List ℤ
anchors_of values = map (λ k. slice_index_or values (64 * k) (pos 0)) (range_with_len 0 (div_ceil (length values) 64))

-- code i: 0 at an anchor, else the code of the difference from value i - 1, wrapping at 64 bits
abbrev pub code_of : List ℤ → ℕ → ℕ
code_of values i = if i % 64 == 0 then 0
    else zigzag (int_wrap w64 (slice_index_or values i (pos 0) -ℤ slice_index_or values (i - 1) (pos 0)))

abbrev pub codes_of : List ℤ → List ℕ
codes_of values = map (code_of values) (range_with_len 0 (length values))
