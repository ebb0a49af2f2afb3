-- Numbers that are written in digits.
use Rattle.std.specs.Prelude.{ℕ, ℤ, pos, ◌-◌, ◌^◌, min, ◌==◌, ◌&&◌, List, [], ◌∷◌, length, nat_lt, nat_le, Bool, not, if◌then◌else◌, Option, Some, None}
use Rattle.std.specs.Char.{is_ascii_digit}
use Rattle.std.specs.List.{filter, list_all, position_from}
use Rattle.std.specs.Str.{bytes_eq}
use Rattle.std.specs.Str.Parse.{digits_value}

-- 1 to 20 digits
abbrev pub is_number : List ℕ → Bool
is_number word = nat_lt 0 (length word) && nat_le (length word) 20 && list_all is_ascii_digit word

-- the number of a word of 1 to 20 digits
abbrev pub number_of : List ℕ → Option ℕ
number_of word = if is_number word then Some (digits_value 10 word) else None

-- the number, but at most 2^64 - 1
abbrev pub capped : ℕ → ℕ
capped n = min n (2 ^ 64 - 1)

-- the number of a word of 1 to 20 digits, if it is below 2^64
abbrev pub count_of : List ℕ → Option ℕ
count_of word = if is_number word && nat_lt (digits_value 10 word) (2 ^ 64) then Some (digits_value 10 word) else None

-- the number of a word of 1 to 20 digits, if it is a time: below 2^63
abbrev pub time_of_word : List ℕ → Option ℤ
time_of_word word = if is_number word && nat_lt (digits_value 10 word) (2 ^ 63) then Some (pos (digits_value 10 word)) else None
