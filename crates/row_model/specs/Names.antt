-- Names of tables, and lists of distinct names.
use Rattle.std.specs.Prelude.{◌≢◌, ℕ, Bool, true, false, not, ◌&&◌, ◌||◌, List, [], ◌∷◌, length, nat_le, bytes_eq, ⊤}
use Rattle.std.specs.Bool.{◌==◌}
use Rattle.std.specs.Char.{is_ascii_digit, is_ascii_lowercase}
use Rattle.std.specs.List.{list_all, list_any, AllByRecursion}

-- a to z, 0 to 9, or `_`
abbrev pub is_name_byte : ℕ → Bool
is_name_byte b = is_ascii_lowercase b || (is_ascii_digit b || b == 95)

-- the name of a table: a letter from a to z, then at most 63 of a to z, 0 to 9 and `_`
abbrev pub is_table_name : List ℕ → Bool
is_table_name [] = false
is_table_name (b ∷ bs) = is_ascii_lowercase b && (nat_le (length bs) 63 && list_all is_name_byte bs)

-- `name` is one of `names`
abbrev pub is_among : List (List ℕ) → List ℕ → Bool
is_among names name = list_any (λ other. bytes_eq other name) names

-- the test of AreDistinct
abbrev pub are_distinct : List (List ℕ) → Bool
are_distinct [] = true
are_distinct (name ∷ names) = not (is_among names name) && are_distinct names

-- no two names are equal
abbrev pub AreDistinct : List (List ℕ) → Type 0
AreDistinct [] = ⊤
AreDistinct (name ∷ names) = AllByRecursion (λ other. other ≢ name) names × AreDistinct names
