-- The words of a line, and the numbers and names that they give.
use Rattle.std.specs.Prelude.{ℕ, ℤ, pos, ◌-◌, ◌^◌, min, ◌==◌, ◌&&◌, List, [], ◌∷◌, length, nat_lt, nat_le, Bool, not, if◌then◌else◌, Option, Some, None}
use Rattle.std.specs.Char.{is_ascii_digit}
use Rattle.std.specs.List.{filter, list_all, position_from}
use Rattle.std.specs.Str.{bytes_eq}
use Rattle.std.specs.Str.Parse.{digits_value}
use Rattle.row_model.specs.Names.{is_table_name, is_among, are_distinct}
use Rattle.text_lines.specs.Lines.{pieces, before, bytes_after, is_blank}

-- the words of a line: its pieces between spaces, but for the empty ones
abbrev pub words_of : List ℕ → List (List ℕ)
words_of line = filter (λ piece. nat_lt 0 (length piece)) (pieces 32 line)

-- the line without the spaces before its first word
abbrev pub unindented : List ℕ → List ℕ
unindented [] = []
unindented (b ∷ bs) = if b == 32 then unindented bs else b ∷ bs

-- the first word of a line
abbrev pub first_word : List ℕ → List ℕ
first_word line = before 32 (unindented line)

-- all that follows the first word and one space
abbrev pub behind_word : List ℕ → List ℕ
behind_word line = bytes_after 32 (unindented line)

-- the text without the spaces at its end
abbrev pub trimmed : List ℕ → List ℕ
trimmed [] = []
trimmed (b ∷ bs) = if is_blank (b ∷ bs) then [] else b ∷ trimmed bs

-- the place of a name among the names, from 0
abbrev pub place_of : List (List ℕ) → List ℕ → Option ℕ
place_of names name = position_from (λ other. bytes_eq other name) 0 names

-- 1 to 16 distinct names of tables
abbrev pub are_tables : List (List ℕ) → Bool
are_tables names = nat_lt 0 (length names) && nat_le (length names) 16 && list_all is_table_name names && are_distinct names

-- what may be the name of another table after these
abbrev pub may_follow : List (List ℕ) → List ℕ → Bool
may_follow names name = nat_lt (length names) 16 && is_table_name name && not (is_among names name)
