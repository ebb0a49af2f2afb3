-- The lines of a text, and the pieces of a line.
use Rattle.std.specs.Prelude.{ℕ, ◌-◌, ◌==◌, ◌||◌, List, [], ◌∷◌, length, map, take, Bool, false, if◌then◌else◌, slice_index}
use Rattle.std.specs.List.{onto_first, list_all}

-- The text, cut at each byte `at`. A last piece that is empty does not count.
abbrev pub pieces : ℕ → List ℕ → List (List ℕ)
pieces at [] = []
pieces at (b ∷ bs) = if b == at then [] ∷ pieces at bs else onto_first b (pieces at bs)

-- the bytes before the first byte `at`; all if there is none
abbrev pub before : ℕ → List ℕ → List ℕ
before at [] = []
before at (b ∷ bs) = if b == at then [] else b ∷ before at bs

-- the bytes after the first byte `at`; none if there is none
abbrev pub bytes_after : ℕ → List ℕ → List ℕ
bytes_after at [] = []
bytes_after at (b ∷ bs) = if b == at then bs else bytes_after at bs

-- The text, cut at each byte 10. A last piece that is empty is no line.
abbrev pub lines : List ℕ → List (List ℕ)
lines text = pieces 10 text

-- The line without a byte 13 at its end.
abbrev pub without_return : List ℕ → List ℕ
without_return line = if slice_index line (length line - 1) == 13 then take (length line - 1) line else line

-- the lines of a text, each without a byte 13 at its end
abbrev pub lines_of : List ℕ → List (List ℕ)
lines_of text = map without_return (lines text)

-- empty, or spaces alone
abbrev pub is_blank : List ℕ → Bool
is_blank line = list_all (λ b. b == 32) line

-- a line that begins with `#`
abbrev pub is_comment : List ℕ → Bool
is_comment [] = false
is_comment (b ∷ bs) = b == 35

-- a blank line or a comment, which is no command
abbrev pub is_skipped : List ℕ → Bool
is_skipped line = is_blank line || is_comment line
