-- Texts that are cut at line ends.
use Rattle.std.specs.Prelude.{◌≡◌, ◌<◌, ◌≤◌, ◌==◌, ◌+◌, ◌⊎◌, ℕ, List, [], ◌∷◌, ◌++◌, length, take, drop, Bool, true, if◌then◌else◌, Result, IfOk}
use Rattle.std.specs.Borrow.{Bor}
use Rattle.std.specs.List.{AllByRecursion, flat_map}
use Rattle.text_lines.specs.Lines.{lines_of}

-- The text is the line, a byte 10 and the rest; or it is the line alone, which has no end.
abbrev pub IsLineCut : List ℕ → List ℕ → List ℕ → Type 0
IsLineCut text line rest = (text ≡ line ++ 10 ∷ rest) ⊎ ((text ≡ line) × (rest ≡ []))

-- the text is empty, or ends with a line end
abbrev pub ends_line : List ℕ → Bool
ends_line [] = true
ends_line (b ∷ []) = b == 10
ends_line (b ∷ c ∷ bs) = ends_line (c ∷ bs)

-- the number of line ends
abbrev pub ends : List ℕ → ℕ
ends [] = 0
ends (b ∷ bs) = (if b == 10 then 1 else 0) + ends bs

-- a text in two parts, whose lines are those of the text
pub record IsTextCut (text front back : List ℕ) : Type 0 where
  pub joined : front ++ back ≡ text
  pub lines : lines_of front ++ lines_of back ≡ lines_of text

-- `rest` follows the first `count` lines of the text
pub record IsFront (text rest : List ℕ) (count : ℕ) : Type 0 where
  pub front : List ℕ
  pub both : front ++ rest ≡ text
  pub first : lines_of front ≡ take count (lines_of text)
  pub others : lines_of rest ≡ drop count (lines_of text)
  pub within : count ≤ length (lines_of text)
  pub short : count + length rest ≤ length text
  pub ended : 0 < length rest → ends_line front ≡ true

-- the bytes of all parts, part after part
abbrev pub bytes_of_parts : List (Bor (List ℕ)) → List ℕ
bytes_of_parts parts = flat_map (λ (part : Bor (List ℕ)). part.now) parts

-- the lines of all parts, part after part
abbrev pub lines_of_parts : List (Bor (List ℕ)) → List (List ℕ)
lines_of_parts parts = flat_map (λ (part : Bor (List ℕ)). lines_of part.now) parts
