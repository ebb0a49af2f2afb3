-- The words of a command line.
use Rattle.std.specs.Prelude.{ℕ, ◌≤◌, ◌&&◌, List, [], ◌∷◌, codes, nat_le, if◌then◌else◌, Option, Some, None, option_and_then, option_map, ⊤}
use Rattle.std.specs.Str.{bytes_eq}
use Rattle.text_lines.specs.Numbers.{count_of, time_of_word}
use Rattle.row_count.specs.declared.count.Range.{Range}
use Rattle.run_words.specs.declared.words.Request.{Request}
use Rattle.run_words.specs.declared.words.Request.TheVariants.{Count, Inspect, Play, Soak}

-- `count FROM TO`: two times
abbrev pub counts_of : List ℕ → List ℕ → Option Request
counts_of from to = option_and_then (λ from. option_map (λ to. Count (record { from = from; to = to })) (time_of_word to)) (time_of_word from)

-- `soak SEED ROWS`: a seed that 64 bits hold, and 8 to 800,000 rows
abbrev pub soaks_of : List ℕ → List ℕ → Option Request
soaks_of seed rows = option_and_then (λ seed. option_and_then (λ rows. if nat_le 8 rows && nat_le rows 800000 then Some (Soak seed rows) else None) (count_of rows)) (count_of seed)

-- `inspect L`: one of 256 leaves
abbrev pub inspects_of : List ℕ → Option Request
inspects_of leaf = option_and_then (λ leaf. if nat_le leaf 255 then Some (Inspect leaf) else None) (count_of leaf)

-- what the words ask for: `play`, or one of the above
abbrev pub request_of : List (List ℕ) → Option Request
request_of (command ∷ []) = if bytes_eq command (codes "play") then Some Play else None
request_of (command ∷ first ∷ []) = if bytes_eq command (codes "inspect") then inspects_of first else None
request_of (command ∷ first ∷ second ∷ []) =
    if bytes_eq command (codes "count") then counts_of first second else (if bytes_eq command (codes "soak") then soaks_of first second else None)
request_of _ = None

-- a soak has 8 to 800,000 rows, and a leaf is one of 256
abbrev pub IsInRange : Request → Type 0
IsInRange (Count range) = ⊤
IsInRange Play = ⊤
IsInRange (Soak seed rows) = (8 ≤ rows) × (rows ≤ 800000)
IsInRange (Inspect leaf) = leaf ≤ 255

-- P holds of the range, if the words ask for a count
abbrev pub IfCount : Option Request → (Range → Type 0) → Type 0
IfCount (Some (Count range)) P = P range
IfCount _ P = ⊤

-- P holds, unless the words ask for a count
abbrev pub UnlessCount : Option Request → Type 0 → Type 0
UnlessCount (Some (Count range)) P = ⊤
UnlessCount _ P = P
