-- What is taken from a source and put into a sink, over many calls.
use Rattle.std.specs.Prelude.{◌≡◌, ◌≤◌, ℕ, List, ◌++◌, length, Option}
use Rattle.std.specs.Io.KnownBytes.{Consumes, IsAtEnd, Appends}

-- these are all bytes that the source had, and none is left
abbrev pub ReadsAll : Option (List ℕ) → Option (List ℕ) → List ℕ → Type 0
ReadsAll before after text = Consumes before after text × IsAtEnd after

-- a prefix of the bytes was taken, of at most n bytes
abbrev pub TakesAtMost : Option (List ℕ) → Option (List ℕ) → ℕ → Type 0
TakesAtMost before after most = (bytes : List ℕ) × Consumes before after bytes × (length bytes ≤ most)

-- a prefix of n bytes was taken
abbrev pub TakesCount : Option (List ℕ) → Option (List ℕ) → ℕ → Type 0
TakesCount before after count = (bytes : List ℕ) × Consumes before after bytes × (length bytes ≡ count)

-- the piece was written but for `rest`, its end
pub record Written (before after : Option (List ℕ)) (piece rest : List ℕ) : Type 0 where
  pub front : List ℕ
  pub is : piece ≡ front ++ rest
  pub bytes : Appends before after front

-- a prefix of the piece was written
abbrev pub WritesFront : Option (List ℕ) → Option (List ℕ) → List ℕ → Type 0
WritesFront before after piece = (rest : List ℕ) × Written before after piece rest
