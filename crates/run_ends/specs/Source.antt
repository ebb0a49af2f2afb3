-- The bytes that are taken from a source.
use Rattle.std.specs.Prelude.{◌≡◌, ◌≤◌, ℕ, List, ◌++◌, length, Option}
use Rattle.std.specs.Io.KnownBytes.{Consumes}
use Rattle.berth_face.specs.Streams.{ReadsAll}

-- the most bytes of a text
abbrev pub longest_text : ℕ
longest_text = 16777216

-- the most bytes that are taken from a source
abbrev pub most_taken : ℕ
most_taken = 16777217

-- n bytes were taken, and appended to a text
pub record TookMore (before after : Option (List ℕ)) (old new : List ℕ) (n room : ℕ) : Type 0 where
  pub bytes : List ℕ
  pub taken : Consumes before after bytes
  pub added : new ≡ old ++ bytes
  pub count : length bytes ≡ n
  pub within : n ≤ room

-- bytes were taken, and appended to a text
pub record Took (before after : Option (List ℕ)) (old new : List ℕ) : Type 0 where
  pub bytes : List ℕ
  pub taken : Consumes before after bytes
  pub added : new ≡ old ++ bytes

-- all bytes that were left were taken, and they were at most `most`
abbrev pub PassesAll : Option (List ℕ) → Option (List ℕ) → ℕ → Type 0
PassesAll before after most = (bytes : List ℕ) × ReadsAll before after bytes × (length bytes ≤ most)
