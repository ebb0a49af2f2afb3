-- What a crash may leave of the region while a step calls on it.
use Rattle.std.specs.Prelude.{◌≡◌, ◌⊎◌, ℕ, ◌≤◌, List, [], ◌∷◌, length, take}
use Rattle.berth_face.specs.Berth.{Pair, Meaning, IsClosed}

-- the pair comes from an earlier one: the disk is the same, and the region has P
pub record LeftFrom (P : List ℕ → Type 0) (old : Meaning) (p : Pair) : Type 0 where
  pub from : Pair
  pub was : old.leaves old.clock from
  pub disk : p.disk ≡ from.disk
  pub region : P p.region

-- the region is closed, or an open flag and then these bytes
abbrev pub ClosedOrOpened : List ℕ → List ℕ → Type 0
ClosedOrOpened behind region = IsClosed region ⊎ (region ≡ 1 ∷ behind)

-- the region has at most this number of bytes
abbrev pub IsWithin : ℕ → List ℕ → Type 0
IsWithin n region = length region ≤ n

-- the region is a prefix of what it was, as while it is cut, or no longer than the head that it begins with
abbrev pub IsCutOrBegun : List ℕ → List ℕ → Type 0
IsCutOrBegun was region = (region ≡ take (length region) was) ⊎ (length region ≤ 16)

-- the region ends at this place, and its flag is closed
abbrev pub EndsAt : ℕ → List ℕ → Type 0
EndsAt at region = (length region ≡ at) × (take 1 region ≡ 0 ∷ [])
