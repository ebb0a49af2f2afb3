-- A disk by the bytes before one of its gates.
use Rattle.std.specs.Prelude.{◌≡◌, ◌≢◌, ◌⊎◌, ℕ, List, ◌∷◌, ◌++◌, Bool, cond}

-- these bytes, and then a gate that is not open
pub record ClosedAfter (front disk : List ℕ) : Type 0 where
  pub gate : ℕ
  pub rest : List ℕ
  pub is : disk ≡ front ++ gate ∷ rest
  pub shut : gate ≢ 1

-- these bytes, a gate of any kind, and then the owed bytes
pub record LaidAfter (front owed disk : List ℕ) : Type 0 where
  pub gate : ℕ
  pub rest : List ℕ
  pub is : disk ≡ front ++ gate ∷ (owed ++ rest)

-- these bytes, an open gate, and then the owed bytes
pub record OpenAfter (front owed disk : List ℕ) : Type 0 where
  pub rest : List ℕ
  pub is : disk ≡ front ++ 1 ∷ (owed ++ rest)

-- a disk of these bytes, or of these and a body more
abbrev pub MaybeMore : List ℕ → List ℕ → List ℕ → Type 0
MaybeMore front body disk = ClosedAfter front disk ⊎ ClosedAfter (front ++ 1 ∷ body) disk

-- the gate is not open, and anything follows; or the owed bytes are there whole, and the gate is any byte
abbrev pub EitherWay : List ℕ → List ℕ → List ℕ → Type 0
EitherWay owed front disk = ClosedAfter front disk ⊎ LaidAfter front owed disk

-- each disk while bytes are owed: until they are laid the gate is not open, then they are there whole
abbrev pub OwingAfter : Bool → List ℕ → List ℕ → List ℕ → Type 0
OwingAfter laid owed front disk = cond laid (LaidAfter front owed disk) (ClosedAfter front disk)
