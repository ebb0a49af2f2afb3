-- A region whose flag is closed, and what is left of one at each moment while it is closed and cut.
use Rattle.std.specs.Prelude.{◌≡◌, ◌⊎◌, ℕ, ◌≤◌, List, ◌∷◌, length, drop}
use Rattle.berth_face.specs.Berth.{Pair, Meaning, IsClosed}

-- the region with its flag closed
abbrev pub closed_flag : List ℕ → List ℕ
closed_flag region = 0 ∷ drop 1 region

-- there is a whole head, and its flag is open
abbrev pub IsOpenRegion : List ℕ → Type 0
IsOpenRegion region = IsClosed region → ⊥

-- after a fault: the region is as it was but for a flag that was open, or it is closed
pub record IsBroken (old new : List ℕ) : Type 0 where
  pub closed : IsClosed old → new ≡ old
  pub either : ((drop 1 new ≡ drop 1 old) × (length new ≡ length old)) ⊎ IsClosed new

pub record AdoptsFrom (old : Meaning) (p : Pair) : Type 0 where
  pub from : Pair
  pub was : old.leaves old.clock from
  pub disk : p.disk ≡ from.disk
  pub region : IsClosed p.region ⊎ IsBroken old.held.region p.region

-- once the flag was closed, every region that a crash leaves is closed, and the disk is as it was
pub record ClosedFrom (old : Meaning) (p : Pair) : Type 0 where
  pub from : Pair
  pub was : old.leaves old.clock from
  pub disk : p.disk ≡ from.disk
  pub region : IsClosed p.region

-- a region no longer than it was
abbrev pub IsNoLonger : List ℕ → List ℕ → Type 0
IsNoLonger was region = length region ≤ length was
