-- Files that a crash may leave with any closed region, as files on a device if the machine goes down.
use Rattle.std.specs.Prelude.{◌≡◌, ◌⊎◌, List, ℕ, refl}
use mathlib.Core.Logic.{inl, inr}
use Rattle.std.proofs.Common.{◌∙◌, sym, subst}
use Rattle.berth_face.specs.Berth.{Pair, Meaning, IsClosed}
use Rattle.berth_face.specs.Moments.{KeepsRegion}

-- what may be left of such files, where this may be left of others: the same disk beside the same region or a closed
-- one
abbrev pub torn : Meaning → Meaning
torn m = record {
  tells = m.tells;
  held = m.held;
  clock = m.clock;
  leaves = λ t p. (q : Pair) × m.leaves t q × (p.disk ≡ q.disk) × ((p.region ≡ q.region) ⊎ IsClosed p.region);
  regions = m.regions;
  region_faults = m.region_faults;
  disk_faults = m.disk_faults;
  disk_reads = m.disk_reads;
}

-- what reads give may still be left, and each region is that or closed
pub stands : (m : Meaning) → m.leaves m.clock m.held → (torn m).leaves m.clock m.held
stands m there = (m.held, there, refl, inl refl)

pub keeps_region : (m : Meaning) → KeepsRegion m → KeepsRegion (torn m)
keeps_region m keeps p left = elim left.3 [
  | inl same ↦ elim (keeps left.0 left.1) [
    | inl held ↦ inl (same ∙ held)
    | inr shut ↦ inr (subst IsClosed (sym same) shut)
  ]
  | inr shut ↦ inr shut
]
