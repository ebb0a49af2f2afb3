-- What holds of every pair that a crash may leave, and of every region that may be there, now or at each moment of a
-- run of calls.
use Rattle.std.specs.Prelude.{◌≡◌, ◌⊎◌, ℕ, ◌≤◌, List}
use Rattle.berth_face.specs.Berth.{Pair, Meaning, IsClosed, Passes}

-- P holds of each pair of the present moment
abbrev pub EachNow : (Pair → Type 0) → Meaning → Type 0
EachNow P m = (p : Pair) → m.leaves m.clock p → P p

-- P holds of each pair of each moment from old's to new's
pub record Throughout (P : Pair → Type 0) (old new : Meaning) : Type 0 where
  pub passes : Passes old new
  pub each : (t : ℕ) (p : Pair) → old.clock ≤ t → t ≤ new.clock → new.leaves t p → P p

-- a crash now leaves the region that reads give, or one that is closed
abbrev pub KeepsRegion : Meaning → Type 0
KeepsRegion m = EachNow (λ p. (p.region ≡ m.held.region) ⊎ IsClosed p.region) m

-- the region that is there now is the one that reads give
abbrev pub StandsHeld : Meaning → Type 0
StandsHeld m = (region : List ℕ) → m.regions m.clock region → region ≡ m.held.region

-- P holds of each region that may be there at a moment from old's to new's
pub record Meanwhile (P : List ℕ → Type 0) (old new : Meaning) : Type 0 where
  pub passes : Passes old new
  pub each : (t : ℕ) (region : List ℕ) → old.clock ≤ t → t ≤ new.clock → new.regions t region → P region

-- this region or one that is closed, and a disk that has P
pub record WithRegion (region : List ℕ) (P : List ℕ → Type 0) (p : Pair) : Type 0 where
  pub region_is : (p.region ≡ region) ⊎ IsClosed p.region
  pub disk_has : P p.disk
