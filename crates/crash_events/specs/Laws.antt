-- Laws of a leaf's machine, as statements.
use Rattle.std.specs.Prelude.{◌≡◌, ℕ, Bool, List}
use Rattle.std.specs.List.{AllByRecursion}
use Rattle.berth_face.specs.Berth.{Pair}
use Rattle.crash_moments.specs.Left.{Left}
use Rattle.crash_events.specs.Machine.{Machine, Tracked, Down}
use Rattle.crash_events.specs.Events.{Reaches, Step}
use Rattle.crash_events.specs.Kept.{Kept}
use Rattle.crash_events.specs.Fits.{FitsPair, states_by_name}

-- the tables were handed in nothing, so their writes are all that they accepted
abbrev pub IsPlain : List Tracked → Type 0
IsPlain ts = AllByRecursion (λ (x : Tracked). x.state.handed_in ≡ 0) ts

-- the invariant holds after each event of a run, since each prefix of a run is a run
abbrev pub KeptThroughout : Type 0
KeptThroughout = (m m' : Machine) → Kept m → Reaches m m' → Kept m'

-- no event hands in writes
abbrev pub PlainThroughout : Type 0
PlainThroughout = (m m' : Machine) → IsPlain m.tables → Reaches m m' → IsPlain m'.tables

-- a pair that fits what was reached belongs to its tables, whatever versions are read
abbrev pub LeftThroughout : Type 0
LeftThroughout = (reads : ℕ → Bool) (m m' : Machine) (pair : Pair) → IsPlain m.tables → Kept m → Reaches m m' → FitsPair reads m' pair → Left reads (states_by_name m'.tables) pair

-- a crash may leave each pair that fits; the leaf is then down, with nothing in the hand, and the pair fits it
abbrev pub FittingIsCrash : Type 0
FittingIsCrash = (reads : ℕ → Bool) (m : Machine) (pair : Pair) → FitsPair reads m pair → (m' : Machine) × (m'.mode ≡ Down) × Step m m' × FitsPair reads m' pair
