-- Berths over which leaves may begin, whatever they hold.
use Rattle.std.specs.Prelude.{◌≡◌, ◌<◌, ◌≤◌, ℕ, List, length, slice_get, Option, Some, None, IfSome}
use Rattle.berth_face.specs.Berth.{Meaning, Pair}
use Rattle.region_layout.specs.Region.{reads}
use Rattle.crash_moments.specs.Left.{Left, NamedStates}
use Rattle.play.specs.Played.{AreBases, IsBase}
use Rattle.play_again.specs.Keeping.{KeptName, bases_of, states_of}

-- a leaf may begin over the berth with some base
abbrev pub HasBase : Meaning → Type 0
HasBase m = (base : NamedStates) × IsBase base m

-- this holds of the first `leaves` berths
abbrev pub HaveBases : {B : Type 0} → ℕ → (B → Meaning) → List B → Type 0
HaveBases {B} leaves meaning berths = (leaf : ℕ) (b : B) → leaf < leaves → slice_get berths leaf ≡ Some b → HasBase (meaning b)

-- what is kept of a berth is a base of it
abbrev pub IsBaseKept : Meaning → Option (List KeptName) → Type 0
IsBaseKept m None = ⊥
IsBaseKept m (Some kept) = IsBase (states_of kept) m

-- a base is kept of each of the first `leaves` berths, and a run may begin over these
pub record KeepsBases {B : Type 0} (leaves : ℕ) (meaning : B → Meaning) (berths : List B) (kept : List (Option (List KeptName))) : Type 0 where
  pub as_many : length kept ≡ length berths
  pub each : (leaf : ℕ) (b : B) (k : Option (List KeptName)) → leaf < leaves → slice_get berths leaf ≡ Some b → slice_get kept leaf ≡ Some k → IsBaseKept (meaning b) k
  pub bases : AreBases (bases_of kept) meaning berths

-- ---- after a run

-- the pair belongs to some tables: over a berth that is opened on it a leaf may begin
abbrev pub BelongsToTables : Pair → Type 0
BelongsToTables p = (tables : NamedStates) × Left reads tables p

-- a leaf may begin over the berth, and what a crash at any moment from this one on may have left of it belongs to some
-- tables
pub record HasBaseSince (from : ℕ) (m : Meaning) : Type 0 where
  pub base : HasBase m
  pub crashed : (t : ℕ) (p : Pair) → from ≤ t → t ≤ m.clock → m.leaves t p → BelongsToTables p

-- after a run this holds of each berth that had a base, since the run began
abbrev pub HaveBasesAgain : {B : Type 0} → (B → Meaning) → List B → List B → Type 0
HaveBasesAgain {B} meaning olds news = (leaf : ℕ) (old new : B) → slice_get olds leaf ≡ Some old → slice_get news leaf ≡ Some new → HasBase (meaning old) → HasBaseSince (meaning old).clock (meaning new)

-- the same, of each berth whose base was named
abbrev pub NamedHaveBases : {B : Type 0} → (ℕ → Option NamedStates) → (B → Meaning) → List B → List B → Type 0
NamedHaveBases {B} base meaning olds news = (leaf : ℕ) (old new : B) → slice_get olds leaf ≡ Some old → slice_get news leaf ≡ Some new → IfSome (base leaf) (λ states. HasBaseSince (meaning old).clock (meaning new))
