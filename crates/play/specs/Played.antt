-- What the play of a script prints, and what it leaves of the berths.
use Rattle.std.specs.Prelude.{◌≡◌, ℕ, ◌+◌, ◌≤◌, List, length, drop, slice_get, Option, Some, None, IfSome, Result, Ok, Err}
use Rattle.berth_face.specs.Berth.{Meaning}
use Rattle.crash_moments.specs.Left.{NamedStates}
use Rattle.leaf_history.specs.History.{base_of}
use Rattle.crash_states.specs.Beginning.{IsLeastSpare, MayBegin}
use Rattle.script_text.specs.declared.item.Item.{Item}
use Rattle.script_text.specs.declared.script.Script.{Script}
use Rattle.script_text.specs.Commands.{Fault, leaf_count}
use Rattle.script_text.specs.Script.{script_of}
use Rattle.transcript.specs.Pieces.{script_fleet}
use Rattle.run_words.specs.declared.words.Request.{Request}
use Rattle.run_words.specs.declared.words.Request.TheVariants.{Inspect, Play, Soak}

-- the number of leaves of a script's fleet
abbrev pub leaves_in : List Item → ℕ
leaves_in items = leaf_count (script_fleet items)

-- ---- what is known of the berths

-- each name's table is shut, and all its writes were taken; it may have spare columns
abbrev pub BasesAreShut : NamedStates → Type 0
BasesAreShut base = (name : List ℕ) → base name ≡ base_of (base name).writes (base name).flushed (base name).spare

-- a leaf with this base may begin over the berth, and new tables can be founded with it; it has no more spare columns
-- than the region needs
pub record IsBase (base : NamedStates) (m : Meaning) : Type 0 where
  pub begins : MayBegin base m
  pub is : BasesAreShut base
  pub least : (name : List ℕ) → IsLeastSpare m.held.region name (base name)

-- leaf L uses berth L; if a base is named for it, it is that of the berth
abbrev pub AreBases : {B : Type 0} → (ℕ → Option NamedStates) → (B → Meaning) → List B → Type 0
AreBases {B} base meaning berths = (leaf : ℕ) (b : B) → slice_get berths leaf ≡ Some b → IfSome (base leaf) (λ states. IsBase states (meaning b))

-- ---- which berths are used

-- the number of leaves in the fleet of a soak
abbrev pub soak_leaves : ℕ
soak_leaves = 8

-- what holds of a berth in any case: no count of faults fell
pub record KeepsCounts (old new : Meaning) : Type 0 where
  pub tells : new.tells ≡ old.tells
  pub region_faults : old.region_faults ≤ new.region_faults
  pub disk_faults : old.disk_faults ≤ new.disk_faults

-- the number of leaves of a script's fleet; 0 of no script
abbrev pub leaves_of : Result Script Fault → ℕ
leaves_of (Ok script) = leaves_in script.items
leaves_of (Err found) = 0

-- the number of leaves that a source's text makes; 256, the most of a fleet, if the source does not tell its text
abbrev pub leaves_told : Option (List ℕ) → ℕ
leaves_told (Some text) = leaves_of (script_of text)
leaves_told None = 256

-- a bound on the leaves whose berths a request may change; an inspect counts those up to its leaf
abbrev pub leaves_asked : Option Request → Option (List ℕ) → ℕ
leaves_asked (Some Play) before = leaves_told before
leaves_asked (Some (Soak seed rows)) before = soak_leaves
leaves_asked (Some (Inspect leaf)) before = leaf + 1
leaves_asked _ before = 0

-- All berths are in their places. The first `leaves` were used, and no count of their faults fell. All others are
-- untouched.
pub record LeavesBerths {B : Type 0} (meaning : B → Meaning) (leaves : ℕ) (olds news : List B) : Type 0 where
  pub as_many : length news ≡ length olds
  pub used : (leaf : ℕ) (old new : B) → slice_get olds leaf ≡ Some old → slice_get news leaf ≡ Some new → KeepsCounts (meaning old) (meaning new)
  pub others : drop leaves news ≡ drop leaves olds
