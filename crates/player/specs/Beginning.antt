-- Leaves as they are made.
use Rattle.std.specs.Prelude.{◌≡◌, ℕ, List, length, map, slice_get, Option, Some}
use Rattle.berth_face.specs.Berth.{Meaning}
use Rattle.region_layout.specs.Names.{AreNames}
use Rattle.crash_moments.specs.Left.{NamedStates}
use Rattle.leaf_table.specs.Turns.{Shared, start_of}
use Rattle.leaf_table.specs.Calls.{SeatView, base_seen, name_of}
use Rattle.leaf_table.specs.Lists.{row}
use Rattle.leaf_steward.specs.Seated.{Seated, AreAlike, AreFounded, AtEach, IsUnused}
use Rattle.crash_states.specs.Beginning.{MayBegin}
use Rattle.leaf_moves.specs.Stage.{IsDown, LeafStands}
use Rattle.leaf_deeds.specs.declared.leaf.OneLeaf.{OneLeaf}
use Rattle.leaf_deeds.specs.declared.leaf.OneLeaf.TheVariants as one
use Rattle.player.specs.Crew.{seated_at}

-- each table begins with the state of its name
abbrev pub BeginsWith : NamedStates → Seated → Type 0
BeginsWith states x = AtEach (λ place t v. start_of (base_seen t) ≡ states (name_of t)) x

-- a leaf with these seats, down over that berth
pub record IsBegun {B : Type 0} (meaning : B → Meaning) (x : Seated) (b : B) (leaf : Option (OneLeaf B)) : Type 0 where
  pub is : leaf ≡ Some (one.Down (x, b))
  pub stands : (states : NamedStates) → AreFounded x → MayBegin states (meaning b) → BeginsWith states x → LeafStands states (IsDown x) (meaning b)

-- leaf `leaf` may begin over its berth, with its tables and its steward's unused seats at them
pub record LeafIsReady {B : Type 0} (meaning : B → Meaning) (names : List (List ℕ)) (tables : List (List Shared)) (stewards : List (List SeatView)) (berths : List B) (leaf : ℕ) : Type 0 where
  pub named : AreNames names
  pub names_are : map name_of (row tables leaf) ≡ names
  pub count : length (row stewards leaf) ≡ length (row tables leaf)
  pub unused : AtEach (λ place t v. IsUnused t v) (seated_at names tables stewards leaf)
  pub alike : AreAlike (seated_at names tables stewards leaf)
  pub ready : (b : B) → slice_get berths leaf ≡ Some b → AreFounded (seated_at names tables stewards leaf) → (states : NamedStates) × MayBegin states (meaning b) × BeginsWith states (seated_at names tables stewards leaf)

-- the first `count` leaves are made, each over its berth
pub record AreBegun {B : Type 0} (meaning : B → Meaning) (names : List (List ℕ)) (tables : List (List Shared)) (stewards : List (List SeatView)) (berths : List B) (count : ℕ) (leaves : List (Option (OneLeaf B))) : Type 0 where
  pub length_is : length leaves ≡ count
  pub each : (leaf : ℕ) (x : Option (OneLeaf B)) → slice_get leaves leaf ≡ Some x → (b : B) × (slice_get berths leaf ≡ Some b) × IsBegun meaning (seated_at names tables stewards leaf) b x
