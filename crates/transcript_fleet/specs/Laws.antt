-- The statements of the laws.
use Rattle.std.specs.Prelude.{◌≡◌, ℕ, ◌<◌, List, [], ◌∷◌, ◌++◌, length, map, Option, Some, slice_get}
use Rattle.berth_face.specs.Berth.{Meaning}
use Rattle.leaf_history.specs.History.{Entry}
use Rattle.region_layout.specs.Names.{AreNames}
use Rattle.crash_moments.specs.Left.{NamedStates}
use Rattle.script_text.specs.declared.item.Item.TheVariants as item
use Rattle.printed_lines.specs.Lines.{lines_text}
use Rattle.script_text.specs.declared.fleet.FleetShape.{FleetShape}
use Rattle.script_text.specs.Commands.{leaf_count}
use Rattle.transcript.specs.Pieces.{PlayedItem, all_lines, all_pieces, deeds, item_of}
use Rattle.transcript.specs.Strangers.{StrangersIn}
use Rattle.transcript.specs.Transcript.{Known, Transcript, base_states_of}
use Rattle.transcript.specs.Moments.{MomentsRise, notes_told}
use Rattle.transcript.specs.Leaving.{LeavesBerth}
use Rattle.leaf_moves.specs.Holds.{GoOn, HasMet, Hold, berth_in, base_states_in}
use Rattle.leaf_moves.specs.Lanes.{PlaysItem}
use Rattle.transcript_leaf.specs.Session.{IsNewHold}
use Rattle.transcript_fleet.specs.Session.{Session}

-- a run begins over any berths
abbrev pub SessionsBegin : {B : Type 0} → (B → Meaning) → List B → Type 0
SessionsBegin {B} meaning berths = (fleet : FleetShape) (base : ℕ → Option NamedStates) (known : ℕ → Option Known) (xs : List (Hold B))
    → AreNames fleet.names → length xs ≡ leaf_count fleet → map Some berths ≡ map (λ (x : Hold B). berth_in x) xs
    → ((leaf : ℕ) (x : Hold B) → slice_get xs leaf ≡ Some x → IsNewHold meaning fleet.names (base leaf) (known leaf) x)
    → Session meaning fleet known berths [] xs

-- A run goes on by one item. Histories that go on after the item also go on from before it.
abbrev pub SessionsGoOn : {B : Type 0} → (B → Meaning) → List B → Type 0
SessionsGoOn {B} meaning olds = (fleet : FleetShape) (known : ℕ → Option Known) (items : List PlayedItem) (xs ys : List (Hold B)) (x : PlayedItem)
    → Session meaning fleet known olds items xs → PlaysItem meaning fleet xs x ys
    → Session meaning fleet known olds (items ++ x ∷ []) ys × ((histories : ℕ → ℕ → List Entry) → GoOn ys histories → GoOn xs histories)

-- the tables of a run begin with what is known of their leaves
abbrev pub SessionsKnow : {B : Type 0} → (B → Meaning) → List B → Type 0
SessionsKnow {B} meaning olds = (fleet : FleetShape) (known : ℕ → Option Known) (items : List PlayedItem) (xs : List (Hold B)) → Session meaning fleet known olds items xs
    → (leaf table : ℕ) → leaf < leaf_count fleet → table < length fleet.names → base_states_in xs leaf table ≡ base_states_of fleet known leaf table

-- these items are a transcript over leaves whose berths were `olds` and are now those of `xs`
pub record IsToldFleet {B : Type 0} (meaning : B → Meaning) (fleet : FleetShape) (known : ℕ → Option Known) (items : List PlayedItem) (olds : List B) (xs : List (Hold B)) : Type 0 where
  pub transcript : Transcript fleet known (map item_of items) (lines_text fleet.names (all_lines items))
  pub played_is : transcript.played ≡ items
  pub go_on : GoOn xs transcript.histories
  pub strangers : (leaf : ℕ) (k : Known) → leaf < leaf_count fleet → known leaf ≡ Some k → StrangersIn fleet.names k.held.disk k.held.region (deeds leaf (all_pieces items))
  pub leaves : (leaf : ℕ) (k : Known) (old new : B) (x : Hold B) → known leaf ≡ Some k → slice_get olds leaf ≡ Some old → slice_get xs leaf ≡ Some x → berth_in x ≡ Some new
      → LeavesBerth fleet.names k.base (transcript.lives leaf) (transcript.histories leaf) (meaning old) (meaning new)
  pub moments : (leaf : ℕ) (old new : B) (x : Hold B) → slice_get olds leaf ≡ Some old → slice_get xs leaf ≡ Some x → berth_in x ≡ Some new
      → MomentsRise (transcript.histories leaf) (meaning old).clock (notes_told leaf (all_pieces items)) (meaning new).clock

-- once all seats have met again, a run is a transcript
abbrev pub SessionsEnd : {B : Type 0} → (B → Meaning) → List B → Type 0
SessionsEnd {B} meaning olds = (fleet : FleetShape) (known : ℕ → Option Known) (items : List PlayedItem) (xs : List (Hold B))
    → Session meaning fleet known olds items xs → ((leaf : ℕ) (x : Hold B) → slice_get xs leaf ≡ Some x → HasMet meaning x)
    → IsToldFleet meaning fleet known items olds xs
