-- A stretch of a run over a fleet: what holds of the lines since it began, and of what a player holds of each leaf. The
-- player is the run, or a lane of a burst.
use Rattle.std.specs.Prelude.{◌≡◌, ℕ, List, [], length, Option, Some, slice_get}
use Rattle.std.specs.List.{AllByRecursion}
use Rattle.berth_face.specs.Berth.{Meaning}
use Rattle.leaf_history.specs.History.{Entry}
use Rattle.script_text.specs.declared.fleet.FleetShape.{FleetShape}
use Rattle.script_text.specs.Commands.{leaf_count}
use Rattle.transcript.specs.Pieces.{Piece, Played, PlayedItem, all_pieces, plays_in}
use Rattle.transcript.specs.Shapes.{Prints}
use Rattle.transcript.specs.Answers.{Answers, WornIsLong}
use Rattle.transcript.specs.Transcript.{Known, base_states_of}
use Rattle.leaf_moves.specs.Holds.{Hold, GoOn}
use Rattle.transcript_leaf.specs.Session.{IsWhole, LeafSession}

-- A stretch that began after the pieces `before`, when the history of each table was `start`. The berths were `olds`
-- when the run began. A statement about histories holds however they go on.
pub record Stretch {B : Type 0} (meaning : B → Meaning) (fleet : FleetShape) (known : ℕ → Option Known) (olds : List B) (before : List Piece) (start : ℕ → ℕ → List Entry)
    (items : List PlayedItem) (xs : List (Hold B)) : Type 0 where
  pub counts : (length olds ≡ leaf_count fleet) × (length xs ≡ leaf_count fleet)
  pub prints : AllByRecursion (λ (p : Played). Prints fleet p.command p.pieces) (plays_in items)
  pub each : (leaf : ℕ) (old : B) (x : Hold B) → slice_get olds leaf ≡ Some old → slice_get xs leaf ≡ Some x
      → LeafSession meaning leaf fleet.names (known leaf) (meaning old) before (start leaf) items x
  pub answered : (histories : ℕ → ℕ → List Entry) → GoOn xs histories → AllByRecursion (Answers fleet (base_states_of fleet known) histories) (plays_in items)
  pub worn : (histories : ℕ → ℕ → List Entry) → GoOn xs histories → AllByRecursion (WornIsLong histories) (all_pieces items)

abbrev pub nothing_yet : ℕ → ℕ → List Entry
nothing_yet leaf table = []

-- the whole run between two items: it began with nothing, and holds all leaves and seats
pub record Session {B : Type 0} (meaning : B → Meaning) (fleet : FleetShape) (known : ℕ → Option Known) (olds : List B) (items : List PlayedItem) (xs : List (Hold B)) : Type 0 where
  pub stretch : Stretch meaning fleet known olds [] nothing_yet items xs
  pub whole : (leaf : ℕ) (x : Hold B) → slice_get xs leaf ≡ Some x → IsWhole x
