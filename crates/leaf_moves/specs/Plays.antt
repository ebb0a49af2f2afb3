-- What a whole command does to leaves and callers' seats: its steps, the pieces that it prints, and the rows that its
-- answers are over.
use Rattle.std.specs.Prelude.{◌≡◌, ℕ, List, [], ◌∷◌, Option, Some, slice_get, slice_set, ⊤}
use Rattle.berth_face.specs.Berth.{Meaning}
use Rattle.leaf_history.specs.Calls.{Call}
use Rattle.leaf_history.specs.History.{Entry}
use Rattle.leaf_table.specs.Calls.{SeatView}
use Rattle.printed_lines.specs.declared.line.Line.{Line}
use Rattle.script_text.specs.declared.command.Command.{Command}
use Rattle.script_text.specs.declared.command.Command.TheVariants as command
use Rattle.script_text.specs.Fits.{IsCommand}
use Rattle.script_text.specs.declared.fleet.FleetShape.{FleetShape}
use Rattle.script_text.specs.Commands.{leaf_count}
use Rattle.printed_lines.specs.declared.line.Deed.{Deed}
use Rattle.transcript.specs.Pieces.{Piece, Says}
use Rattle.transcript.specs.Shapes.{Prints}
use Rattle.transcript.specs.Answers.{Answers}
use Rattle.leaf_moves.specs.Holds.{Hold, GoOn, base_states_in, with_callers, with_leaf}
use Rattle.leaf_moves.specs.Stage.{Leaf}
use Rattle.leaf_moves.specs.Steps.{CallStep, DeedStep}

-- ---- steps of several leaves

-- The steps of callers and stewards, piece by piece. A call changes the callers' seat at one table. A deed changes one
-- leaf, its seats and its berth. A line changes nothing.
pub data Goes {B : Type 0} (meaning : B → Meaning) : List (Hold B) → List Piece → List (Hold B) → Type 0 where
  none : (xs : List (Hold B)) (pieces : List Piece) (ys : List (Hold B))
      → pieces ≡ []
      → ys ≡ xs
      → Goes meaning xs pieces ys
  call : (xs : List (Hold B)) (pieces : List Piece) (ys : List (Hold B)) (leaf table : ℕ) (c : Call) (x : Hold B) (callers : List (Option SeatView)) (p : Piece) (others : List Piece)
      → slice_get xs leaf ≡ Some x
      → CallStep leaf table c x.tables x.callers p callers
      → Goes meaning (slice_set xs leaf (with_callers x callers)) others ys
      → pieces ≡ p ∷ others
      → Goes meaning xs pieces ys
  act : (xs : List (Hold B)) (pieces : List Piece) (ys : List (Hold B)) (leaf : ℕ) (deed : Deed) (x : Hold B) (l l' : Leaf) (b b' : B) (callers : List (Option SeatView)) (p : Piece) (others : List Piece)
      → slice_get xs leaf ≡ Some x
      → x.held ≡ Some (l, b)
      → DeedStep leaf deed (meaning b) (meaning b') l x.callers p l' callers
      → Goes meaning (slice_set xs leaf (with_leaf x l' b' callers)) others ys
      → pieces ≡ p ∷ others
      → Goes meaning xs pieces ys
  say : (xs : List (Hold B)) (pieces : List Piece) (ys : List (Hold B)) (l : Line) (others : List Piece)
      → Goes meaning xs others ys
      → pieces ≡ Says l ∷ others
      → Goes meaning xs pieces ys

-- ---- whole commands

-- a command that this fleet may play
abbrev pub MayPlay : FleetShape → Command → Type 0
MayPlay fleet (command.Fleet machines per_machine tables) = ⊤
MayPlay fleet c = IsCommand (leaf_count fleet) fleet.names c

-- What a command does. Its answer is over what the tables then hold, however their histories go on.
pub record Plays {B : Type 0} (meaning : B → Meaning) (fleet : FleetShape) (c : Command) (xs : List (Hold B)) (pieces : List Piece) (ys : List (Hold B)) : Type 0 where
  pub goes : Goes meaning xs pieces ys
  pub prints : Prints fleet c pieces
  pub answers : (histories : ℕ → ℕ → List Entry) → GoOn ys histories → Answers fleet (base_states_in ys) histories (record { command = c; pieces = pieces })
