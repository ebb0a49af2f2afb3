-- The transcript of a script.
use Rattle.std.specs.Prelude.{◌≡◌, ℕ, ◌<◌, true, false, List, [], map, length, Option, Some, None, is_some}
use Rattle.std.specs.List.{AllByRecursion}
use Rattle.berth_face.specs.Berth.{Pair}
use Rattle.leaf_history.specs.History.{Entry, no_base}
use Rattle.leaf_words.specs.declared.ways.Way.{Way}
use Rattle.crash_moments.specs.Left.{NamedStates}
use Rattle.script_text.specs.declared.item.Item.{Item}
use Rattle.printed_lines.specs.Lines.{lines_text, name_at}
use Rattle.script_text.specs.declared.fleet.FleetShape.{FleetShape}
use Rattle.script_text.specs.Commands.{leaf_count}
use Rattle.transcript.specs.Pieces.{Played, PlayedItem, all_lines, all_pieces, deeds, item_of, plays_in}
use Rattle.transcript.specs.Shapes.{Prints}
use Rattle.transcript.specs.Life.{Life, Down, Lives}
use Rattle.transcript.specs.Histories.{BaseState, IsHistoryOf, InOrder, shown}
use Rattle.transcript.specs.Answers.{Answers, WornIsLong, columns_of}

-- What is known of how a leaf begins: the base of its berth, what region and disk read, the way of that region, and the
-- number of writes of each name in that log.
pub record Known : Type 0 where
  pub base : NamedStates
  pub held : Pair
  pub way : Way
  pub read : List ℕ → ℕ

-- what the leaf's table with this name begins with
abbrev pub base_state_of : Option Known → List ℕ → BaseState
base_state_of (Some k) name = record { founded = true; base = k.base name }
base_state_of None name = record { founded = false; base = no_base }

abbrev pub first_life : Option Known → List (List ℕ) → Life
first_life (Some k) names = record { mode = Down; way = Some k.way; durable = Some (map k.read names); begun = false }
first_life None names = record { mode = Down; way = None; durable = None; begun = false }

abbrev pub base_states_of : FleetShape → (ℕ → Option Known) → ℕ → ℕ → BaseState
base_states_of fleet known leaf table = base_state_of (known leaf) (name_at fleet.names table)

-- The text is what the items of a script print, over leaves that begin so.
pub record Transcript (fleet : FleetShape) (known : ℕ → Option Known) (items : List Item) (out : List ℕ) : Type 0 where
  pub played : List PlayedItem
  pub histories : ℕ → ℕ → List Entry
  pub lives : ℕ → Life
  pub items_are : map item_of played ≡ items
  pub text : out ≡ lines_text fleet.names (all_lines played)
  -- each command prints its pieces
  pub prints : AllByRecursion (λ (p : Played). Prints fleet p.command p.pieces) (plays_in played)
  -- each leaf lives by the deeds of its steward
  pub each_lives : (leaf : ℕ) → leaf < (leaf_count fleet) →
      Lives (is_some (known leaf)) (length fleet.names) (columns_of (base_states_of fleet known leaf) (histories leaf) (length fleet.names)) [] (first_life (known leaf) fleet.names) (deeds leaf (all_pieces played)) (lives leaf)
  -- the lines of each table tell one history, in order
  pub one_history : (leaf table : ℕ) → leaf < (leaf_count fleet) → table < length fleet.names →
      IsHistoryOf (base_states_of fleet known leaf table) (shown leaf table (all_pieces played)) (histories leaf table)
  pub in_order : (leaf table : ℕ) → leaf < (leaf_count fleet) → table < length fleet.names → InOrder leaf table 0 played (length (histories leaf table))
  -- answers are over the rows that they name, and worn seats are
  pub answers : AllByRecursion (Answers fleet (base_states_of fleet known) histories) (plays_in played)
  pub worn : AllByRecursion (WornIsLong histories) (all_pieces played)
