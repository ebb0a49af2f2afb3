-- What the watches of a run hear: the events of its rollovers, with the answers of the leaves.
use Rattle.std.specs.Prelude.{◌≡◌, ℕ, List, [], ◌∷◌, length, map, take}
use Rattle.std.specs.List.{flat_map}
use Rattle.leaf_words.specs.declared.ways.Way.{Way}
use Rattle.leaf_words.specs.declared.ways.Way.TheVariants.{Memory, Disk}
use Rattle.rollover_watch.specs.declared.event.Drained.{Drained}
use Rattle.rollover_watch.specs.declared.event.Drained.TheVariants as drained
use Rattle.rollover_watch.specs.declared.event.Started.{Started}
use Rattle.rollover_watch.specs.declared.event.Started.TheVariants as started
use Rattle.rollover_watch.specs.Watches.{Held}
use Rattle.rollover_driver.specs.Calls.{FleetCall}
use Rattle.rollover_driver.specs.Calls as call
use Rattle.rollover_driver.specs.Drives.{Drives}
use Rattle.script_text.specs.declared.order.Order.{Order}
use Rattle.script_text.specs.declared.order.Order.TheVariants as order
use Rattle.script_text.specs.declared.order.Part.{Part}
use Rattle.script_text.specs.declared.order.Part.TheVariants as part
use Rattle.script_text.specs.Orders.{part_of}
use Rattle.printed_lines.specs.declared.line.Ending.{Ending}
use Rattle.printed_lines.specs.declared.line.Ending.TheVariants as ends
use Rattle.script_text.specs.declared.fleet.FleetShape.{FleetShape}
use Rattle.printed_lines.specs.declared.line.Deed.TheVariants.{Start, Drain}
use Rattle.transcript.specs.Pieces.{Piece, Acted, Played}
use Rattle.transcript.specs.Shapes.{Rolls}

-- ---- what the leaves answered

-- the answer to a drain that ended so
abbrev pub drained_by : Ending → Drained
drained_by ends.Done = drained.Done
drained_by ends.NotUp = drained.NotUp
drained_by ends.FaultMemory = drained.NoMemory
drained_by _ = drained.Fault

abbrev pub came_by : Way → Started
came_by Memory = started.Memory
came_by (Disk why) = started.Disk

-- the answer to a start that ended so
abbrev pub started_by : Ending → Started
started_by (ends.Started way) = came_by way
started_by ends.NotDown = started.NotDown
started_by ends.FaultMemory = started.NoMemory
started_by _ = started.Fault

-- a deed as a call of a rollover, with its answer
abbrev pub piece_calls : Piece → List FleetCall
piece_calls (Acted leaf Start notes ending) = call.Starts leaf (started_by ending) ∷ []
piece_calls (Acted leaf (Drain stop) notes ending) = call.Drains leaf (drained_by ending) ∷ []
piece_calls _ = []

-- the calls in these pieces, with the answers of the leaves
abbrev pub calls_in : List Piece → List FleetCall
calls_in pieces = flat_map piece_calls pieces

-- ---- what the watches hear

-- the printed line of a watch: at most 80 bytes
abbrev pub watch_line : Held → List ℕ
watch_line watch = take 80 (watch.line [])

-- The watches were told the events of a rollover, in order, with the answers that its lines tell. Those that are left
-- show their lines.
pub record HearsRoll (fleet : FleetShape) (percent : ℕ) (pieces : List Piece) (old new : List Held) : Type 0 where
  pub rolls : Rolls fleet percent pieces
  pub drives : Drives rolls.plan old (calls_in pieces) (record { waves = length rolls.roll.begun; halted = rolls.roll.halted }) new
  pub texts_are : rolls.roll.texts ≡ map watch_line new

-- what the watches hear of an order: nothing unless it is a rollover
abbrev pub HearsOrder : FleetShape → Order → List Piece → List Held → List Held → Type 0
HearsOrder fleet (order.Rollover percent) pieces old new = HearsRoll fleet percent pieces old new
HearsOrder fleet _ pieces old new = new ≡ old

abbrev pub HearsPart : FleetShape → Part → List Piece → List Held → List Held → Type 0
HearsPart fleet (part.Leaves o) pieces old new = HearsOrder fleet o pieces old new
HearsPart fleet (part.Run o) pieces old new = new ≡ old

-- what they hear of a command
abbrev pub Hears : FleetShape → Played → List Held → List Held → Type 0
Hears fleet p old new = HearsPart fleet (part_of p.command) p.pieces old new

-- what they hear of commands, one after another; in a burst all rollovers stand in one lane
abbrev pub HearsAll : FleetShape → List Played → List Held → List Held → Type 0
HearsAll fleet [] old new = new ≡ old
HearsAll fleet (p ∷ ps) old new = (between : List Held) × Hears fleet p old between × HearsAll fleet ps between new
