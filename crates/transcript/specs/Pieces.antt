-- The pieces that the commands of a script print.
use Rattle.std.specs.Prelude.{ℕ, suc, ◌==◌, List, [], ◌∷◌, ◌++◌, map, if◌then◌else◌, bytes_eq}
use Rattle.std.specs.List.{flat_map}
use Rattle.leaf_words.specs.declared.note.Note.{Note}
use Rattle.leaf_words.specs.declared.note.What.{What}
use Rattle.leaf_words.specs.declared.note.What.TheVariants as what
use Rattle.leaf_history.specs.Calls.{Call}
use Rattle.script_text.specs.declared.fleet.FleetShape.{FleetShape}
use Rattle.script_text.specs.declared.command.Command.{Command}
use Rattle.script_text.specs.declared.command.Command.TheVariants as command
use Rattle.script_text.specs.declared.item.Item.{Item}
use Rattle.script_text.specs.declared.item.Item.TheVariants as item
use Rattle.printed_lines.specs.declared.line.Said.{Said}
use Rattle.printed_lines.specs.declared.line.Said.TheVariants as said
use Rattle.printed_lines.specs.declared.line.Deed.{Deed}
use Rattle.printed_lines.specs.declared.line.Ending.{Ending}
use Rattle.printed_lines.specs.declared.line.Line.{Line}
use Rattle.printed_lines.specs.declared.line.Line.TheVariants as line

-- A piece of what a command prints: a caller's call, with its entry; a call whose seat is worn, without one; a deed of
-- a leaf's steward, with its entries and how it ended; or a line that tells no entry.
pub data Piece : Type 0 where
  Called : (leaf table : ℕ) (call : Call) (number : ℕ) (said : Said) → Piece
  Worn : (leaf table : ℕ) → Piece
  Acted : (leaf : ℕ) (deed : Deed) (notes : List Note) (ending : Ending) → Piece
  Says : (line : Line) → Piece

-- what the line of a steward's entry says
abbrev pub said_of_note : What → Said
said_of_note (what.Opened writes) = said.Opened writes
said_of_note (what.Took writes) = said.Took writes
said_of_note (what.Flushed writes) = said.Flushed writes
said_of_note (what.Closed writes) = said.Closed writes
said_of_note what.Handed = said.Handed

abbrev pub noted_line : ℕ → Note → Line
noted_line leaf n = line.Entry leaf n.table n.number (said_of_note n.what)

abbrev pub piece_lines : Piece → List Line
piece_lines (Called leaf table call number said) = line.Entry leaf table number said ∷ []
piece_lines (Worn leaf table) = line.Worn leaf table ∷ []
piece_lines (Acted leaf deed notes ending) = map (noted_line leaf) notes ++ line.Ended deed leaf ending ∷ []
piece_lines (Says l) = l ∷ []

abbrev pub lines_in : List Piece → List Line
lines_in pieces = flat_map piece_lines pieces

-- a command, and the pieces that it printed
pub record Played : Type 0 where
  pub command : Command
  pub pieces : List Piece

abbrev pub commands_in : List Played → List Command
commands_in ps = map (λ (p : Played). p.command) ps

abbrev pub pieces_in : List Played → List Piece
pieces_in ps = flat_map (λ (p : Played). p.pieces) ps

-- an item of a script, as it was played: a command, or the lanes of a burst
pub data PlayedItem : Type 0 where
  One : (played : Played) → PlayedItem
  Burst : (lanes : List (List Played)) → PlayedItem

abbrev pub item_of : PlayedItem → Item
item_of (One p) = item.One p.command
item_of (Burst lanes) = item.Burst (map commands_in lanes)

-- the lanes of a burst from `number` on: for each a line with its number, and then its lines
abbrev pub lane_lines : ℕ → List (List Played) → List Line
lane_lines number [] = []
lane_lines number (lane ∷ lanes) = line.Lane number ∷ (lines_in (pieces_in lane) ++ lane_lines (suc number) lanes)

abbrev pub item_lines : PlayedItem → List Line
item_lines (One p) = lines_in p.pieces
item_lines (Burst lanes) = lane_lines 0 lanes

abbrev pub all_lines : List PlayedItem → List Line
all_lines items = flat_map item_lines items

-- the commands in the order of the script, lane after lane in a burst
abbrev pub plays_of : PlayedItem → List Played
plays_of (One p) = p ∷ []
plays_of (Burst lanes) = flat_map (λ lane. lane) lanes

abbrev pub plays_in : List PlayedItem → List Played
plays_in items = flat_map plays_of items

-- all pieces, in that order
abbrev pub all_pieces : List PlayedItem → List Piece
all_pieces items = pieces_in (plays_in items)

-- ---- what one leaf's steward did

-- a deed, with its entries and how it ended
pub record Did : Type 0 where
  pub deed : Deed
  pub notes : List Note
  pub ending : Ending

abbrev pub did_in : ℕ → Piece → List Did
did_in leaf (Acted l deed notes ending) = if l == leaf then record { deed = deed; notes = notes; ending = ending } ∷ [] else []
did_in leaf _ = []

-- the deeds of this leaf, in order; within a burst they all stand in one lane
abbrev pub deeds : ℕ → List Piece → List Did
deeds leaf pieces = flat_map (did_in leaf) pieces

-- ---- the fleet

abbrev pub no_fleet : FleetShape
no_fleet = record { machines = 0; per_machine = 0; names = [] }

abbrev pub fleet_made : Command → FleetShape
fleet_made (command.Fleet machines per_machine tables) = record { machines = machines; per_machine = per_machine; names = tables }
fleet_made _ = no_fleet

-- the fleet that a script's first command makes; an empty one without a command
abbrev pub script_fleet : List Item → FleetShape
script_fleet (item.One c ∷ items) = fleet_made c
script_fleet _ = no_fleet

-- the index of a name; if there is none, the number of names
abbrev pub place_among : List ℕ → List (List ℕ) → ℕ
place_among name [] = 0
place_among name (n ∷ ns) = if bytes_eq name n then 0 else suc (place_among name ns)
