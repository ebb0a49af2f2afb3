-- What the lines of commands tell of one table, in the form that the state of a standing query is fed.
use Rattle.std.specs.Prelude.{ℕ, ◌==◌, ◌&&◌, List, [], ◌∷◌, ◌++◌, Bool, true, false, Option, Some, None, bytes_eq, if◌then◌else◌, option_to_list}
use Rattle.std.specs.List.{flat_map}
use Rattle.row_model.specs.declared.rows.Row.{Row}
use Rattle.script_text.specs.declared.command.Command.{Command}
use Rattle.script_text.specs.declared.order.Order.{Order}
use Rattle.script_text.specs.declared.order.Order.TheVariants as order
use Rattle.script_text.specs.declared.order.Part.{Part}
use Rattle.script_text.specs.declared.order.Part.TheVariants as part
use Rattle.script_text.specs.declared.order.TableRequest.{TableRequest}
use Rattle.script_text.specs.declared.order.TableRequest.TheVariants as request
use Rattle.script_text.specs.Orders.{part_of}
use Rattle.script_text.specs.declared.item.Item.{Item}
use Rattle.script_text.specs.declared.item.Item.TheVariants as item
use Rattle.printed_lines.specs.declared.line.Line.{Line}
use Rattle.printed_lines.specs.declared.line.Line.TheVariants as line
use Rattle.printed_lines.specs.declared.line.Said.{Said}
use Rattle.printed_lines.specs.declared.line.Said.TheVariants as said
use Rattle.standing_query.specs.declared.fed.Fed.{Fed}
use Rattle.standing_query.specs.declared.fed.Fed.TheVariants as fed
use Rattle.standing_feed.specs.declared.place.TableAt.{TableAt}
use Rattle.standing_feed.specs.declared.place.QueryPlace as lent
use Rattle.standing_feed.specs.declared.meant.Meant.{Meant}
use Rattle.standing_feed.specs.declared.meant.Meant.TheVariants as meant
use Rattle.standing_feed.specs.declared.meant.Now.{Now}
use Rattle.standing_feed.specs.declared.meant.Now.TheVariants as now
use Rattle.standing_feed.specs.declared.heard.Heard.{Heard}

-- the table in this place of this leaf, by its name
pub record TablePlace : Type 0 where
  pub leaf : ℕ
  pub table : ℕ
  pub name : List ℕ

abbrev pub named : TableAt → List ℕ → TablePlace
named at name = record { leaf = at.leaf; table = at.table; name = name }

abbrev pub place_in : lent.QueryPlace → TablePlace
place_in p = named p.at p.name.now

abbrev pub is_at : TablePlace → ℕ → ℕ → Bool
is_at p leaf table = (leaf == p.leaf) && (table == p.table)

abbrev pub some_when : {X : Type 0} → Bool → X → Option X
some_when true x = Some x
some_when false x = None

-- ---- before an item is played

-- what a call of callers means to its table
abbrev pub meant_request : TableRequest → Meant
meant_request (request.Add rows) = meant.Add rows
meant_request (request.Expire horizon) = meant.Expire horizon
meant_request (request.Keep n) = meant.Keep
meant_request (request.Ask q) = meant.Ask

-- what an order means to the table: a call of callers that will print a line of it, or a tail, of any table
abbrev pub meant_order : TablePlace → Order → Option Meant
meant_order p (order.Call leaf table r) = some_when (is_at p leaf table) (meant_request r)
meant_order p (order.Query q) = some_when (bytes_eq q.table p.name) meant.Ask
meant_order p (order.Tail key table rows) = Some (meant.Tail (some_when (table == p.table) rows))
meant_order p _ = None

abbrev pub meant_part : TablePlace → Part → Option Meant
meant_part p (part.Leaves o) = meant_order p o
meant_part p (part.Run o) = None

-- what a command means to the table
abbrev pub meant_by : TablePlace → Command → Option Meant
meant_by p c = meant_part p (part_of c)

-- what the commands of a lane mean to the table
abbrev pub meant_lane : TablePlace → List Command → List Meant
meant_lane p lane = flat_map (λ c. option_to_list (meant_by p c)) lane

-- what an item means to the table, lane by lane
abbrev pub meant_in : TablePlace → Item → List Meant
meant_in p (item.One c) = option_to_list (meant_by p c)
meant_in p (item.Burst lanes) = flat_map (meant_lane p) lanes

-- ---- after an item is played

-- the call that prints its lines now, if it is a tail, and the calls after it
pub record CallsLeft : Type 0 where
  pub current : Now
  pub rest : List Meant

abbrev pub no_call_yet : List Meant → CallsLeft
no_call_yet calls = record { current = now.Between; rest = calls }

-- what an entry tells of a call other than a tail
abbrev pub fed_by_call : Meant → Said → Fed
fed_by_call (meant.Add rows) (said.Added kept late) = fed.Added rows late
fed_by_call (meant.Expire horizon) (said.Removed rows) = fed.Expired horizon
fed_by_call meant.Keep (said.Removed rows) = fed.Kept rows
fed_by_call _ _ = fed.Other

-- what an entry tells of a tail with these rows, and the rows that may still be added
abbrev pub fed_by_tail : Option (List Row) → Said → Fed
fed_by_tail (Some rows) (said.Added kept late) = fed.Added rows late
fed_by_tail _ _ = fed.Other

abbrev pub rows_left : Option (List Row) → Said → Option (List Row)
rows_left (Some rows) (said.Added kept late) = None
rows_left rows _ = rows

-- what an entry of a call tells
abbrev pub fed_by_next : List Meant → Said → Fed
fed_by_next [] told = fed.Other
fed_by_next (meant.Tail rows ∷ more) told = fed_by_tail rows told
fed_by_next (call ∷ more) told = fed_by_call call told

abbrev pub fed_called : CallsLeft → Said → Fed
fed_called calls told = by calls.current
  where
    by : Now → Fed
    by (now.Tail rows) = fed_by_tail rows told
    by now.Between = fed_by_next calls.rest told

-- the calls that are left after it
abbrev pub left_by_next : List Meant → Said → CallsLeft
left_by_next [] told = no_call_yet []
left_by_next (meant.Tail rows ∷ more) told = record { current = now.Tail (rows_left rows told); rest = more }
left_by_next (call ∷ more) told = no_call_yet more

abbrev pub left_called : CallsLeft → Said → CallsLeft
left_called calls told = by calls.current
  where
    by : Now → CallsLeft
    by (now.Tail rows) = record { current = now.Tail (rows_left rows told); rest = calls.rest }
    by now.Between = left_by_next calls.rest told

-- what any entry tells; one of the leaf's steward is of no call
abbrev pub fed_by : CallsLeft → Said → Fed
fed_by calls (said.Opened writes) = fed.Opened
fed_by calls (said.Closed writes) = fed.Closed
fed_by calls (said.Took writes) = fed.Other
fed_by calls (said.Flushed writes) = fed.Other
fed_by calls said.Handed = fed.Other
fed_by calls told = fed_called calls told

abbrev pub left_by : CallsLeft → Said → CallsLeft
left_by calls (said.Opened writes) = calls
left_by calls (said.Closed writes) = calls
left_by calls (said.Took writes) = calls
left_by calls (said.Flushed writes) = calls
left_by calls said.Handed = calls
left_by calls told = left_called calls told

-- the calls that are left after the line that ends a tail
abbrev pub left_by_tail : CallsLeft → CallsLeft
left_by_tail calls = by calls.current calls.rest
  where
    by : Now → List Meant → CallsLeft
    by (now.Tail rows) rest = no_call_yet rest
    by now.Between [] = no_call_yet []
    by now.Between (call ∷ rest) = no_call_yet rest

-- the calls that are left after a line; the line of a worn seat tells as much of its call as a refusal
abbrev pub left_by_line : TablePlace → CallsLeft → Line → CallsLeft
left_by_line p calls (line.Entry leaf table number told) = if is_at p leaf table then left_by calls told else calls
left_by_line p calls (line.Worn leaf table) = if is_at p leaf table then left_called calls said.RefusedShut else calls
left_by_line p calls (line.Tailed leaf) = left_by_tail calls
left_by_line p calls _ = calls

-- the entry of the table that a line tells
abbrev pub heard_by : TablePlace → CallsLeft → Line → Option Heard
heard_by p calls (line.Entry leaf table number told) = some_when (is_at p leaf table) (record { number = number; fed = fed_by calls told })
heard_by p calls _ = None

-- the entries of the table that lines tell, in the order of the lines
abbrev pub heard_from : TablePlace → CallsLeft → List Line → List Heard
heard_from p calls [] = []
heard_from p calls (l ∷ lines) = option_to_list (heard_by p calls l) ++ heard_from p (left_by_line p calls l) lines

abbrev pub heard : TablePlace → List Meant → List Line → List Heard
heard p calls lines = heard_from p (no_call_yet calls) lines
