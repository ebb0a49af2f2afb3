-- Whose a command is, and what it tells them.
use Rattle.std.specs.Prelude.{ℕ, ◌<◌, ◌≤◌, List, length, ⊤}
use Rattle.std.specs.List.{AllByRecursion, Contains}
use Rattle.row_model.specs.Values.{IsRow, IsTime}
use Rattle.query_text.specs.Grammar.{IsQuery}
use Rattle.printed_lines.specs.declared.line.Deed.{Deed}
use Rattle.printed_lines.specs.declared.line.Deed.TheVariants as deed
use Rattle.script_text.specs.declared.command.Command.{Command}
use Rattle.script_text.specs.declared.command.Command.TheVariants as command
use Rattle.script_text.specs.declared.order.Order.{Order}
use Rattle.script_text.specs.declared.order.Order.TheVariants as order
use Rattle.script_text.specs.declared.order.Part.{Part}
use Rattle.script_text.specs.declared.order.Part.TheVariants as part
use Rattle.script_text.specs.declared.order.TableRequest.{TableRequest}
use Rattle.script_text.specs.declared.order.TableRequest.TheVariants as request
use Rattle.script_text.specs.declared.order.RunOrder.{RunOrder}
use Rattle.script_text.specs.declared.order.RunOrder.TheVariants as run_order

abbrev pub called : ℕ → ℕ → TableRequest → Part
called leaf table r = part.Leaves (order.Call leaf table r)

abbrev pub done : ℕ → Deed → Part
done leaf d = part.Leaves (order.Deed leaf d)

-- the one place that tells it
abbrev pub part_of : Command → Part
part_of (command.Fleet machines per_machine tables) = part.Leaves order.Start
part_of (command.Add leaf table rows) = called leaf table (request.Add rows)
part_of (command.Expire leaf table horizon) = called leaf table (request.Expire horizon)
part_of (command.Keep leaf table n) = called leaf table (request.Keep n)
part_of (command.Query q) = part.Leaves (order.Query q)
part_of (command.Tail key table rows) = part.Leaves (order.Tail key table rows)
part_of (command.Flush leaf table) = done leaf (deed.Flush table)
part_of (command.Drain leaf stop) = done leaf (deed.Drain stop)
part_of (command.Kill leaf) = done leaf deed.Kill
part_of (command.Start leaf) = done leaf deed.Start
part_of (command.Rollover percent) = part.Leaves (order.Rollover percent)
part_of (command.Standing leaf q) = part.Run (run_order.Declare leaf q)
part_of (command.Tell number) = part.Run (run_order.Tell number)

-- the command that tells the run this
abbrev pub run_command : RunOrder → Command
run_command (run_order.Declare leaf q) = command.Standing leaf q
run_command (run_order.Tell number) = command.Tell number

abbrev pub IsOfLeaves : Part → Type 0
IsOfLeaves (part.Leaves o) = ⊤
IsOfLeaves (part.Run o) = ⊥

-- ---- orders of a fleet

abbrev pub IsRequest : TableRequest → Type 0
IsRequest (request.Add rows) = AllByRecursion IsRow rows
IsRequest (request.Expire horizon) = IsTime horizon
IsRequest (request.Keep n) = ⊤
IsRequest (request.Ask q) = ⊤

-- the table of the deed, if it names one, is one of `tables`
abbrev pub IsOfTables : ℕ → Deed → Type 0
IsOfTables tables (deed.Flush table) = table < tables
IsOfTables tables _ = ⊤

-- an order that a fleet of so many leaves with these tables may play
abbrev pub IsOrder : ℕ → List (List ℕ) → Order → Type 0
IsOrder leaves tables order.Start = ⊤
IsOrder leaves tables (order.Call leaf table r) = (leaf < leaves) × (table < length tables) × IsRequest r
IsOrder leaves tables (order.Deed leaf d) = (leaf < leaves) × IsOfTables (length tables) d
IsOrder leaves tables (order.Query q) = Contains tables q.table × IsQuery q
IsOrder leaves tables (order.Tail key table rows) = (table < length tables) × AllByRecursion IsRow rows
IsOrder leaves tables (order.Rollover percent) = (0 < percent) × (percent ≤ 100)

-- the same of what any command tells; the run's own orders are no matter of the leaves
abbrev pub IsPart : ℕ → List (List ℕ) → Part → Type 0
IsPart leaves tables (part.Leaves o) = IsOrder leaves tables o
IsPart leaves tables (part.Run o) = ⊤
