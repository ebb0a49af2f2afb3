-- What a command of a fleet tells is an order of that fleet; and it decides the command, where it is the run's.
use Rattle.std.proofs.Common.{◌≡◌, ℕ, List, ap}
use Rattle.script_text.specs.declared.command.Command.{Command}
use Rattle.script_text.specs.declared.command.Command.TheVariants as command
use Rattle.script_text.specs.declared.order.Part.{Part}
use Rattle.script_text.specs.declared.order.Part.TheVariants as part
use Rattle.script_text.specs.declared.order.RunOrder.{RunOrder}
use Rattle.script_text.specs.Fits.{IsCommand}
use Rattle.script_text.specs.Orders.{IsPart, part_of, run_command}

abbrev command_behind : Part → Command
command_behind (part.Leaves o) = command.Tell 0
command_behind (part.Run r) = run_command r

pub run_is : (c : Command) (r : RunOrder) → part_of c ≡ part.Run r → c ≡ run_command r
run_is (command.Standing leaf q) r is = ap command_behind is
run_is (command.Tell number) r is = ap command_behind is
run_is _ r is = absurd cc

pub part_fits : (leaves : ℕ) (tables : List (List ℕ)) (c : Command) → IsCommand leaves tables c → IsPart leaves tables (part_of c)
part_fits leaves tables (command.Fleet machines per_machine names) is = absurd is
part_fits leaves tables (command.Add leaf table rows) is = (is.0, is.1, is.3)
part_fits leaves tables (command.Expire leaf table horizon) is = (is.0, is.1, is.2)
part_fits leaves tables (command.Keep leaf table n) is = (is.0, is.1, tt)
part_fits leaves tables (command.Query q) is = is
part_fits leaves tables (command.Tail key table rows) is = (is.1, is.3)
part_fits leaves tables (command.Flush leaf table) is = (is.0, is.1)
part_fits leaves tables (command.Drain leaf stop) is = (is.0, tt)
part_fits leaves tables (command.Kill leaf) is = (is, tt)
part_fits leaves tables (command.Start leaf) is = (is, tt)
part_fits leaves tables (command.Rollover percent) is = is
part_fits leaves tables _ is = absurd is
