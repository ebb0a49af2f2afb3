use Rattle.std.proofs.Common.{◌≡◌, length, drop}
use Rattle.std.specs.List.{AllByRecursion}
use Rattle.script_text.specs.Fits.{IsCommand}
use Rattle.script_text.specs.Commands.{leaf_count}
use Rattle.bursts.specs.Needs.{HasPlaces, leaves_acted_on, marked_by, needed, table_needed}
use Rattle.bursts.proofs.plan.Needs.of.Given as goal

-- what the commands that are left need is marked yet
abbrev pub invariant-loop-command : goal.invariant-loop-command
invariant-loop-command g l = record {
  tables : marked_by (table_needed l.crew.fleet.names) (drop l.command-index l.commands) l.needs.tables.items ≡ needed (table_needed l.crew.fleet.names) (length l.crew.fleet.names) l.commands;
  leaves : marked_by leaves_acted_on (drop l.command-index l.commands) l.needs.leaves.items ≡ needed leaves_acted_on (leaf_count l.crew.fleet) l.commands;
  places : HasPlaces l.crew.fleet l.needs;
  may : AllByRecursion (IsCommand (leaf_count l.crew.fleet) l.crew.fleet.names) (drop l.command-index l.commands);
}
