use Rattle.std.specs.List.{AllByRecursion}
use Rattle.scuba_cli.specs.Fresh.{IsEmptyBerth}
use Rattle.scuba_cli.proofs.fresh_berths.Given as goal

abbrev pub invariant-loop : goal.invariant-loop
invariant-loop l = AllByRecursion IsEmptyBerth l.berths.items
