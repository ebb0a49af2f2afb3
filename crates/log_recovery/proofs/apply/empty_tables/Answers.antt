use Rattle.std.proofs.Common.{◌≡◌, [], arith}
use Rattle.std.proofs.lemmas.Grind.{common_steps}
use Rattle.log_recovery.specs.Recovery.{recovered_tables}
use Rattle.log_recovery.proofs.Counting.{few_empty}
use Rattle.log_recovery.proofs.apply.empty_tables.Goals as goal

pub returns-clause-columns : goal.returns-clause-columns
returns-clause-columns c =
    let is : c.loop-name.tables.items ≡ recovered_tables c.args.names.now [] = grind (arith, common_steps) in
    few_empty c.args.names.now c.loop-name.tables.items is
