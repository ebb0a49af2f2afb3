use Rattle.std.proofs.Common.{◌≡◌, Some, rules}
use Rattle.script_text.specs.Words.{place_of}
use Rattle.script_text.proofs.Places.{place_contains}
use Rattle.script_text.proofs.query.query.Goals as goal

pub returns-in-Some-clause-is_command : goal.returns-in-Some-clause-is_command
returns-in-Some-clause-is_command c =
    let found : place_of c.args.fleet.now.names c.in_ok-query.query.table ≡ Some c.in-Some._place = search rules in
    (place_contains c.args.fleet.now.names c.in_ok-query.query.table c.in-Some._place found, search rules)
