use Rattle.std.proofs.Common.{◌≡◌, Some, rules}
use Rattle.script_text.specs.Words.{place_of}
use Rattle.script_text.proofs.Places.{place_contains}
use Rattle.script_text.proofs.standing.standing_at.Goals as goal

pub returns-in-Some-clause-alone : goal.returns-in-Some-clause-alone
returns-in-Some-clause-alone c =
    let found : place_of c.args.fleet.now.names c.args.query.table ≡ Some c.in-Some._place = search rules in
    (search rules, place_contains c.args.fleet.now.names c.args.query.table c.in-Some._place found, search rules)
