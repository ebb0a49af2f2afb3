use Rattle.std.proofs.Common.{◌-◌, ◌<◌, length}
use Rattle.row_json.specs.Plain.{HasDigits}
use Rattle.row_json.proofs.walk.digits.Given as goal

abbrev pub invariant-digits : goal.invariant-digits
invariant-digits l = HasDigits l.text l.number l.at × (l.number < 1000000000000000000)

abbrev pub decreases-digits : goal.decreases-digits
decreases-digits l = length l.text - l.at
