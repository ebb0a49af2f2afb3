use Rattle.std.proofs.Common.{◌≡◌, ◌≤◌, ◌^◌, drop}
use Rattle.query_text.specs.Tokens.{value_from}
use Rattle.query_text.proofs.numbers.magnitude.Given as goal

abbrev pub invariant-loop-b : goal.invariant-loop-b
invariant-loop-b l = record {
  within : l.value ≤ 2 ^ 63;
  same : value_from l.start l.digits ≡ value_from l.value (drop l.b-index l.digits);
}
