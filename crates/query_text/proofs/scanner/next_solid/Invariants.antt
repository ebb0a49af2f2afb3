use Rattle.std.proofs.Common.{◌≡◌, ◌≤◌, ◌-◌, length, drop}
use Rattle.query_text.specs.Tokens.{tokens_from}
use Rattle.query_text.proofs.scanner.next_solid.Given as goal

-- the blanks so far are passed
abbrev pub invariant-loop-at : goal.invariant-loop-at
invariant-loop-at l = record {
  on : l.from ≤ l.at;
  within : l.at ≤ length l.text;
  same : tokens_from 0 l.from (drop l.from l.text) ≡ tokens_from 0 l.at (drop l.at l.text);
}

abbrev pub decreases-loop-at : goal.decreases-loop-at
decreases-loop-at l = length l.text - l.at
