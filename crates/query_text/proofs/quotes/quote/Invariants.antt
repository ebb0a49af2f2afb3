use Rattle.std.proofs.Common.{◌≡◌, ◌≤◌, ◌-◌, length, drop, false}
use Rattle.query_text.specs.Tokens.{quote_from, quote_after}
use Rattle.query_text.proofs.quotes.quote.Given as goal

-- what was read stands before what is left
abbrev pub invariant-loop-i : goal.invariant-loop-i
invariant-loop-i l = record {
  within : l.i ≤ length l.rest;
  so_far : quote_from l.mark false l.rest ≡ quote_after l.inside.items l.i (quote_from l.mark l.is_marked (drop l.i l.rest));
}

abbrev pub decreases-loop-i : goal.decreases-loop-i
decreases-loop-i l = length l.rest - l.i
