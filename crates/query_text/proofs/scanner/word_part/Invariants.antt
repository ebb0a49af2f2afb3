use Rattle.std.proofs.Common.{◌≡◌, ◌≤◌, ◌-◌, ◌++◌, length, drop, take, take_while}
use Rattle.query_text.specs.Tokens.{goes_on_word}
use Rattle.query_text.proofs.scanner.word_part.Given as goal

abbrev pub invariant-loop-i : goal.invariant-loop-i
invariant-loop-i l = record {
  within : l.i ≤ length l.rest;
  so_far : take_while goes_on_word l.rest ≡ take l.i l.rest ++ take_while goes_on_word (drop l.i l.rest);
}

abbrev pub decreases-loop-i : goal.decreases-loop-i
decreases-loop-i l = length l.rest - l.i
