use Rattle.std.proofs.Common.{◌≡◌, ◌≤◌, ◌-◌, ◌++◌, length, drop, take, take_while}
use Rattle.std.specs.Char.{is_ascii_digit}
use Rattle.query_text.proofs.numbers.digits_part.Given as goal

abbrev pub invariant-loop-i : goal.invariant-loop-i
invariant-loop-i l = record {
  within : l.i ≤ length l.rest;
  so_far : take_while is_ascii_digit l.rest ≡ take l.i l.rest ++ take_while is_ascii_digit (drop l.i l.rest);
}

abbrev pub decreases-loop-i : goal.decreases-loop-i
decreases-loop-i l = length l.rest - l.i
