use Rattle.std.proofs.Common.{◌≡◌, ◌≤◌, ◌-◌, ◌++◌, drop, length}
use Rattle.standing_query.specs.Spread.{cells_shown}
use Rattle.standing_query.proofs.shown.cells_shown.Given as goal

-- the cells so far, and then those of what is left, are all
abbrev pub invariant-loop-i : goal.invariant-loop-i
invariant-loop-i l = record {
  within : l.i ≤ length l.names;
  keys : l.i ≤ length l.keys;
  so_far : l.cells.items ++ cells_shown (drop l.i l.names) (drop l.i l.keys) ≡ cells_shown l.names l.keys;
}

abbrev pub decreases-loop-i : goal.decreases-loop-i
decreases-loop-i l = length l.names - l.i
