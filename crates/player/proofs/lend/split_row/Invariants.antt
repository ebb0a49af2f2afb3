use Rattle.std.proofs.Common.{◌≤◌, length}
use Rattle.std.specs.Prelude.{vec_capacity}
use Rattle.player.specs.Lending.{SplitsFirst}
use Rattle.player.proofs.lend.split_row.Given as goal

-- an id of each seat before the leaf's was given away
abbrev pub invariant-loop-leaf : goal.invariant-loop-leaf
invariant-loop-leaf l = record {
  splits : SplitsFirst l.leaf l.fn.seats.items l.off.items l.seats.items;
  room : length l.fn.seats.items ≤ vec_capacity l.off;
}
