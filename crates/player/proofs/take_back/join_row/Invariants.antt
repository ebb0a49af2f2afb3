use Rattle.std.proofs.Common.{length}
use Rattle.player.specs.Returning.{JoinsFrom}
use Rattle.player.proofs.Returned.{IsFront}
use Rattle.std.specs.Prelude.{vec_len}
use Rattle.player.proofs.take_back.join_row.Given as goal

-- the seats behind those that are left were joined
abbrev pub invariant-loop-other : goal.invariant-loop-other
invariant-loop-other l = record {
  joins : JoinsFrom (length l.others.items) l.fn.seats.items l.fn.others.items l.seats.items;
  front : IsFront l.fn.others.items l.others.items;
}

abbrev pub decreases-loop-other : goal.decreases-loop-other
decreases-loop-other l = vec_len l.others
