use Rattle.std.proofs.Common.{◌≡◌, [], drop}
use Rattle.row_blocks.specs.Places.{last_name}
use Rattle.row_blocks.proofs.places.do_names_ascend.Given as goal

abbrev pub invariant-loop-k : goal.invariant-loop-k
invariant-loop-k l = last_name l.i (drop l.k l.columns) l.last ≡ last_name l.i l.columns []
