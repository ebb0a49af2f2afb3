use Rattle.std.proofs.Common.{◌≡◌, false, take}
use Rattle.row_model.specs.Names.{is_among}
use Rattle.block_scan.proofs.narrowing.is_member.Given as goal

abbrev pub invariant-loop-i : goal.invariant-loop-i
invariant-loop-i l = is_among (take l.i l.members) l.text ≡ false
