use Rattle.std.proofs.Common.{length}
use Rattle.script_text.proofs.OneMore.{AreSoFar}
use Rattle.script_text.proofs.row_parts.read_part.Given as goal

abbrev pub invariant-loop-rest : goal.invariant-loop-rest
invariant-loop-rest l = AreSoFar l.part l.rows l.rest

abbrev pub decreases-loop-rest : goal.decreases-loop-rest
decreases-loop-rest l = length l.rest
