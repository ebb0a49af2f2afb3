use Rattle.std.specs.VecDeque.{deque_len}
use Rattle.script_text.proofs.InParts.{AreRead}
use Rattle.script_text.proofs.row_parts.read_rows.Given as goal

abbrev pub invariant-loop-part : goal.invariant-loop-part
invariant-loop-part g l = AreRead l.number l.text l.rows l.read.items

abbrev pub decreases-loop-part : goal.decreases-loop-part
decreases-loop-part g l = deque_len l.read
