use Rattle.player.proofs.NoteLines.{AreFirst}
use Rattle.player.proofs.entries.put_notes.Given as goal

abbrev pub invariant-loop-i : goal.invariant-loop-i
invariant-loop-i l = AreFirst l.number l.notes l.fn.lines.items l.i l.lines.items
