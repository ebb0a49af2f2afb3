use Rattle.std.proofs.Common.{◌≡◌, ◌+◌, ◌∷◌, ◌++◌, [], ℕ, suc, rules, arith, subst, Some, slice_get}
use Rattle.player.proofs.NoteLines.{AreFirst, first_next}
use Rattle.player.proofs.entries.put_notes.Goals as goal

pub loop-i-preserved : goal.loop-i-preserved
loop-i-preserved c =
    let next : suc c.loop-i.i ≡ c.loop-i.i + 1 = omega arith in
    let at : slice_get c.args.notes.now c.loop-i.i ≡ Some c.get.result = search rules in
    let pushed : c.push.new.self.items ≡ c.loop-i.lines.items ++ c.note_line.result ∷ [] = search rules in
    subst (λ (k : ℕ). AreFirst c.args.number c.args.notes.now c.args.lines.now.items k c.push.new.self.items) next
    (first_next c.args.number c.args.notes.now c.args.lines.now.items c.loop-i.i c.loop-i.lines.items c.push.new.self.items c.get.result c.note_line.result
    c.loop-i.invariant at c.note_line.ensures pushed)
