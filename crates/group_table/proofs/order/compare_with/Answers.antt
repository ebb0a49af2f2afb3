use Rattle.std.proofs.Common.{◌≡◌, length, sym, ◌∙◌, arith}
use Rattle.group_table.proofs.Ends.{left_ends_with, right_ends_with}
use Rattle.group_table.proofs.order.compare_with.Goals as goal
use Rattle.group_table.proofs.order.compare_with.Goals.{then-loop-i-test+else-i-b, else-loop-i-test}

pub returns : goal.returns
returns c = elim c.loop-i-test.branch [
  | then-loop-i-test+else-i-b w ↦
      let here : c.loop-i.i ≡ length c.args.b.now = omega (arith, w.if-i-b.false) in
      let same = rw here at c.loop-i.invariant.same in
      c.cmp.ensures ∙ sym (same ∙ right_ends_with c.args.a.now c.args.b.now (omega arith))
  | else-loop-i-test w ↦
      let here : c.loop-i.i ≡ length c.args.a.now = omega (arith, w.loop-i-test.false) in
      let same = rw here at c.loop-i.invariant.same in
      c.cmp.ensures ∙ sym (same ∙ left_ends_with c.args.a.now c.args.b.now (omega arith))
]
