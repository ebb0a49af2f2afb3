use Rattle.std.proofs.Common.{◌≡◌, length, sym, ◌∙◌, arith}
use Rattle.row_model.specs.Texts.{text_cmp}
use Rattle.row_model.proofs.Ends.{left_ends, right_ends}
use Rattle.row_model.proofs.text.compare_texts.Goals as goal
use Rattle.row_model.proofs.text.compare_texts.Goals.{then-loop-i-test+else-i-b, else-loop-i-test}

pub returns : goal.returns
returns c = elim c.loop-i-test.branch [
  | then-loop-i-test+else-i-b w ↦
      let here : c.loop-i.i ≡ length c.args.b.now = omega (arith, w.if-i-b.false) in
      let same = rw here at c.loop-i.invariant.same in
      c.cmp-2.ensures ∙ sym (same ∙ right_ends text_cmp c.args.a.now c.args.b.now (omega arith))
  | else-loop-i-test w ↦
      let here : c.loop-i.i ≡ length c.args.a.now = omega (arith, w.loop-i-test.false) in
      let same = rw here at c.loop-i.invariant.same in
      c.cmp-2.ensures ∙ sym (same ∙ left_ends text_cmp c.args.a.now c.args.b.now (omega arith))
]
