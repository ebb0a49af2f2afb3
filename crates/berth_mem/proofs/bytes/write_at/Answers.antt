use Rattle.std.proofs.Common.{Vec, Global, ℕ, ap, ◌∙◌, arith}
use Rattle.berth_mem.proofs.Writing.{wrote_inside, wrote_longer}
use Rattle.berth_mem.proofs.bytes.write_at.Goals as goal
use Rattle.berth_mem.proofs.bytes.write_at.Goals.{then-len-end+in_ok-resize, else-len-end}

pub returns-clause-ok : goal.returns-clause-ok
returns-clause-ok c =
    let v = c.if-len-end.content in
    let old = c.args.content.now in
    elim c.if-len-end.branch [
      | then-len-end+in_ok-resize w ↦
          wrote_longer v.len old.items v.items c.as_mut_slice.result.now c.overwrite.new.content c.args.at _ c.args.bytes.now v.ok.0 c.as_mut_slice.ensures.value c.overwrite.ensures
          (ap (λ (u : Vec ℕ Global). u.items) w.content-is ∙ w.in_ok-resize.ensures.items) (omega (arith, old.ok.0)) (omega (arith, old.ok.0, w.if-len-end.true, c.len.ensures))
      | else-len-end w ↦
          wrote_inside v.len old.items v.items c.as_mut_slice.result.now c.overwrite.new.content c.args.at c.args.bytes.now v.ok.0 c.as_mut_slice.ensures.value c.overwrite.ensures
          (ap (λ (u : Vec ℕ Global). u.items) w.content-is) (omega (arith, old.ok.0, w.if-len-end.false, c.len.ensures))
    ]
