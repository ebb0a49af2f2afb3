use Rattle.std.proofs.Common.{◌∙◌, sym, arith}
use Rattle.leaf_model.proofs.SeenLaws.{one_passed}
use Rattle.leaf_model.proofs.looks.place_from.Goals as goal

pub loop-i-preserved : goal.loop-i-preserved
loop-i-preserved c =
    let here = c.loop-i-test.true in
    record {
      bound = omega (arith, here);
      onward = omega (arith, c.loop-i.invariant.onward);
      passed = λ items value others same. one_passed c.args.sought.now items c.loop-i.i _ (record { name = c.args.name.now; value = value }) others (omega (arith, here)) same (sym c.is.ensures ∙ c.if-is.false) ∙ c.loop-i.invariant.passed items value others same;
    }
