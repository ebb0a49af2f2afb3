use Rattle.std.proofs.Common.{◌≤◌, length, take_all, sym, ◌∙◌, arith}
use Rattle.std.proofs.lemmas.Slice.Eq.{bytes_eq-Decides}
use Rattle.leaf_model.proofs.looks.is_same.Goals as goal

pub returns : goal.returns
returns c =
    let a = c.args.a.now in
    let b = c.args.b.now in
    let i = c.loop-i.i in
    let front : length a ≤ i = omega (arith, c.loop-i-test.false) in
    let other : length b ≤ i = omega (arith, front, c.loop-i.invariant.same) in
    sym ((bytes_eq-Decides a b).1 (sym (take_all i a front) ∙ c.loop-i.invariant.so_far ∙ take_all i b other))
