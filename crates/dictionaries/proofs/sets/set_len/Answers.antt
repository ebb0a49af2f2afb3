use Rattle.std.proofs.Common.{◌≡◌, suc, ◌+◌, ◌-◌, ap, ap₂, ◌∙◌, arith}
use Rattle.dictionaries.specs.Dictionary.{text_from}
use Rattle.dictionaries.proofs.sets.set_len.Goals as goal

pub overflow_sub-result : goal.overflow_sub-result
overflow_sub-result c =
    let e : c.args.k + 1 ≡ suc c.args.k = omega arith in
    let to = c.text_from.ensures.value ∙ ap (text_from c.args.part.now) e in
    omega (arith, to, c.text_from-2.ensures.value, c.requires.ends.rising c.args.k c.requires.within)

pub returns : goal.returns
returns c =
    let e : c.args.k + 1 ≡ suc c.args.k = omega arith in
    let to = c.text_from.ensures.value ∙ ap (text_from c.args.part.now) e in
    ap₂ (λ x y. x - y) to c.text_from-2.ensures.value
