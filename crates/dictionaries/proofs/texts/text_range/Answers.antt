use Rattle.std.proofs.Common.{◌≡◌, suc, ◌+◌, ap, ◌∙◌, arith}
use Rattle.dictionaries.specs.Dictionary.{text_from}
use Rattle.dictionaries.proofs.Ends.{ends_inside}
use Rattle.dictionaries.proofs.texts.text_range.Goals as goal

pub returns-clause-to : goal.returns-clause-to
returns-clause-to c =
    let e : c.args.k + 1 ≡ suc c.args.k = omega arith in
    c.text_from-2.ensures.value ∙ ap (text_from c.args.extra.now) e

pub returns-clause-ordered : goal.returns-clause-ordered
returns-clause-ordered c =
    let e : c.args.k + 1 ≡ suc c.args.k = omega arith in
    let to = c.text_from-2.ensures.value ∙ ap (text_from c.args.extra.now) e in
    omega (arith, c.text_from.ensures.value, to, c.requires.ends.rising c.args.k c.requires.within)

pub returns-clause-inside : goal.returns-clause-inside
returns-clause-inside c =
    let e : c.args.k + 1 ≡ suc c.args.k = omega arith in
    let to = c.text_from-2.ensures.value ∙ ap (text_from c.args.extra.now) e in
    omega (arith, to, ends_inside c.args.extra.now c.requires.ends c.args.k c.requires.within)
