use Rattle.std.proofs.Common.{List, ℕ, suc, ◌-◌, sym, ap, ◌∙◌, arith}
use Rattle.dictionaries.specs.Dictionary.{text_from}
use Rattle.dictionaries.specs.Sets.{sets_part, texts_part}
use Rattle.dictionaries.proofs.SetParts.{set_count_is}
use Rattle.dictionaries.proofs.sets.texts_in_set.Goals as goal

pub overflow_cast-result : goal.overflow_cast-result
overflow_cast-result c =
    let extra = c.args.extra.now in let k = c.args.set in
    let len = c.set_len.ensures ∙ ap (λ (p : List ℕ). text_from p (suc k) - text_from p k) c.parts_of.ensures.sets in
    let few = (c.requires.dictionary.each k c.requires.within).few in
    omega (arith, len, set_count_is (texts_part extra) (sets_part extra) k, few)

pub returns : goal.returns
returns c =
    let extra = c.args.extra.now in let k = c.args.set in
    let len = c.set_len.ensures ∙ ap (λ (p : List ℕ). text_from p (suc k) - text_from p k) c.parts_of.ensures.sets in
    len ∙ sym (set_count_is (texts_part extra) (sets_part extra) k)
