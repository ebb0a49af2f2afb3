use Rattle.std.proofs.Common.{ℕ, ◌+◌, ◌<◌, length, sym, ap, subst, ◌∙◌, arith, rules}
use Rattle.std.specs.Str.{IsUtf8}
use Rattle.dictionaries.specs.Dictionary.{text_at, text_from}
use Rattle.dictionaries.specs.Sets.{member_at}
use Rattle.dictionaries.proofs.SetParts.{member_inside, set_text}
use Rattle.dictionaries.proofs.sets.text_in.Goals as goal

pub overflow_add-text_from : goal.overflow_add-text_from
overflow_add-text_from c =
    let part = c.args.part.now in
    let inside = member_inside part c.args.k c.args.i c.requires.numbered.ends c.requires.within c.requires.inside in
    let long : length part < 18446744073709551616 = search rules in
    omega (arith, c.text_from.ensures.value, inside, c.requires.numbered.ends.whole, long)

pub member_at-member-requires-clause-within : goal.member_at-member-requires-clause-within
member_at-member-requires-clause-within c =
    let inside = member_inside c.args.part.now c.args.k c.args.i c.requires.numbered.ends c.requires.within c.requires.inside in
    omega (arith, c.text_from.ensures.value, inside)

pub text_bytes-requires-clause-within : goal.text_bytes-requires-clause-within
text_bytes-requires-clause-within c =
    let part = c.args.part.now in
    let inside = member_inside part c.args.k c.args.i c.requires.numbered.ends c.requires.within c.requires.inside in
    let below = c.requires.numbered.members (text_from part c.args.k + c.args.i) inside in
    let number = c.member_at-member.ensures ∙ ap (member_at part) (ap (λ (n : ℕ). n + c.args.i) c.text_from.ensures.value) in
    omega (arith, number, below)

pub returns-clause-text : goal.returns-clause-text
returns-clause-text c =
    let texts = c.args.texts.now in let part = c.args.part.now in
    let number = c.member_at-member.ensures ∙ ap (member_at part) (ap (λ (n : ℕ). n + c.args.i) c.text_from.ensures.value) in
    c.text_bytes.ensures ∙ ap (text_at texts) number ∙ sym (set_text texts part c.args.k c.args.i c.requires.numbered c.requires.within c.requires.inside)

pub returns-clause-utf8 : goal.returns-clause-utf8
returns-clause-utf8 c =
    let part = c.args.part.now in
    let inside = member_inside part c.args.k c.args.i c.requires.numbered.ends c.requires.within c.requires.inside in
    let number = c.member_at-member.ensures ∙ ap (member_at part) (ap (λ (n : ℕ). n + c.args.i) c.text_from.ensures.value) in
    let text = c.text_bytes.ensures ∙ ap (text_at c.args.texts.now) number in
    subst IsUtf8 (sym text) (c.requires.numbered.dictionary.texts (member_at part (text_from part c.args.k + c.args.i)) (c.requires.numbered.members (text_from part c.args.k + c.args.i) inside)).utf8
