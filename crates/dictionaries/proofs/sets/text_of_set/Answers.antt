use Rattle.std.proofs.Common.{List, ℕ, [], suc, ◌-◌, slice_index_or, ap, ap₂, ◌∙◌, arith}
use Rattle.dictionaries.specs.Dictionary.{text_from, texts_at}
use Rattle.dictionaries.specs.Sets.{set_at, sets_part, texts_part}
use Rattle.dictionaries.proofs.SetParts.{set_count_is}
use Rattle.dictionaries.proofs.sets.text_of_set.Goals as goal

pub text_in-requires-clause-inside : goal.text_in-requires-clause-inside
text_in-requires-clause-inside c =
    let extra = c.args.extra.now in let k = c.args.set in
    let len = ap (λ (p : List ℕ). text_from p (suc k) - text_from p k) c.parts_of.ensures.sets in
    omega (arith, len, set_count_is (texts_part extra) (sets_part extra) k, c.requires.inside)

pub returns : goal.returns
returns c = c.from_utf8_unchecked.ensures ∙ c.text_in.ensures.text ∙ ap₂ (λ (t p : List ℕ). slice_index_or (set_at (texts_at t) p c.args.set) c.args.i []) c.parts_of.ensures.texts c.parts_of.ensures.sets
