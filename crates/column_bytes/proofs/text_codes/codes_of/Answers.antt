use Rattle.std.proofs.Common.{◌≡◌, [], length, slice_index_or, sym, ap, ap₂, subst, ◌∙◌, arith}
use Rattle.std.proofs.lemmas.List.{get_or_default, length_push}
use Rattle.std.proofs.lemmas.List.Sums.{fold_more}
use Rattle.dictionaries.specs.Dictionary.{AreKept, with_text}
use Rattle.column_bytes.proofs.Distinct.{texts_by_each, value_more}
use Rattle.column_bytes.proofs.SetCoding.{kept_with}
use Rattle.column_bytes.proofs.text_codes.codes_of.Goals as goal

pub loop-value-preserved : goal.loop-value-preserved
loop-value-preserved c =
    let values = c.args.values.now in let i = c.loop-value.value-index in
    let old = c.loop-value.set in let codes = c.loop-value.codes.items in
    let was = c.loop-value.invariant in let found = c.in_ok-code_of.ensures in
    let here : c.as_str.result.now ≡ slice_index_or values i [] = c.as_str.ensures ∙ c.value-item.is ∙ get_or_default values i c.value-item.result [] c.loop-value-test.true in
    record {
      texts = found.texts ∙ ap₂ with_text was.texts here ∙ sym (fold_more with_text [] values i [] c.loop-value-test.true);
      same = omega (arith, ap length c.in_ok-push.ensures.items, length_push codes c.in_ok-code_of.field-0, was.same);
      each = value_more values codes c.push.new.self.items old c.code_of.new.self i c.in_ok-code_of.field-0 was.same c.in_ok-push.ensures.items
          (subst (AreKept old) (sym found.texts) (kept_with old c.as_str.result.now)) found.below (found.code ∙ here) was.each;
    }

pub returns-clause-codes : goal.returns-clause-codes
returns-clause-codes c =
    let past = c.loop-value-test.false in let end = c.loop-value.auto.value-index-end in
    texts_by_each c.loop-value.set c.loop-value.codes.items c.args.values.now (omega (arith, c.loop-value.invariant.same))
    (λ k h. (c.loop-value.invariant.each k (omega arith)).1)

pub returns-clause-below : goal.returns-clause-below
returns-clause-below c = λ k d h.
    let same = c.loop-value.invariant.same in
    omega (arith, get_or_default c.loop-value.codes.items k d 0 h, (c.loop-value.invariant.each k (omega arith)).0)
