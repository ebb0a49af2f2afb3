use Rattle.std.proofs.Common.{◌+◌, [], length, slice_index_or, refl, sym, ap, subst, below_more, ◌∙◌, arith}
use Rattle.std.specs.Str.{IsUtf8}
use Rattle.std.proofs.lemmas.List.{get_or_default, take_all}
use Rattle.row_model.specs.Values.{bytes_in}
use Rattle.row_model.specs.Sets.{GoesUp}
use Rattle.row_model.proofs.SetLaws.{bytes_more, bytes_upto, set_goes_up, set_is}
use Rattle.row_model.proofs.set.are_set.Goals as goal

pub returns-then-not-goes_up : goal.returns-then-not-goes_up
returns-then-not-goes_up c = (λ f. absurd cc, λ is. sym c.if-not-goes_up.true ∙ c.goes_up.ensures.1 (set_goes_up c.args.texts.now c.loop-i.i is c.loop-i-test.true))

pub returns-then-len-left : goal.returns-then-len-left
returns-then-len-left c = (
  λ f. absurd cc,
  λ is.
      let texts = c.args.texts.now in let i = c.loop-i.i in
      let within = c.loop-i-test.true in
      let here = c.text_len-len.ensures.len ∙ ap length (c.as_str.ensures ∙ c.index-texts-i.is ∙ get_or_default texts i c.index-texts-i.result [] within) in
      let more = bytes_more texts i within in
      let upto = bytes_upto texts (i + 1) in
      let together = is.together in
      let left = c.loop-i.invariant.left in
      absurd (omega (arith, here, more, upto, together, left, c.if-len-left.true)),
)

pub loop-i-preserved : goal.loop-i-preserved
loop-i-preserved c =
    let texts = c.args.texts.now in let i = c.loop-i.i in
    let within = c.loop-i-test.true in
    let text = c.as_str.ensures ∙ c.index-texts-i.is ∙ get_or_default texts i c.index-texts-i.result [] within in
    let here = c.text_len-len.ensures.len ∙ ap length text in
    let more = bytes_more texts i within in
    let left = c.loop-i.invariant.left in
    record {
      up = below_more (GoesUp texts) i c.loop-i.invariant.up (c.goes_up.ensures.0 c.if-not-goes_up.false);
      utf8 = below_more (λ k. IsUtf8 (slice_index_or texts k [])) i c.loop-i.invariant.utf8 (subst IsUtf8 text c.text_len-len.ensures.utf8);
      left = omega (arith, here, more, left, c.if-len-left.false);
    }

pub returns : goal.returns
returns c =
    let texts = c.args.texts.now in let i = c.loop-i.i in
    let end = c.loop-i-test.false in
    let whole = ap bytes_in (take_all i texts (omega (arith, end))) in
    let left = c.loop-i.invariant.left in (
      λ yes. set_is texts (omega (arith, c.if-texts-gt-MAX_MEMBERS.false))
          (λ k h. c.loop-i.invariant.utf8 k (omega (arith, end, h)))
          (λ k h. c.loop-i.invariant.up k (omega (arith, end, h)))
          (omega (arith, whole, left)),
      λ is. refl,
    )
