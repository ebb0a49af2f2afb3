use Rattle.std.proofs.Common.{◌+◌, ◌<◌, [], length, slice_index_or, refl, sym, ap, subst, below_more, ◌∙◌, arith}
use Rattle.std.specs.Str.{IsUtf8}
use Rattle.std.proofs.lemmas.List.{take_all}
use Rattle.row_model.specs.Values.{bytes_in}
use Rattle.row_model.specs.Sets.{GoesUp}
use Rattle.row_model.proofs.SetLaws.{bytes_more, bytes_upto, set_goes_up, set_is}
use Rattle.dictionaries.specs.Dictionary.{texts_at}
use Rattle.dictionaries.specs.Sets.{set_at}
use Rattle.dictionaries.proofs.SetParts.{set_count_is}
use Rattle.dictionaries.proofs.sets.is_set_at.Goals as goal

pub returns-then-count-gt-MAX_MEMBERS : goal.returns-then-count-gt-MAX_MEMBERS
returns-then-count-gt-MAX_MEMBERS c = (
  λ f. absurd cc,
  λ is.
      let few = is.few in
      absurd (omega (arith, c.set_len-count.ensures, set_count_is c.args.texts.now c.args.part.now c.args.k, few, c.if-count-gt-MAX_MEMBERS.true)),
)

pub returns-then-not-goes_up : goal.returns-then-not-goes_up
returns-then-not-goes_up c = (
  λ f. absurd cc,
  λ is.
      let all = set_at (texts_at c.args.texts.now) c.args.part.now c.args.k in
      sym c.if-not-goes_up.true ∙ c.goes_up.ensures.1 (set_goes_up all c.loop-i.i is (omega (arith, c.loop-i-test.true, c.set_len-count.ensures, set_count_is c.args.texts.now c.args.part.now c.args.k))),
)

pub returns-then-len-left : goal.returns-then-len-left
returns-then-len-left c = (
  λ f. absurd cc,
  λ is.
      let all = set_at (texts_at c.args.texts.now) c.args.part.now c.args.k in let i = c.loop-i.i in
      let within : i < length all = omega (arith, c.loop-i-test.true, c.set_len-count.ensures, set_count_is c.args.texts.now c.args.part.now c.args.k) in
      let here = ap length c.text_in-len.ensures.text in
      let more = bytes_more all i within in
      let upto = bytes_upto all (i + 1) in
      let together = is.together in
      let left = c.loop-i.invariant.left in
      absurd (omega (arith, here, more, upto, together, left, c.if-len-left.true)),
)

pub loop-i-preserved : goal.loop-i-preserved
loop-i-preserved c =
    let all = set_at (texts_at c.args.texts.now) c.args.part.now c.args.k in let i = c.loop-i.i in
    let within : i < length all = omega (arith, c.loop-i-test.true, c.set_len-count.ensures, set_count_is c.args.texts.now c.args.part.now c.args.k) in
    let here = ap length c.text_in-len.ensures.text in
    let more = bytes_more all i within in
    let left = c.loop-i.invariant.left in
    record {
      up = below_more (GoesUp all) i c.loop-i.invariant.up (c.goes_up.ensures.0 c.if-not-goes_up.false);
      utf8 = below_more (λ j. IsUtf8 (slice_index_or all j [])) i c.loop-i.invariant.utf8 (subst IsUtf8 c.text_in-len.ensures.text c.text_in-len.ensures.utf8);
      left = omega (arith, here, more, left, c.if-len-left.false);
    }

pub returns : goal.returns
returns c =
    let all = set_at (texts_at c.args.texts.now) c.args.part.now c.args.k in let i = c.loop-i.i in
    let long = set_count_is c.args.texts.now c.args.part.now c.args.k in
    let end = c.loop-i-test.false in
    let count = c.set_len-count.ensures in
    let whole = ap bytes_in (take_all i all (omega (arith, end, long, count))) in
    let left = c.loop-i.invariant.left in (
      λ yes. set_is all (omega (arith, c.if-count-gt-MAX_MEMBERS.false, long, count))
          (λ j h. c.loop-i.invariant.utf8 j (omega (arith, end, h, long, count)))
          (λ j h. c.loop-i.invariant.up j (omega (arith, end, h, long, count)))
          (omega (arith, whole, left)),
      λ is. refl,
    )
