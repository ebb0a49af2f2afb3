use Rattle.std.proofs.Common.{rules, ◌≡◌, slice_index_or, slice_set, length, ◌∙◌, arith}
use Rattle.leaf_model.specs.Lent.{lent_value}
use Rattle.leaf_model.specs.declared.looks.Sought.TheVariants as sought
use Rattle.leaf_model.proofs.SeenLaws.{put_from}
use Rattle.leaf_model.proofs.looks.note_from.Goals as goal

pub loop-i-smaller : goal.loop-i-smaller
loop-i-smaller c = omega (arith, c.loop-i-test.true, c.place_from-i.ensures.onward)

pub loop-i-preserved : goal.loop-i-preserved
loop-i-preserved c =
    let all = c.args.sought.now in
    let items = c.loop-i.seen.items in
    let i = c.loop-i.i in
    let here = c.loop-i-test.true in
    let old = c.index_mut.result.now in
    let new = c.note_one.new.seen in
    let name = c.args.name.now in
    let value = lent_value c.args.value in
    let at : slice_index_or items i old ≡ old = search (rules, c.index_mut.ensures.value) in
    let same : length items ≡ length all = search (rules, c.loop-i.invariant.same) in
    let put : length (slice_set items i new) ≡ length all = search (rules, same) in
    record {
      bound = c.place_from-i.ensures.bound;
      same = search rules;
      hit = c.place_from-i.ensures.hit;
      so_far = λ others.
          c.place_from-i.ensures.passed (slice_set items i new) value others put
          ∙ put_from all items i sought.Time old new (record { name = name; value = value }) others (omega (arith, here)) same at (c.note_one.ensures (slice_index_or all i sought.Time) name others (c.loop-i.invariant.hit here sought.Time))
          ∙ c.loop-i.invariant.so_far others;
    }
