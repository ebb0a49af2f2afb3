use Rattle.std.proofs.Common.{rules, Bool, [], ◌∷◌, ◌++◌, option_map, ap, ◌∙◌}
use Rattle.leaf_model.specs.Lent.{lent_cell, lent_value}
use Rattle.column_bytes.specs.declared.kind.Kind.TheVariants.{Ints}
use Rattle.row_blocks.specs.Headings.{heading_of}
use Rattle.row_blocks.proofs.Lent.{integers_more, kind_at, passed_more, there_more}
use Rattle.row_blocks.proofs.fronts.numbers_under.Goals as goal

pub integer_or-last-requires : goal.integer_or-last-requires
integer_or-last-requires c =
    kind_at c.args.rests.now c.loop-rest.rest-index c.rest-item.result c.loop-rest-test.true c.rest-item.is (heading_of (lent_cell c.args.like.now)) Ints
    (option_map lent_value c.in-Some.value) c.requires.kind c.in-Some.ensures.value

pub loop-rest-preserved : goal.loop-rest-preserved
loop-rest-preserved c =
    let h = heading_of (lent_cell c.args.like.now) in let rests = c.args.rests.now in let i = c.loop-rest.rest-index in let rest = c.rest-item.result in
    let within = c.loop-rest-test.true in let is = c.rest-item.is in let was = c.loop-rest.invariant in let value = c.in-Some.value in let said = c.in-Some.ensures in
    record {
      integers = integers_more rests i rest within is h c.loop-rest.integers.items c.push.new.self.items (option_map lent_value value) _ c.integer_or-last.result was.integers c.in_ok-push.ensures.items (search rules) said.value
          c.integer_or-last.ensures;
      there = there_more rests i rest within is h c.loop-rest.present.items c.push-in-loop-rest.new.self.items value was.there
          (c.in_ok-push-2.ensures.items ∙ ap (λ (b : Bool). c.loop-rest.present.items ++ b ∷ []) c.is_some.ensures) said.value;
      passed = passed_more rests i rest within is h c.loop-rest.nexts.items c.push-in-loop-rest-2.new.self.items c.in-Some.others was.passed c.in_ok-push-3.ensures.items said.first said.rest;
    }
