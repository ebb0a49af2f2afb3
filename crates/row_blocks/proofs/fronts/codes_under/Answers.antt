use Rattle.std.proofs.Common.{Bool, [], ◌∷◌, ◌++◌, option_map, ap, ◌∙◌, arith}
use Rattle.leaf_model.specs.Lent.{lent_cell, lent_value}
use Rattle.column_bytes.specs.declared.kind.Kind.TheVariants.{Texts}
use Rattle.row_blocks.specs.Headings.{heading_of}
use Rattle.row_blocks.proofs.Lent.{codes_more, kind_at, passed_more, there_more}
use Rattle.row_blocks.proofs.fronts.codes_under.Goals as goal

pub code_or-requires : goal.code_or-requires
code_or-requires c =
    kind_at c.args.rests.now c.loop-rest.rest-index c.rest-item.result c.loop-rest-test.true c.rest-item.is (heading_of (lent_cell c.args.like.now)) Texts
    (option_map lent_value c.in-Some.value) c.requires.kind c.in-Some.ensures.value

pub loop-rest-preserved : goal.loop-rest-preserved
loop-rest-preserved c =
    let h = heading_of (lent_cell c.args.like.now) in let rests = c.args.rests.now in let i = c.loop-rest.rest-index in let rest = c.rest-item.result in
    let within = c.loop-rest-test.true in let is = c.rest-item.is in let was = c.loop-rest.invariant in let value = c.in-Some.value in let said = c.in-Some.ensures in
    let found = c.in_ok-last.ensures in
    record {
      texts = found.texts was.texts;
      few = omega (arith, found.grows, was.few);
      coding = codes_more rests i rest within is h c.loop-rest.codes.items c.push.new.self.items (option_map lent_value value) c.in_ok-last.last c.loop-rest.set c.code_or.new.set was.coding
          c.in_ok-push.ensures.items found.kept said.value found.code;
      there = there_more rests i rest within is h c.loop-rest.present.items c.push-in-loop-rest.new.self.items value was.there
          (c.in_ok-push-2.ensures.items ∙ ap (λ (b : Bool). c.loop-rest.present.items ++ b ∷ []) c.is_some.ensures) said.value;
      passed = passed_more rests i rest within is h c.loop-rest.nexts.items c.push-in-loop-rest-2.new.self.items c.in-Some.others was.passed c.in_ok-push-3.ensures.items said.first said.rest;
    }
