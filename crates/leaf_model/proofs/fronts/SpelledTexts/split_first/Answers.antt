use Rattle.std.proofs.Common.{sym, ◌∙◌, arith}
use Rattle.std.proofs.lemmas.List.{nil_from_length}
use Rattle.leaf_model.specs.Fronts.{front_of}
use Rattle.leaf_model.specs.Reading.{texts_at}
use Rattle.leaf_model.proofs.LentLaws.{texts_count, text_first, texts_open}
use Rattle.leaf_model.proofs.fronts.SpelledTexts.split_first.Goals as goal

pub returns-then-self-eq0 : goal.returns-then-self-eq0
returns-then-self-eq0 c =
    let here = c.args.self.now in
    sym (nil_from_length (front_of (texts_at here.count here.bytes.now)) (sym (texts_count here.count here.bytes.now here.spelled) ∙ c.if-self-eq0.true))

pub long_text_in-requires : goal.long_text_in-requires
long_text_in-requires c = let here = c.args.self.now in text_first here.count here.bytes.now (omega (arith, c.if-self-eq0.false)) here.spelled

pub invariant_of-result : goal.invariant_of-result
invariant_of-result c =
    let here = c.args.self.now in
    record { spelled = (texts_open here.count here.bytes.now c.long_text_in.result.0.now c.long_text_in.result.1.now (omega (arith, c.if-self-eq0.false)) here.spelled c.long_text_in.ensures).some }

pub returns : goal.returns
returns c =
    let here = c.args.self.now in
    sym (texts_open here.count here.bytes.now c.long_text_in.result.0.now c.long_text_in.result.1.now (omega (arith, c.if-self-eq0.false)) here.spelled c.long_text_in.ensures).front
