use Rattle.std.proofs.Common.{◌-◌, arith}
use Rattle.leaf_model.specs.Reading.{texts_at}
use Rattle.leaf_model.proofs.LentLaws.{text_first, texts_pass, texts_done, passed_all}
use Rattle.leaf_model.proofs.spelled.behind_texts.Goals as goal

pub long_text_in-requires : goal.long_text_in-requires
long_text_in-requires c = text_first (c.args.count - c.loop.counter) c.loop.rest.now (omega (arith, c.loop-test.true)) c.loop.invariant.some

pub loop-preserved : goal.loop-preserved
loop-preserved c = texts_pass c.args.count c.loop.counter c.loop.rest.now c.long_text_in.result.0.now c.long_text_in.result.1.now (texts_at c.args.count c.args.bytes.now) c.loop-test.true c.long_text_in.ensures c.loop.invariant

pub returns : goal.returns
returns c =
    let total = texts_at c.args.count c.args.bytes.now in
    passed_all c.loop.rest.now (texts_at (c.args.count - c.loop.counter) c.loop.rest.now) total c.requires (texts_done c.args.count c.loop.counter c.loop.rest.now c.loop-test.false) c.loop.invariant
