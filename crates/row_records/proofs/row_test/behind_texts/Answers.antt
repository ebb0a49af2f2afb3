use Rattle.std.proofs.Common.{rules, ◌∙◌, sym}
use Rattle.row_records.proofs.Behind.{texts_pass, texts_stop, texts_done}
use Rattle.row_records.proofs.row_test.behind_texts.Goals as goal

pub returns-in_err-_text : goal.returns-in_err-_text
returns-in_err-_text c =
    let none = sym c.loop.invariant ∙ texts_stop c.args.count c.loop.counter c.loop.rest.now c.loop-test.true c.in_err-_text.ensures in
    search (rules, none)

pub loop-preserved : goal.loop-preserved
loop-preserved c = sym (texts_pass c.args.count c.loop.counter c.loop.rest.now c.in_ok-_text._text.now c.in_ok-_text.after.now c.loop-test.true c.in_ok-_text.ensures) ∙ c.loop.invariant

pub returns : goal.returns
returns c = sym c.loop.invariant ∙ texts_done c.args.count c.loop.counter c.loop.rest.now c.loop-test.false
