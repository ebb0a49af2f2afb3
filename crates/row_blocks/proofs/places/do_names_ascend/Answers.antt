use Rattle.std.proofs.Common.{[], Some, None, is_some, ap, ◌∙◌}
use Rattle.std.proofs.lemmas.List.{get_or_default}
use Rattle.row_blocks.specs.Places.{last_name, no_column}
use Rattle.row_blocks.proofs.Standing.{no_further, one_further}
use Rattle.row_blocks.proofs.places.do_names_ascend.Goals as goal

pub loop-k-preserved : goal.loop-k-preserved
loop-k-preserved c =
    let columns = c.args.columns.now in let i = c.args.i in let k = c.loop-k.k in let column = c.index-columns-k.result in
    one_further i k columns c.loop-k.last.now column c.has_cell-there.result (Some c.in-Some.name.now) (last_name i columns []) c.loop-k-test.true
    (c.index-columns-k.is ∙ get_or_default columns k column no_column c.loop-k-test.true) c.has_cell-there.ensures c.in-Some.ensures c.loop-k.invariant

pub returns-in-None : goal.returns-in-None
returns-in-None c =
    let columns = c.args.columns.now in let i = c.args.i in let k = c.loop-k.k in let column = c.index-columns-k.result in
    ap is_some (one_further i k columns c.loop-k.last.now column c.has_cell-there.result None (last_name i columns []) c.loop-k-test.true
    (c.index-columns-k.is ∙ get_or_default columns k column no_column c.loop-k-test.true) c.has_cell-there.ensures c.in-None.ensures c.loop-k.invariant)

pub returns : goal.returns
returns c = no_further c.args.i c.loop-k.k c.args.columns.now c.loop-k.last.now (last_name c.args.i c.args.columns.now []) c.loop-k-test.false c.loop-k.invariant
