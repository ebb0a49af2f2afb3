use Rattle.std.proofs.Common.{◌++◌, Option, sym, ap, subst, ◌∙◌, arith}
use Rattle.std.proofs.lemmas.List.Elements.{All-from_recursion}
use Rattle.row_model.specs.declared.rows.Value.{Value}
use Rattle.row_blocks.specs.Blocks.{cell_at_place}
use Rattle.block_scan.specs.Reads.{IsRead}
use Rattle.block_scan.proofs.Cells.{cell_read, cells_more}
use Rattle.block_scan.proofs.rows.cells_at.Goals as goal

pub push_cell-requires : goal.push_cell-requires
push_cell-requires c =
    let one = c.one-item.result in let i = c.loop-one.one-index in
    let read : IsRead c.args.rows one
    = subst (IsRead c.args.rows) (sym c.one-item.is) (All-from_recursion (IsRead c.args.rows) c.args.read.now c.requires.read i one c.loop-one-test.true) in
    omega (arith, read.count, c.requires.place)

pub loop-one-preserved : goal.loop-one-preserved
loop-one-preserved c =
    let one = c.one-item.result in let i = c.loop-one.one-index in
    let read : IsRead c.args.rows one
    = subst (IsRead c.args.rows) (sym c.one-item.is) (All-from_recursion (IsRead c.args.rows) c.args.read.now c.requires.read i one c.loop-one-test.true) in
    cells_more c.args.place i c.args.read.now one c.loop-one.cells.items c.push_cell.new.cells.items c.loop-one-test.true c.one-item.is c.loop-one.invariant (c.in_ok-push_cell.ensures ∙ ap (λ (v : Option Value). c.loop-one.cells.items ++ cell_at_place one.column.now.name v) (sym (cell_read c.args.rows one read c.args.place (omega (arith, read.count, c.requires.place)))))
