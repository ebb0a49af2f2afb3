use Rattle.std.proofs.Common.{option_map, sym, subst, arith}
use Rattle.leaf_model.specs.Lent.{each_cells, lent_cell}
use Rattle.std.proofs.Common.{◌+◌, Option, take}
use Rattle.row_model.specs.declared.rows.Cell.{Cell}
use Rattle.row_blocks.specs.Merging.{IsEarliest}
use Rattle.row_blocks.proofs.Lent.{earliest_now}
use Rattle.row_blocks.proofs.fronts.earliest_of.Goals as goal

pub loop-rest-init : goal.loop-rest-init
loop-rest-init c = λ i below. absurd (omega (arith, below))

pub loop-rest-preserved : goal.loop-rest-preserved
loop-rest-preserved c =
    let rests = c.args.rests.now in let i = c.loop-rest.rest-index in
    subst (λ (like : Option Cell). IsEarliest like (each_cells (take (i + 1) rests))) (sym c.look.ensures)
    (earliest_now rests i c.rest-item.result c.loop-rest-test.true c.rest-item.is (option_map lent_cell c.loop-rest.earliest) c.loop-rest.invariant)
