use Rattle.std.proofs.Common.{refl}
use Rattle.row_blocks.proofs.Standing.{few_fit, own_names_fit}
use Rattle.row_blocks.proofs.places.fit_rows.Goals as goal

pub returns-then-columns-le-MAX_CELLS : goal.returns-then-columns-le-MAX_CELLS
returns-then-columns-le-MAX_CELLS c =
    (λ same i within. own_names_fit i c.args.columns.now c.if-columns-le-MAX_CELLS.true (c.have_own_names.ensures c.if-not-have_own_names.false), λ fit. refl)

pub returns : goal.returns
returns c = few_fit _ c.args.rows c.args.columns.now c.have_few_cells.result (c.have_own_names.ensures c.if-not-have_own_names.false) c.have_few_cells.ensures
