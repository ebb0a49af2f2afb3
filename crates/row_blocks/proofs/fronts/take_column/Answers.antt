use Rattle.leaf_model.specs.Lent.{each_cells, lent_cell}
use Rattle.row_blocks.specs.Headings.{heading_of}
use Rattle.row_blocks.proofs.Taking.{fronts_are_of_kind}
use Rattle.row_blocks.proofs.Lent.{next_found}
use Rattle.row_blocks.proofs.fronts.take_column.Goals as goal

pub column_under-requires-clause-kind : goal.column_under-requires-clause-kind
column_under-requires-clause-kind c = fronts_are_of_kind (heading_of (lent_cell c.args.like.now)) (each_cells c.args.rests.now) c.requires.cells

pub returns : goal.returns
returns c =
    next_found c.args.rests.now (lent_cell c.args.like.now) (each_cells c.column_under.new.nexts.items) c.in_ok-column.field-0 c.in-Some.column c.in_ok-with_name.field-0 c.in-Some.is
    c.requires.front c.in_ok-with_name.ensures.name c.in_ok-with_name.ensures.bytes c.in_ok-column.ensures.passed c.in_ok-column.ensures.kind c.in_ok-column.ensures.cells
