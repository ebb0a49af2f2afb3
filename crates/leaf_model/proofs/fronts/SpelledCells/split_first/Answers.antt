use Rattle.std.proofs.Common.{sym, ◌∙◌, arith}
use Rattle.std.proofs.lemmas.List.{nil_from_length}
use Rattle.leaf_model.specs.Fronts.{front_of}
use Rattle.leaf_model.specs.Lent.{lent_cell}
use Rattle.leaf_model.specs.Fronts.{any_cells_at}
use Rattle.leaf_model.proofs.LentLaws.{cells_count, cell_first, cells_open}
use Rattle.leaf_model.proofs.fronts.SpelledCells.split_first.Goals as goal

pub returns-then-self-eq0 : goal.returns-then-self-eq0
returns-then-self-eq0 c =
    let here = c.args.self.now in
    sym (nil_from_length (front_of (any_cells_at here.count here.bytes.now)) (sym (cells_count here.count here.bytes.now here.spelled) ∙ c.if-self-eq0.true))

pub cell_in-requires : goal.cell_in-requires
cell_in-requires c = let here = c.args.self.now in cell_first here.count here.bytes.now (omega (arith, c.if-self-eq0.false)) here.spelled

pub invariant_of-result : goal.invariant_of-result
invariant_of-result c =
    let here = c.args.self.now in
    record { spelled = (cells_open here.count here.bytes.now (lent_cell c.cell_in.result.0) c.cell_in.result.1.now (omega (arith, c.if-self-eq0.false)) here.spelled c.cell_in.ensures).some }

pub returns : goal.returns
returns c =
    let here = c.args.self.now in
    sym (cells_open here.count here.bytes.now (lent_cell c.cell_in.result.0) c.cell_in.result.1.now (omega (arith, c.if-self-eq0.false)) here.spelled c.cell_in.ensures).front
