use Rattle.std.proofs.Common.{sym, ◌∙◌, arith}
use Rattle.std.proofs.lemmas.List.{nil_from_length}
use Rattle.leaf_model.specs.Fronts.{front_of}
use Rattle.leaf_model.specs.Lent.{lent_row}
use Rattle.leaf_model.specs.Reading.{rows_at}
use Rattle.leaf_model.proofs.LentLaws.{rows_count, row_first, rows_open}
use Rattle.leaf_model.proofs.fronts.SpelledRows.split_seen.Goals as goal

pub returns-then-self-eq0-clause-parted : goal.returns-then-self-eq0-clause-parted
returns-then-self-eq0-clause-parted c =
    let here = c.args.self.now in
    sym (nil_from_length (front_of (rows_at here.count here.bytes.now)) (sym (rows_count here.count here.bytes.now here.spelled) ∙ c.if-self-eq0.true))

pub look_in-requires-clause-row : goal.look_in-requires-clause-row
look_in-requires-clause-row c = let here = c.args.self.now in row_first here.count here.bytes.now (omega (arith, c.if-self-eq0.false)) here.spelled

pub invariant_of-result : goal.invariant_of-result
invariant_of-result c =
    let here = c.args.self.now in
    record { spelled = (rows_open here.count here.bytes.now (lent_row c.look_in.result.0) c.look_in.result.1.now (omega (arith, c.if-self-eq0.false)) here.spelled c.look_in.ensures.row).some }

pub returns-clause-parted : goal.returns-clause-parted
returns-clause-parted c =
    let here = c.args.self.now in
    sym (rows_open here.count here.bytes.now (lent_row c.look_in.result.0) c.look_in.result.1.now (omega (arith, c.if-self-eq0.false)) here.spelled c.look_in.ensures.row).front
