use Rattle.std.proofs.Common.{rules, sym}
use Rattle.row_records.proofs.Texts.{text_found, text_broken}
use Rattle.row_records.proofs.row_fields.text_in.Goals as goal

pub returns-in-Ok : goal.returns-in-Ok
returns-in-Ok c =
    rw c.in-Ok.ensures.cases.0 (text_found c.args.len c.args.bytes.now c.split_at.result.0.now c.split_at.result.1.now (search rules) (sym c.split_at.ensures.front) (sym c.split_at.ensures.back) c.in-Ok.ensures.cases.1)

pub returns-in-Err : goal.returns-in-Err
returns-in-Err c = text_broken c.args.len c.args.bytes.now c.split_at.result.0.now (search rules) (sym c.split_at.ensures.front) c.in-Err.ensures.cases.0
