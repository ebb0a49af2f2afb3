use Rattle.std.proofs.Common.{length, ◌∙◌, ap, sym}
use Rattle.leaf_model.specs.Reading.{rows_at}
use Rattle.leaf_model.proofs.LentLaws.{rows_count}
use Rattle.row_records.proofs.Behind.{was_read}
use Rattle.row_records.proofs.row_reader.rows_of.Goals as goal

pub returns-in_ok-read-in-Some-clause-count : goal.returns-in_ok-read-in-Some-clause-count
returns-in_ok-read-in-Some-clause-count c =
    let read = was_read (rows_at c.args.count c.args.bytes.now) c.in-Some.rest.now c.in-Some.ensures in
    ap length c.in_ok-read-in-Some.ensures ∙ sym (rows_count c.args.count c.args.bytes.now read)
