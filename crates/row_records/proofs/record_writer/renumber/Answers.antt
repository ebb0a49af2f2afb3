use Rattle.std.proofs.Common.{◌∙◌, ◌-◌, length}
use Rattle.row_records.proofs.Growing.{renumbered}
use Rattle.row_records.proofs.record_writer.renumber.Goals as goal

pub returns-clause-fields : goal.returns-clause-fields
returns-clause-fields c = λ len head number writes is ll lh ln.
    c.overwrite-2.ensures ∙ renumbered c.args.bytes.now len head number writes c.overwrite.new.bytes (length c.args.bytes.now - 9) c.args.name_len c.args.count is ll lh ln c.overwrite.ensures
