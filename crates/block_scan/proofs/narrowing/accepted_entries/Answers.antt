use Rattle.column_bytes.specs.Cells.{entries, value_lent}
use Rattle.block_scan.proofs.Decodes.{accepted_more}
use Rattle.block_scan.proofs.narrowing.accepted_entries.Goals as goal

pub loop-code-preserved : goal.loop-code-preserved
loop-code-preserved c =
    accepted_more c.args.cond.now (entries c.args.view.now.book) c.loop-code.code c.loop-code.all.items c.push.new.self.items c.accepts_value.result (value_lent c.entry.result) c.loop-code.invariant
    c.entry.ensures c.accepts_value.ensures c.in_ok-push.ensures.items
