use Rattle.std.proofs.Common.{arith}
use Rattle.row_records.proofs.Front.{too_few}
use Rattle.row_records.proofs.row_reader.rows_in_front.Goals as goal

pub returns-then-count-bytes-clause-given : goal.returns-then-count-bytes-clause-given
returns-then-count-bytes-clause-given c = too_few c.args.count c.args.bytes.now (λ i. omega (arith, c.type_inv.bytes i)) c.if-count-bytes.true
