use Rattle.std.proofs.Common.{arith}
use Rattle.leaf_model.proofs.PackedLaws.{known}
use Rattle.leaf_model.proofs.packed_rows.know.Goals as goal

pub returns : goal.returns
returns c = known c.args.count c.args.bytes.now (λ i. omega (arith, c.type_inv.bytes i)) c.requires
