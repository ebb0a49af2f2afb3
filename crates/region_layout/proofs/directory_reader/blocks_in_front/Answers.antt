use Rattle.std.proofs.Common.{arith}
use Rattle.region_layout.proofs.Sizes.{few_for_blocks}
use Rattle.region_layout.proofs.directory_reader.blocks_in_front.Goals as goal

pub returns-then-count-bytes-clause-given : goal.returns-then-count-bytes-clause-given
returns-then-count-bytes-clause-given c = few_for_blocks c.args.count c.args.bytes.now (λ i. omega (arith, c.type_inv.bytes i)) c.if-count-bytes.true
