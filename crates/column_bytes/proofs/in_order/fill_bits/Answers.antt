use Rattle.std.proofs.Common.{false, length, arith}
use Rattle.std.proofs.lemmas.List.FromFn.{fill_by_all}
use Rattle.bit_columns.specs.Bits.{is_present}
use Rattle.column_bytes.proofs.in_order.fill_bits.Goals as goal

pub returns : goal.returns
returns c =
    fill_by_all (is_present c.args.bits.now.bytes) c.loop-i.present (length c.args.present.now) false (omega arith) (λ k within. c.loop-i.invariant k (omega arith))
