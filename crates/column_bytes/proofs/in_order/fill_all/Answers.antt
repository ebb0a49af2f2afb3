use Rattle.std.proofs.Common.{None, false, length, arith}
use Rattle.std.proofs.lemmas.List.FromFn.{fill_by_all}
use Rattle.column_bytes.specs.Cells.{is_there}
use Rattle.column_bytes.proofs.in_order.fill_all.Goals as goal

pub returns : goal.returns
returns c =
    fill_by_all (is_there None) c.loop-i.present (length c.args.present.now) false (omega arith) (λ k within. c.loop-i.invariant k (omega arith))
