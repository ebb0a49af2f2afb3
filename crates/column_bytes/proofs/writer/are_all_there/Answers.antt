use Rattle.std.proofs.Common.{None, false, length, refl, sym, arith}
use Rattle.std.proofs.lemmas.List.FromFn.{fill_by_all}
use Rattle.column_bytes.specs.Cells.{is_there}
use Rattle.column_bytes.proofs.writer.are_all_there.Goals as goal

pub returns : goal.returns
returns c =
    let present = c.args.present.now in
    let past = c.loop-there-test.false in
    λ yes. sym (fill_by_all (is_there None) present (length present) false refl (λ k within. c.loop-there.invariant k (omega arith)))
