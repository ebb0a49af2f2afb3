use Rattle.std.proofs.Common.{length, arith}
use Rattle.std.proofs.lemmas.List.FromFn.{fill_by_all}
use Rattle.delta_codes.specs.Slots.{code_of}
use Rattle.delta_codes.proofs.encode.write_codes.Goals as goal

pub returns-clause-codes : goal.returns-clause-codes
returns-clause-codes c =
    fill_by_all (code_of c.args.values.now) c.loop-i.codes (length c.args.values.now) 0 (omega arith)
    (λ k within. c.loop-i.invariant.0 k (omega arith))
