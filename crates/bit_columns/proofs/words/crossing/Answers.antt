use Rattle.std.proofs.Common.{◌-◌, ◌*◌, ◌/◌, ◌%◌, ◌^◌, bit_or, ap, ◌∙◌, arith}
use Rattle.bit_columns.proofs.Reading.{or_crossing}
use Rattle.bit_columns.proofs.words.crossing.Goals as goal

pub returns : goal.returns
returns c =
    ap (λ n. bit_or (c.args.word / 2 ^ c.args.skipped) (n * 2 ^ (64 - c.args.skipped) % 2 ^ 64)) c.from.ensures
    ∙ or_crossing c.args.word c.args.next c.args.skipped (64 - c.args.skipped) (omega arith) (omega arith)
