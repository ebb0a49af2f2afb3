use Rattle.std.proofs.Common.{◌-◌, length, take, drop, refl}
use Rattle.text_lines.proofs.InParts.{behind_ended, cut_behind}
use Rattle.text_lines.proofs.parts.cut_behind.Goals as goal

pub returns-clause-cut : goal.returns-clause-cut
returns-clause-cut c =
    let text = c.args.text.now in
    let rest = c.cut_line.result.1.now in
    rw (c.split_at.ensures.front, c.split_at.ensures.back) (cut_behind text (take (length text - c.args.place) (drop c.args.place text)) c.cut_line.result.0.now rest c.args.place (length text - length rest) refl c.cut_line.ensures.cut refl)

pub returns-clause-ended : goal.returns-clause-ended
returns-clause-ended c =
    let text = c.args.text.now in
    let rest = c.cut_line.result.1.now in
    rw (c.split_at.ensures.front, c.split_at.ensures.back) (λ some. behind_ended text (take (length text - c.args.place) (drop c.args.place text)) c.cut_line.result.0.now rest c.args.place (length text - length rest) refl c.cut_line.ensures.cut refl some)
