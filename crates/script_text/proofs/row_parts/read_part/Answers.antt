use Rattle.std.proofs.Common.{◌≡◌, ◌+◌, ℕ, ap, length}
use Rattle.script_text.proofs.OneMore.{row_more}
use Rattle.script_text.proofs.row_parts.read_part.Goals as goal

pub loop-rest-preserved : goal.loop-rest-preserved
loop-rest-preserved c =
    let place : c.len.result + 1 ≡ length c.loop-rest.rows + 1 = ap (λ (n : ℕ). n + 1) c.len.ensures in
    row_more c.args.part.now c.loop-rest.rest.now c.cut_line.result.0.now c.without_return.result.now c.cut_line.result.1.now c.loop-rest.rows c.push.new.self c.in_ok-read.read _ (c.len.result + 1) c.loop-rest.invariant
    c.cut_line.ensures.lines c.cut_line.ensures.shorter c.without_return.ensures place c.in_ok-read.ensures.exact c.in_ok-read.ensures.is_row c.of.ensures c.in_ok-push.ensures.put
