use Rattle.std.proofs.Common.{rules, ◌<◌, length}
use Rattle.text_lines.proofs.InParts.{front_more}
use Rattle.text_lines.proofs.lines.cut_lines.Goals as goal

pub loop-line-preserved : goal.loop-line-preserved
loop-line-preserved c =
    let some : 0 < length c.loop-line.rest.now = search rules in
    front_more c.args.text.now c.loop-line.rest.now c.cut_line.result.0.now c.cut_line.result.1.now c.loop-line._line c.loop-line.invariant some c.cut_line.ensures.lines c.cut_line.ensures.cut c.cut_line.ensures.shorter
