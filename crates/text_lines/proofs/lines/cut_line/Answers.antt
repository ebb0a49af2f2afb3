use Rattle.text_lines.proofs.Cut.{pieces_cut, behind_shorter}
use Rattle.text_lines.proofs.InParts.{line_cut}
use Rattle.text_lines.proofs.lines.cut_line.Goals as goal

pub returns-clause-lines : goal.returns-clause-lines
returns-clause-lines c = rw (c.cut_at.ensures.before, c.cut_at.ensures.behind) (pieces_cut 10 c.args.text.now c.requires)

pub returns-clause-shorter : goal.returns-clause-shorter
returns-clause-shorter c = rw c.cut_at.ensures.behind (behind_shorter 10 c.args.text.now c.requires)

pub returns-clause-cut : goal.returns-clause-cut
returns-clause-cut c = line_cut c.args.text.now c.cut_at.result.0.now c.cut_at.result.1.now c.cut_at.ensures.before c.cut_at.ensures.behind
