use Rattle.text_lines.proofs.Cut.{before_found, behind_found, before_none, behind_none}
use Rattle.text_lines.proofs.lines.cut_at.Goals as goal

pub returns-in-Some-clause-before : goal.returns-in-Some-clause-before
returns-in-Some-clause-before c =
    let found = c.in-Some.ensures in
    before_found c.args.at c.args.text.now c.in-Some.end found.0.high found.1 found.0.before

pub returns-in-Some-clause-behind : goal.returns-in-Some-clause-behind
returns-in-Some-clause-behind c =
    let found = c.in-Some.ensures in
    behind_found c.args.at c.args.text.now c.in-Some.end found.0.high found.1 found.0.before

pub returns-in-None-clause-before : goal.returns-in-None-clause-before
returns-in-None-clause-before c = before_none c.args.at c.args.text.now c.in-None.ensures

pub returns-in-None-clause-behind : goal.returns-in-None-clause-behind
returns-in-None-clause-behind c = behind_none c.args.at c.args.text.now c.in-None.ensures
