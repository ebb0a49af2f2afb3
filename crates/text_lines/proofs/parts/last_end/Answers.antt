use Rattle.std.proofs.lemmas.List.{take_rest}
use Rattle.text_lines.proofs.Counted.{end_found, end_last, no_end}
use Rattle.text_lines.proofs.parts.last_end.Goals as goal

pub returns-in-Some-clause-ended : goal.returns-in-Some-clause-ended
returns-in-Some-clause-ended c =
    let found = c.in-Some.ensures in
    end_found c.args.text.now _ c.args.looked c.in-Some.at (take_rest c.args.text.now c.args.looked) found.0.high found.1

pub returns-in-Some-clause-last : goal.returns-in-Some-clause-last
returns-in-Some-clause-last c =
    let found = c.in-Some.ensures in
    end_last c.args.text.now _ c.args.looked c.in-Some.at (take_rest c.args.text.now c.args.looked) found.0.high found.0.after

pub returns-in-None-clause-last : goal.returns-in-None-clause-last
returns-in-None-clause-last c = no_end c.args.text.now _ c.args.looked (take_rest c.args.text.now c.args.looked) c.in-None.ensures
