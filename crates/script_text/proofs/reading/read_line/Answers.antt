use Rattle.std.proofs.Common.{rules}
use Rattle.script_text.proofs.Keeps.{opened_keeps_as}
use Rattle.script_text.proofs.reading.read_line.Goals as goal

pub returns-in-Opened-clause-exact : goal.returns-in-Opened-clause-exact
returns-in-Opened-clause-exact g c =
    let read = c.opened.ensures.exact c.args.fleet.now in
    search (rules, read)

pub returns-in-Opened-clause-is_reading : goal.returns-in-Opened-clause-is_reading
returns-in-Opened-clause-is_reading g c =
    let read = c.opened.ensures.exact c.args.fleet.now in
    search (rules, opened_keeps_as, read)
