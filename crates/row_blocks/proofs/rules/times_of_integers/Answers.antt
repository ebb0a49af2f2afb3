use Rattle.row_blocks.proofs.Accepted.{no_times, times_told}
use Rattle.row_blocks.proofs.rules.times_of_integers.Goals as goal

pub returns-in-Some : goal.returns-in-Some
returns-in-Some c =
    let found = rw c.in-Some.is at c.in_ok-found.ensures in
    times_told c.args.rows c.args.column.now c.args.view.now c.in-Some.times.items c.requires.name c.requires.kind c.requires.mean c.requires.seen found

pub returns-in-None : goal.returns-in-None
returns-in-None c =
    let none = rw c.in-None.is at c.in_ok-found.ensures in
    no_times c.args.rows c.args.column.now c.args.view.now c.requires.mean c.requires.seen none
