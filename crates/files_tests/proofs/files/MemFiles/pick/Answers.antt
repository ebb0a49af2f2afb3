use Rattle.files_tests.proofs.files.MemFiles.pick.Goals as goal

pub returns-clause-left : goal.returns-clause-left
returns-clause-left c =
    let left = c.in_ok-kept.ensures.left in
    (left.0, left.1, left.2.opened)

pub returns-clause-clock : goal.returns-clause-clock
returns-clause-clock c = c.in_ok-kept.ensures.left.2.clock
