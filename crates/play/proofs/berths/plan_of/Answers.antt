use Rattle.std.proofs.Common.{rules, ◌<◌, length}
use Rattle.play.proofs.Ends.{plan_is}
use Rattle.play.proofs.berths.plan_of.Goals as goal

pub returns-in_ok-copy-in-One-clause-plan : goal.returns-in_ok-copy-in-One-clause-plan
returns-in_ok-copy-in-One-clause-plan c =
    let some : 0 < length c.args.items.now = search rules in
    plan_is c.args.items.now c.requires some _ _ _ (search rules) (search rules) (search rules)
