use Rattle.std.proofs.Common.{rules, sym, ◌∙◌}
use Rattle.standing_query.proofs.Falling.{all_stay}
use Rattle.standing_query.proofs.part.pop_below.Goals as goal

pub returns : goal.returns
returns c = sym (all_stay c.args.horizon.now c.loop-groups.groups.items (search rules) c.loop-groups.invariant.falls) ∙ c.loop-groups.invariant.same
