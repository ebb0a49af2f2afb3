use Rattle.std.proofs.Common.{◌≡◌, ◌++◌, map, take}
use Rattle.leaf_model.specs.declared.queries.Cond.{Cond}
use Rattle.standing_query.proofs.spread.with_conds.Given as goal

abbrev pub invariant-loop-cond : goal.invariant-loop-cond
invariant-loop-cond l = map (λ n. n.now) l.names.items ≡ map (λ n. n.now) l.fn.names.items ++ map (λ (c : Cond). c.name) (take l.cond-index l.conds)
