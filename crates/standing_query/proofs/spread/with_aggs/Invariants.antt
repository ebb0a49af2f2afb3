use Rattle.std.proofs.Common.{◌≡◌, ◌++◌, map, take}
use Rattle.std.specs.List.{flat_map}
use Rattle.standing_query.specs.Spread.{agg_names}
use Rattle.standing_query.proofs.spread.with_aggs.Given as goal

abbrev pub invariant-loop-agg : goal.invariant-loop-agg
invariant-loop-agg l = map (λ n. n.now) l.names.items ≡ map (λ n. n.now) l.fn.names.items ++ flat_map agg_names (take l.agg-index l.aggs)
