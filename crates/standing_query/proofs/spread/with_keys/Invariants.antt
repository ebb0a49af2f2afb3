use Rattle.std.proofs.Common.{◌≡◌, ◌++◌, map, take}
use Rattle.standing_query.proofs.spread.with_keys.Given as goal

abbrev pub invariant-loop-key : goal.invariant-loop-key
invariant-loop-key l = map (λ n. n.now) l.names.items ≡ map (λ n. n.now) l.fn.names.items ++ take l.key-index l.keys
