use Rattle.std.proofs.Common.{◌≡◌, take, map}
use Rattle.group_table.specs.Reads.{seen_key}
use Rattle.group_table.proofs.seen.own_keys.Given as goal

abbrev pub invariant-loop-one : goal.invariant-loop-one
invariant-loop-one l = l.keys.items ≡ map seen_key (take l.one-index l.seen)
