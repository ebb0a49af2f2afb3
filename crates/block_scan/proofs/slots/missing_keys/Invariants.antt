use Rattle.std.proofs.Common.{◌≡◌, ℕ, List, map, take}
use Rattle.leaf_model.specs.declared.groups.Key.TheVariants as key
use Rattle.block_scan.proofs.slots.missing_keys.Given as goal

abbrev pub invariant-loop-name : goal.invariant-loop-name
invariant-loop-name l = l.keys.items ≡ map (λ (name : List ℕ). key.Missing) (take l._name-index l.names)
