use Rattle.std.proofs.Common.{◌≡◌, ◌∷◌, ◌++◌, decimal, take}
use Rattle.std.specs.List.{flat_map}
use Rattle.printed_lines.proofs.put.put_leaves.Given as goal

abbrev pub invariant-loop-leaf : goal.invariant-loop-leaf
invariant-loop-leaf l = l.out.items ≡ l.initial.out.items ++ flat_map (λ leaf. 32 ∷ decimal leaf) (take l.leaf-index l.leaves)
