use Rattle.std.proofs.Common.{◌≡◌, ◌∷◌, map}
use Rattle.std.specs.List.{range_with_len}
use Rattle.soak.specs.Soak.{soak_add, first_row, fleet}
use Rattle.soak.proofs.making.adds.Given as goal

abbrev pub invariant-loop-leaf : goal.invariant-loop-leaf
invariant-loop-leaf l =
    (l.items.items ≡ fleet ∷ map (soak_add l.seed l.rows) (range_with_len 0 l.leaf))
    × (l.draw.seed ≡ l.seed)
    × (l.draw.next ≡ first_row l.rows l.leaf)
