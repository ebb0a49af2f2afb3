-- The leaves of a fleet that has every leaf.
use Rattle.std.proofs.Common.{ℕ, List, [], ◌∷◌}
use Rattle.std.specs.Prelude.{⊤}
use Rattle.std.specs.List.{AllByRecursion}

each_had : (leaves : List ℕ) → AllByRecursion (λ leaf. ⊤) leaves
each_had [] = tt
each_had (leaf ∷ leaves) = (tt, each_had leaves)

pub all_had : (waves : List (List ℕ)) → AllByRecursion (λ wave. AllByRecursion (λ leaf. ⊤) wave) waves
all_had [] = tt
all_had (wave ∷ waves) = (each_had wave, all_had waves)
