use Rattle.std.proofs.Common.{ℕ, ◌<◌}
use Rattle.row_model.specs.Values.{IsSet}
use Rattle.dictionaries.specs.Dictionary.{texts_at}
use Rattle.dictionaries.specs.Sets.{set_at}
use Rattle.dictionaries.proofs.sets.are_sets.Given as goal

abbrev pub invariant-loop-k : goal.invariant-loop-k
invariant-loop-k l = (j : ℕ) → j < l.k → IsSet (set_at (texts_at l.texts) l.part j)
