use Rattle.std.proofs.Common.{ℕ, ◌<◌}
use Rattle.dictionaries.specs.Dictionary.{text_at, IsText}
use Rattle.dictionaries.proofs.texts.are_texts.Given as goal

abbrev pub invariant-loop-k : goal.invariant-loop-k
invariant-loop-k l = (j : ℕ) → j < l.k → IsText (text_at l.extra j)
