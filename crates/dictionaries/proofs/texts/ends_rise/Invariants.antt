use Rattle.std.proofs.Common.{ℕ, suc, ◌<◌, ◌≤◌}
use Rattle.dictionaries.specs.Dictionary.{text_from}
use Rattle.dictionaries.proofs.texts.ends_rise.Given as goal

abbrev pub invariant-loop-k : goal.invariant-loop-k
invariant-loop-k l = (j : ℕ) → j < l.k → text_from l.extra j ≤ text_from l.extra (suc j)
