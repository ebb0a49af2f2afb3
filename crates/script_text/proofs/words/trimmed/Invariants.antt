use Rattle.std.proofs.Common.{◌≡◌, length}
use Rattle.script_text.specs.Words.{trimmed}
use Rattle.script_text.proofs.words.trimmed.Given as goal

abbrev pub invariant-loop-front : goal.invariant-loop-front
invariant-loop-front l = trimmed l.front ≡ trimmed l.text

abbrev pub decreases-loop-front : goal.decreases-loop-front
decreases-loop-front l = length l.front
