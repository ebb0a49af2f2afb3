use Rattle.std.proofs.Common.{◌≡◌, length}
use Rattle.aggregator.proofs.fan.unasked.Given as goal

abbrev pub invariant-loop-made : goal.invariant-loop-made
invariant-loop-made l = length l.replies.items ≡ l.made
