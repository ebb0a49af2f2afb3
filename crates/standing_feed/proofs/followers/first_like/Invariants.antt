use Rattle.std.proofs.Common.{◌≡◌}
use Rattle.standing_feed.proofs.followers.first_like.Given as goal

abbrev pub invariant-loop-other : goal.invariant-loop-other
invariant-loop-other l = l.place ≡ l.other-index
