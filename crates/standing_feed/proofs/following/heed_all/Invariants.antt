use Rattle.std.proofs.Common.{◌≡◌}
use Rattle.std.specs.VecDeque.{deque_len}
use Rattle.standing_query.specs.States.{StandingState}
use Rattle.standing_feed.specs.Following.{HeedsAll}
use Rattle.standing_feed.proofs.following.heed_all.Given as goal

-- who heeds what is left has heeded all
abbrev pub invariant-loop-heard : goal.invariant-loop-heard
invariant-loop-heard l = record {
  query : l.standing.query ≡ l.initial.standing.query;
  so_far : (t : StandingState) → HeedsAll l.standing l.rest.items t → HeedsAll l.initial.standing l.fn.heard.items t;
}

abbrev pub decreases-loop-heard : goal.decreases-loop-heard
decreases-loop-heard l = deque_len l.rest
