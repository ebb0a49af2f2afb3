use Rattle.std.proofs.Common.{◌≡◌, drop}
use Rattle.standing_query.specs.States.{StandingState}
use Rattle.standing_feed.specs.Following.{HeedsAll}
use Rattle.standing_feed.proofs.following.heed_copies.Given as goal

-- who heeds what is left has heeded all
abbrev pub invariant-loop-entry : goal.invariant-loop-entry
invariant-loop-entry l = record {
  query : l.standing.query ≡ l.initial.standing.query;
  so_far : (t : StandingState) → HeedsAll l.standing (drop l.entry-index l.heard) t → HeedsAll l.initial.standing l.heard t;
}
