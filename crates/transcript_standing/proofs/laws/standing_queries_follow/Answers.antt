use Rattle.transcript_standing.proofs.Following.{follow_on, follow_to_end, follow_to_stop}
use Rattle.transcript_standing.proofs.Right.{tell_right}
use Rattle.transcript_standing.proofs.laws.standing_queries_follow.Goals as goal

pub returns-clause-on : goal.returns-clause-on
returns-clause-on c = follow_on

pub returns-clause-end : goal.returns-clause-end
returns-clause-end c = follow_to_end

pub returns-clause-stop : goal.returns-clause-stop
returns-clause-stop c = follow_to_stop

pub returns-clause-right : goal.returns-clause-right
returns-clause-right c = tell_right
