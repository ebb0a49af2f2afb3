use Rattle.transcript_fleet.proofs.Sessions.{begins, plays_on, sessions_know}
use Rattle.transcript_fleet.proofs.Ending.{ended}
use Rattle.transcript_fleet.proofs.laws.plays_go_on.Goals as goal

pub returns-clause-begin : goal.returns-clause-begin
returns-clause-begin g c = begins _ _

pub returns-clause-on : goal.returns-clause-on
returns-clause-on g c = plays_on _ _

pub returns-clause-known : goal.returns-clause-known
returns-clause-known g c = sessions_know _ _

pub returns-clause-end : goal.returns-clause-end
returns-clause-end g c = ended _ _
