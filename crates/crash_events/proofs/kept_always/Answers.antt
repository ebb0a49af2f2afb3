use Rattle.crash_events.proofs.Runs.{kept_throughout, plain_throughout, left_throughout}
use Rattle.crash_events.proofs.Crashes.{crashes_fit}
use Rattle.crash_events.proofs.kept_always.Goals as goal

pub returns-clause-kept : goal.returns-clause-kept
returns-clause-kept c = kept_throughout

pub returns-clause-plain : goal.returns-clause-plain
returns-clause-plain c = plain_throughout

pub returns-clause-left : goal.returns-clause-left
returns-clause-left c = left_throughout

pub returns-clause-crash : goal.returns-clause-crash
returns-clause-crash c = crashes_fit
