use Rattle.disk_backup.proofs.Logs.{one_log, one_record_more, closed_is_log, log_is_closed}
use Rattle.disk_backup.proofs.Scanned.{never_damaged, scanned_is_front}
use Rattle.disk_backup.proofs.laws.logs_are_read_once.Goals as goal

pub returns-clause-one : goal.returns-clause-one
returns-clause-one c = one_log

pub returns-clause-more : goal.returns-clause-more
returns-clause-more c = one_record_more

pub returns-clause-closed : goal.returns-clause-closed
returns-clause-closed c = closed_is_log

pub returns-clause-log : goal.returns-clause-log
returns-clause-log c = log_is_closed

pub returns-clause-front : goal.returns-clause-front
returns-clause-front c = scanned_is_front

pub returns-clause-whole : goal.returns-clause-whole
returns-clause-whole c = never_damaged
