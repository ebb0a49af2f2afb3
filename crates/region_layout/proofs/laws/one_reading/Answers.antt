use Rattle.region_layout.proofs.Images.{one_tables, one_log_end, not_closed}
use Rattle.region_layout.proofs.laws.one_reading.Goals as goal

pub returns-clause-tables : goal.returns-clause-tables
returns-clause-tables c = one_tables

pub returns-clause-log_end : goal.returns-clause-log_end
returns-clause-log_end c = one_log_end

pub returns-clause-closed : goal.returns-clause-closed
returns-clause-closed c = not_closed
