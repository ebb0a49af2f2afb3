-- How the faults of a log and of a table are told.
use Rattle.disk_backup.specs.declared.fault.LogFault.{LogFault}
use Rattle.disk_backup.specs.declared.fault.LogFault.TheVariants as log
use Rattle.table_state.specs.declared.fault.AddFault.{AddFault}
use Rattle.table_state.specs.declared.fault.AddFault.TheVariants as add
use Rattle.log_recovery.specs.declared.fault.RecoveryFault.{RecoveryFault}
use Rattle.log_recovery.specs.declared.fault.RecoveryFault.TheVariants.{DiskFault, DiskDamaged, NoMemory}

abbrev pub told_of_log : LogFault → RecoveryFault
told_of_log log.DiskFault = DiskFault
told_of_log log.DiskDamaged = DiskDamaged
told_of_log log.NoMemory = NoMemory

-- if a table would grow too long, the log is damaged
abbrev pub told_of_add : AddFault → RecoveryFault
told_of_add add.Full = DiskDamaged
told_of_add add.NoMemory = NoMemory
