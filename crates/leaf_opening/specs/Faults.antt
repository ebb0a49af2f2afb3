-- How the faults of a region and of a log are told.
use Rattle.region_reading.specs.declared.fault.AdoptFault.{AdoptFault}
use Rattle.region_reading.specs.declared.fault.AdoptFault.TheVariants as adopting
use Rattle.log_recovery.specs.declared.fault.RecoveryFault.{RecoveryFault}
use Rattle.log_recovery.specs.declared.fault.RecoveryFault.TheVariants as recovery
use Rattle.leaf_opening.specs.declared.ways.OpenFault.{OpenFault}
use Rattle.leaf_opening.specs.declared.ways.OpenFault.TheVariants.{RegionFault, DiskFault, DiskDamaged, Stranger, NoMemory}

abbrev pub told_of_adopt : AdoptFault → OpenFault
told_of_adopt adopting.RegionFault = RegionFault
told_of_adopt adopting.NoMemory = NoMemory

abbrev pub told_of_recovery : RecoveryFault → OpenFault
told_of_recovery recovery.DiskFault = DiskFault
told_of_recovery recovery.DiskDamaged = DiskDamaged
told_of_recovery (recovery.Stranger name) = Stranger name
told_of_recovery recovery.NoMemory = NoMemory
