-- Each answer of a start is one that its bytes decide.
use Rattle.std.proofs.Common.{◌≡◌, ◌∙◌, inr, ℕ, List, Result, Ok, Err, sym, ap, subst}
use Rattle.table_state.specs.Tables.{Table}
use Rattle.region_reading.specs.declared.fault.AdoptFault.{AdoptFault}
use Rattle.region_reading.specs.declared.fault.AdoptFault.TheVariants as adopt
use Rattle.leaf_words.specs.declared.ways.WhyDisk.{WhyDisk}
use Rattle.leaf_words.specs.declared.ways.WhyDisk.TheVariants as why
use Rattle.adopt.specs.Adopting.{IsWhy, IsWhyFor}
use Rattle.disk_backup.specs.State.{LogState}
use Rattle.disk_backup.specs.Scanning.{scanned_disk}
use Rattle.log_recovery.specs.declared.fault.RecoveryFault.{RecoveryFault}
use Rattle.log_recovery.specs.declared.fault.RecoveryFault.TheVariants as recovery
use Rattle.log_recovery.specs.Recovery.{IfRead, IsRecovered, IsRecoveryRefusal}
use Rattle.leaf_opening.specs.declared.opening.Opened.{Opened}
use Rattle.leaf_words.specs.declared.ways.Way.{Way}
use Rattle.leaf_words.specs.declared.ways.Way.TheVariants.{Disk}
use Rattle.leaf_opening.specs.declared.ways.OpenFault.{OpenFault}
use Rattle.leaf_opening.specs.Faults.{told_of_adopt, told_of_recovery}
use Rattle.leaf_opening.specs.Answers.{IsAnswer, IsExact, way_of}

pub why_alone : (names : List (List ℕ)) (region : List ℕ) (w : WhyDisk) → IsWhyFor names region w → IsWhy region w
why_alone names region why.NoHead is = is
why_alone names region (why.Closed flag) is = is
why_alone names region (why.OtherVersion version) is = is
why_alone names region why.NoImage is = is.0

failed : OpenFault → Result Way OpenFault
failed e = Err e

module _ (names : List (List ℕ)) (region disk : List ℕ) where
  pub exact_err : (result : Result Opened OpenFault) (e f : OpenFault) → result ≡ Err e → e ≡ f → IsExact names region disk (Err f) → IsExact names region disk (way_of result)
  exact_err result e f is same exact =
      subst (λ (r : Result Opened OpenFault). IsExact names region disk (way_of r)) (sym is) (subst (λ (x : OpenFault). IsExact names region disk (Err x)) (sym same) exact)

  pub exact_adopt : (f : AdoptFault) → IsExact names region disk (Err (told_of_adopt f))
  exact_adopt adopt.RegionFault = tt
  exact_adopt adopt.NoMemory = tt

  pub exact_log : (w : WhyDisk) (now mid : List ℕ) (f : RecoveryFault) → IsWhyFor names region w → IsRecoveryRefusal names now f → IfRead f (now ≡ scanned_disk mid) → mid ≡ disk → IsExact names region disk (Err (told_of_recovery f))
  exact_log w now mid (recovery.Stranger name) is refusal read same =
      inr ((w, is), subst (λ (d : List ℕ). IsRecoveryRefusal names d (recovery.Stranger name)) (read ∙ ap scanned_disk same) refusal)
  exact_log w now mid recovery.DiskDamaged is refusal read same =
      ((w, is), subst (λ (d : List ℕ). IsRecoveryRefusal names d recovery.DiskDamaged) (read ∙ ap scanned_disk same) refusal)
  exact_log w now mid recovery.DiskFault is refusal read same = (w, is)
  exact_log w now mid recovery.NoMemory is refusal read same = tt

  pub exact_ok : (way w : Way) → way ≡ w → IsAnswer names region disk (Ok w) → IsExact names region disk (Ok way)
  exact_ok way w is answer = subst (λ (v : Way). IsExact names region disk (Ok v)) (sym is) answer

  pub recovered_exact : (w : WhyDisk) (now : List ℕ) (tables : List Table) (log : LogState) → IsWhyFor names region w → IsRecovered names now tables log → now ≡ scanned_disk disk → IsAnswer names region disk (Ok (Disk w))
  recovered_exact w now tables log is read same = (is, tables, log, subst (λ (d : List ℕ). IsRecovered names d tables log) same read)
