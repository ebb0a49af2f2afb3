-- What a crash leaves while a leaf starts, and what a start tells.
use Rattle.std.proofs.Common.{◌≡◌, ◌⊎◌, inl, inr, ◌∙◌, ℕ, List, length, refl, sym, ap, subst, Result, Err}
use Rattle.std.specs.Prelude.{◌≢◌}
use Rattle.berth_face.specs.Berth.{Pair, Meaning, IsClosed, Ended, SameDisk}
use Rattle.berth_face.specs.Moments.{KeepsRegion, Throughout}
use Rattle.berth_face.proofs.Moments.{throughout_map, throughout_join, now_of}
use Rattle.region_head.specs.Closing.{AdoptsFrom, IsBroken}
use Rattle.region_reading.specs.declared.fault.AdoptFault.{AdoptFault}
use Rattle.region_reading.specs.declared.fault.AdoptFault.TheVariants as adopting
use Rattle.disk_backup.specs.Scanning.{StepsFrom, BeginsScan}
use Rattle.log_recovery.specs.declared.fault.RecoveryFault.{RecoveryFault}
use Rattle.log_recovery.specs.declared.fault.RecoveryFault.TheVariants as found
use Rattle.leaf_opening.specs.declared.ways.OpenFault.{OpenFault}
use Rattle.leaf_opening.specs.declared.ways.OpenFault.TheVariants as fault
use Rattle.leaf_opening.specs.declared.opening.Opened.{Opened}
use Rattle.leaf_opening.specs.Faults.{told_of_adopt, told_of_recovery}
use Rattle.leaf_opening.specs.Starts.{OpensFrom, KeepsDisks}

-- ---- each moment

-- a scan that begins on a disk that reads as before
pub held_on : (old mid now : List ℕ) → mid ≡ old → BeginsScan (length mid) mid now → BeginsScan (length old) old now
held_on old mid now same begins = subst (λ (d : List ℕ). BeginsScan (length d) d now) same begins

module _ (old mid : Meaning) (so_far : Throughout (AdoptsFrom old) old mid) where
  adopt_opens : (p : Pair) → AdoptsFrom old p → OpensFrom old p
  adopt_opens p came = record { from = came.from; was = came.was; region = came.region; disk = inl came.disk }

  pub opens_adopting : Throughout (OpensFrom old) old mid
  opens_adopting = throughout_map old mid (AdoptsFrom old) (OpensFrom old) adopt_opens so_far

  module _ (same_disk : mid.held.disk ≡ old.held.disk) (shut : IsClosed mid.held.region) (keeps : KeepsRegion mid) where
    -- an adoption that went well leaves no open region
    left_shut : (p : Pair) → mid.leaves mid.clock p → IsClosed p.region
    left_shut p left = elim (keeps p left) [
      | inl same ↦ subst IsClosed (sym same) shut
      | inr closed ↦ closed
    ]

    -- a pair of the recovery comes from one that the adoption left, and that from one before it
    recovery_opens : (p : Pair) → StepsFrom (BeginsScan (length mid.held.disk)) mid p → OpensFrom old p
    recovery_opens p came =
        let first = now_of old mid (AdoptsFrom old) so_far came.from came.was in
        let begins = subst (λ (d : List ℕ). BeginsScan (length mid.held.disk) d p.disk) first.disk came.disk in
        record {
          from = first.from;
          was = first.was;
          region = elim came.region [
            | inl same ↦ subst (λ (r : List ℕ). IsClosed r ⊎ IsBroken old.held.region r) (sym same) first.region
            | inr closed ↦ inl closed
          ];
          disk = inr (
            elim came.region [
              | inl same ↦ subst IsClosed (sym same) (left_shut came.from came.was)
              | inr closed ↦ closed
            ],
            subst (λ (d : List ℕ). BeginsScan (length d) first.from.disk p.disk) same_disk begins,
          );
        }

    pub opens_reading : (new : Meaning) → Throughout (StepsFrom (BeginsScan (length mid.held.disk)) mid) mid new → Throughout (OpensFrom old) old new
    opens_reading new reading =
        throughout_join old mid new (OpensFrom old) opens_adopting (throughout_map mid new (StepsFrom (BeginsScan (length mid.held.disk)) mid) (OpensFrom old) recovery_opens reading)

-- ---- of the fault that a start tells

abbrev refused : OpenFault → Result Opened OpenFault
refused e = Err e

same_fault : (e f : OpenFault) → refused e ≡ refused f → e ≡ f
same_fault e f same = cc

module _ (result : Result Opened OpenFault) (e told : OpenFault) (is : result ≡ refused e) (same : e ≡ told) where
  pub never_told : told ≢ fault.DiskDamaged → result ≢ refused fault.DiskDamaged
  never_told other = λ damaged. other (sym same ∙ same_fault e fault.DiskDamaged (sym is ∙ damaged))

  pub kept_as : (old new : Meaning) → KeepsDisks old new (Err told) → KeepsDisks old new result
  kept_as old new kept = subst (λ (r : Result Opened OpenFault). KeepsDisks old new r) (sym (is ∙ ap refused same)) kept

-- an adoption tells no damage
pub never_adopting : (f : AdoptFault) → told_of_adopt f ≢ fault.DiskDamaged
never_adopting adopting.RegionFault = λ e. absurd cc
never_adopting adopting.NoMemory = λ e. absurd cc

-- and a recovery tells one only where it found one
pub never_damaged : (f : RecoveryFault) → f ≢ found.DiskDamaged → told_of_recovery f ≢ fault.DiskDamaged
never_damaged found.DiskFault other = λ e. absurd cc
never_damaged found.DiskDamaged other = λ e. other refl
never_damaged (found.Stranger name) other = λ e. absurd cc
never_damaged found.NoMemory other = λ e. absurd cc

pub kept_adopting : (old new : Meaning) (f : AdoptFault) → Ended SameDisk old new → KeepsDisks old new (Err (told_of_adopt f))
kept_adopting old new adopting.RegionFault kept = kept
kept_adopting old new adopting.NoMemory kept = tt

pub kept_reading : (old new : Meaning) (f : RecoveryFault) → KeepsDisks old new (Err (told_of_recovery f))
kept_reading old new found.DiskFault = tt
kept_reading old new found.DiskDamaged = tt
kept_reading old new (found.Stranger name) = tt
kept_reading old new found.NoMemory = tt
