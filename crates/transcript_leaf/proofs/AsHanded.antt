-- What refused starts leave of region and disk: what was handed, but for the flag of an open region and the first byte
-- of a disk of at most one.
use Rattle.std.proofs.Common.{◌≡◌, ◌∙◌, inl, inr, ℕ, ◌≤◌, List, [], ◌∷◌, ◌++◌, length, take, min, refl, sym, ap, subst, arith, length-append}
use Rattle.berth_face.specs.Berth.{Meaning}
use Rattle.row_records.specs.Records.{LogRecord}
use Rattle.region_head.proofs.Heads.{closed_head}
use Rattle.region_head.specs.Closing.{IsBroken}
use Rattle.adopt.specs.Adopting.{IsLeftBehind, IsStranger}
use Rattle.region_head.proofs.Closing.{untouched}
use Rattle.disk_backup.specs.Logs.{open_records}
use Rattle.disk_backup.specs.Scanning.{BeginsScan, FirstByte, Scanned, scanned_disk}
use Rattle.disk_backup.proofs.Logs.{end_snoc}
use Rattle.log_recovery.specs.Recovery.{IsRecoveryRefusal}
use Rattle.log_recovery.specs.declared.fault.RecoveryFault.TheVariants as found
use Rattle.leaf_opening.proofs.Regions.{broken_same, left_closed}
use Rattle.leaf_machine.specs.declared.faults.StartFault.{StartFault}
use Rattle.leaf_machine.specs.declared.faults.StartFault.TheVariants as fault
use Rattle.leaf_moves.specs.Steps.{RegionRefused}

-- ---- the region

left_as : (region now : List ℕ) → IsLeftBehind region now → IsBroken region now
left_as region now left = record { closed = left.closed; either = inr (left_closed region now left) }

pub refused_breaks : (f : StartFault) (m m' : Meaning) → RegionRefused f m m' → IsBroken m.held.region m'.held.region
refused_breaks fault.RegionFault m m' left = left
refused_breaks (fault.Worn table) m m' left = subst (λ (r : List ℕ). IsBroken m.held.region r) (sym left) (untouched m.held.region)
refused_breaks f m m' left = left_as m.held.region m'.held.region left

-- an image of a stranger is one that was handed: no flag of it was closed
pub region_named : (names : List (List ℕ)) (old now name : List ℕ) → IsBroken old now → IsStranger names now name → IsStranger names old name
region_named names old now name broken stranger =
    let same : now ≡ old = broken_same old now broken (λ closed. closed_head now closed stranger.0 stranger.3.head) in
    subst (λ (r : List ℕ). IsStranger names r name) same stranger

-- ---- the disk

none_of : (n : ℕ) → min 0 n ≡ 0
none_of n = omega arith

no_front : (disk : List ℕ) → take 0 disk ≡ []
no_front [] = refl
no_front (b ∷ disk) = refl

first_bytes : (a b c : List ℕ) → FirstByte (length a) a b → FirstByte (length b) b c → FirstByte (length a) a c
first_bytes a b c first second = record {
  short = first.short;
  synced = first.synced;
  torn = record {
    before = ap (λ (k : ℕ). take k c) (none_of (length a)) ∙ no_front c ∙ sym (no_front a);
    after = second.torn.after ∙ first.torn.after;
    no_shorter = omega (arith, first.torn.no_shorter, second.torn.no_shorter);
    no_longer = omega (arith, first.short, first.torn.no_longer, second.torn.no_longer);
  };
}

pub scan_on : (a b c : List ℕ) → BeginsScan (length a) a b → BeginsScan (length b) b c → BeginsScan (length a) a c
scan_on a b c (inl same) second = subst (λ (d : List ℕ). BeginsScan (length d) d c) same second
scan_on a b c (inr first) (inl same) = inr (subst (λ (d : List ℕ). FirstByte (length a) a d) (sym same) first)
scan_on a b c (inr first) (inr second) = inr (first_bytes a b c first second)

-- a disk of at most one byte has no record
no_record : (disk : List ℕ) (records : List LogRecord) (r : LogRecord) (at : ℕ) → length disk ≤ 1 → Scanned disk (records ++ r ∷ []) at → ⊥
no_record disk records r at short s =
    omega (arith, short, s.some, ap length s.is, length-append (open_records (records ++ r ∷ [])) s.rest, end_snoc records r)

-- a record of a stranger is one of the disk that was handed
pub log_named : (names : List (List ℕ)) (old now name : List ℕ) → BeginsScan (length old) old now → IsRecoveryRefusal names now (found.Stranger name) → IsRecoveryRefusal names old (found.Stranger name)
log_named names old now name (inl same) refusal = subst (λ (d : List ℕ). IsRecoveryRefusal names d (found.Stranger name)) same refusal
log_named names old now name (inr first) refusal =
    absurd (no_record now refusal.0 refusal.1 refusal.2.at (omega (arith, first.short, first.torn.no_longer)) refusal.2.scanned)

-- ---- the log that a start reads

begun_named : (names : List (List ℕ)) (disk name : List ℕ) → IsRecoveryRefusal names (scanned_disk disk) (found.Stranger name) → IsRecoveryRefusal names disk (found.Stranger name)
begun_named names [] name refusal = absurd (no_record (0 ∷ []) refusal.0 refusal.1 refusal.2.at (omega arith) refusal.2.scanned)
begun_named names (b ∷ []) name refusal = absurd (no_record (0 ∷ []) refusal.0 refusal.1 refusal.2.at (omega arith) refusal.2.scanned)
begun_named names (b ∷ c ∷ rest) name refusal = refusal

-- its strangers are those of the one that was handed
pub read_named : (names : List (List ℕ)) (old now name : List ℕ) → BeginsScan (length old) old now → IsRecoveryRefusal names (scanned_disk now) (found.Stranger name) → IsRecoveryRefusal names old (found.Stranger name)
read_named names old now name begins refusal = log_named names old now name begins (begun_named names now name refusal)

then_begun : (names : List (List ℕ)) (disk name : List ℕ) → IsRecoveryRefusal names disk (found.Stranger name) → IsRecoveryRefusal names (scanned_disk disk) (found.Stranger name)
then_begun names [] name refusal = absurd (no_record [] refusal.0 refusal.1 refusal.2.at (omega arith) refusal.2.scanned)
then_begun names (b ∷ []) name refusal = absurd (no_record (b ∷ []) refusal.0 refusal.1 refusal.2.at (omega arith) refusal.2.scanned)
then_begun names (b ∷ c ∷ rest) name refusal = refusal

pub then_read : (names : List (List ℕ)) (old now name : List ℕ) → BeginsScan (length old) old now → IsRecoveryRefusal names old (found.Stranger name) → IsRecoveryRefusal names (scanned_disk now) (found.Stranger name)
then_read names old now name (inl same) refusal = then_begun names now name (subst (λ (d : List ℕ). IsRecoveryRefusal names d (found.Stranger name)) (sym same) refusal)
then_read names old now name (inr first) refusal = absurd (no_record old refusal.0 refusal.1 refusal.2.at first.short refusal.2.scanned)
