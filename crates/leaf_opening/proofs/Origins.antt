-- Where what is opened comes from.
use Rattle.std.proofs.Common.{◌≡◌, ◌∙◌, ℕ, false, List, None, sym, subst}
use Rattle.berth_face.specs.Berth.{Meaning}
use Rattle.table_state.specs.Tables.{HeldTables}
use Rattle.adopt.specs.declared.found.Adopted.{Adopted}
use Rattle.adopt.specs.declared.found.Adoption.TheVariants.{Tables}
use Rattle.leaf_words.specs.declared.ways.WhyDisk.{WhyDisk}
use Rattle.adopt.specs.Adopting.{IsLeftBehind, IsWhy}
use Rattle.adopt.specs.Starting.{IsAdoption}
use Rattle.disk_backup.specs.State.{LogState}
use Rattle.disk_backup.specs.Scanning.{scanned_disk}
use Rattle.log_recovery.specs.Recovery.{AreFew, IsRecovered}
use Rattle.leaf_words.specs.declared.ways.Way.{Way}
use Rattle.leaf_words.specs.declared.ways.Way.TheVariants.{Memory, Disk}
use Rattle.leaf_opening.specs.OpenedLeaf.{OpenedLeaf}
use Rattle.leaf_opening.specs.Starts.{StartEnded, IsCome, disk_after}

-- a log that ends here and is owed nothing
abbrev pub log_at : ℕ → LogState
log_at end = record { end = end; owed = None; laid = false }

-- a log that reads as this disk gave these tables, with few columns, and is this log then
abbrev pub IsReadTo : List (List ℕ) → List ℕ → HeldTables → LogState → Type 0
IsReadTo names disk tables log = (x : IsRecovered names disk tables.each log) × AreFew names x.records tables.columns

module _ (names : List (List ℕ)) (tables : HeldTables) (log : LogState) where
  abbrev pub served : OpenedLeaf
  served = record { names = names; tables = tables.each; columns = tables.columns; log = log }

  module _ (way : Way) (old new : Meaning) (region : IsLeftBehind old.held.region new.held.region) where
    started_by : (w : Way) → way ≡ w → IsCome names old.held.region new.held.disk served w → new.held.disk ≡ disk_after w old.held.disk → StartEnded names old new served way
    started_by w is come disk = subst (λ (v : Way). StartEnded names old new served v) (sym is) (record { come = come; region = region; disk = disk })

    pub started_by_memory : (a : Adopted) → IsAdoption names old.held.region (Tables a) → tables ≡ a.tables → log ≡ log_at a.log_end → way ≡ Memory → new.held.disk ≡ old.held.disk → StartEnded names old new served way
    started_by_memory a found are at is disk = started_by Memory is (found.0, a.log_end, found.1, found.2, are ∙ found.3, at) disk

    pub started_by_disk : (w : WhyDisk) → IsWhy old.held.region w → IsReadTo names new.held.disk tables log → way ≡ Disk w → new.held.disk ≡ scanned_disk old.held.disk → StartEnded names old new served way
    started_by_disk w why read is disk = started_by (Disk w) is (why, read.0, read.1) disk

-- the same tables and the same log were recovered
pub recovered_as : (names : List (List ℕ)) (disk : List ℕ) {ts us : HeldTables} {l k : LogState} → ts ≡ us → l ≡ k → IsReadTo names disk ts l → IsReadTo names disk us k
recovered_as names disk {ts} {us} {l} {k} are is read = subst (λ (log : LogState). IsReadTo names disk us log) is (subst (λ (tables : HeldTables). IsReadTo names disk tables l) are read)

-- a start by the log is none by the region
pub not_by_memory : (way : Way) (w : WhyDisk) → way ≡ Disk w → way ≡ Memory → ⊥
not_by_memory way w is other = by w (sym is ∙ other)
  where
    by : (w : WhyDisk) → Disk w ≡ Memory → ⊥
    by w e = absurd cc
