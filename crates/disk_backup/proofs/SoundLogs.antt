-- What sound logs have of each name, how long the tables of their writes grow, and that the beginning of a recovery
-- leaves a log.
use Rattle.std.proofs.Common.{◌≡◌, inl, inr, ℕ, ◌≤◌, ◌^◌, ◌∙◌, Bool, true, false, cond, List, [], ◌∷◌, ◌++◌, length, take, min, refl, sym, ap, subst, arith, append_assoc}
use Rattle.std.specs.Str.{bytes_eq}
use Rattle.std.proofs.lemmas.Bool.{cases_lt}
use Rattle.std.proofs.lemmas.List.{take-append-le, take_all, take_min}
use Rattle.leaf_model.specs.declared.writes.Write.{Write}
use Rattle.leaf_model.specs.Content.{content}
use Rattle.row_records.specs.Records.{LogRecord}
use Rattle.disk_backup.specs.Logs.{IsLog, is_short, is_closed, IsBounded, ClosedLog, writes_of}
use Rattle.disk_backup.specs.Scanning.{BeginsScan, scanned_disk}
use Rattle.disk_backup.specs.SoundLogs.{HasSoundLog, HasFewRows}
use Rattle.disk_backup.proofs.Beginning.{begun_short, begun_long}
use Rattle.disk_backup.proofs.Logs.{one_log, closed_is_log}

-- ---- the writes of one name

pub writes_append : (name : List ℕ) (a b : List LogRecord) → writes_of name (a ++ b) ≡ writes_of name a ++ writes_of name b
writes_append name [] b = refl
writes_append name (s ∷ a) b = step (bytes_eq name s.name) (writes_append name a b)
  where
    step : (same : Bool) → writes_of name (a ++ b) ≡ writes_of name a ++ writes_of name b
        → cond same (s.writes ++ writes_of name (a ++ b)) (writes_of name (a ++ b)) ≡ cond same (s.writes ++ writes_of name a) (writes_of name a) ++ writes_of name b
    step true e = ap (λ (l : List Write). s.writes ++ l) e ∙ sym (append_assoc s.writes (writes_of name a) (writes_of name b))
    step false e = e

-- ---- how long a table grows

pub bounded_of : (records : List LogRecord) (writes : List ℕ → List Write) → ((name : List ℕ) → writes_of name records ≡ writes name) → ((name : List ℕ) → HasFewRows (writes name)) → IsBounded records
bounded_of records writes same short = λ name k. subst (λ (l : List Write). length (content (take k l)).rows ≤ 2 ^ 40) (sym (same name)) (short name k)

-- the first of the writes
pub shorter : (a b : List Write) → HasFewRows (a ++ b) → HasFewRows a
shorter a b short = λ k.
    let m = min k (length a) in
    let front : take m (a ++ b) ≡ take k a = take-append-le m a b (omega arith) ∙ take_min k a in
    subst (λ (l : List Write). length (content l).rows ≤ 2 ^ 40) front (short m)

abbrev pub no_writes : List Write
no_writes = []

pub none_short : HasFewRows no_writes
none_short = λ k.
    let none : take k no_writes ≡ no_writes = take_all k no_writes (omega arith) in
    subst (λ (l : List Write). length (content l).rows ≤ 2 ^ 40) (sym none) (omega arith)

-- ---- a disk of at most one byte

short_log : (disk : List ℕ) (records : List LogRecord) (end : ℕ) → length disk ≤ 1 → IsLog disk records end → (records ≡ []) × (end ≡ 0)
short_log disk records end short (is_short few none at) = (none, at)
short_log disk records end short (is_closed log long) = absurd (omega (arith, short, long))

begun_log : (disk : List ℕ) (records : List LogRecord) (end : ℕ) → IsLog disk records end → IsLog (scanned_disk disk) records end
begun_log disk records end log = elim (cases_lt 1 (length disk)) [
  | inl long ↦ subst (λ (d : List ℕ). IsLog d records end) (sym (begun_long disk long)) log
  | inr short ↦
      let none = short_log disk records end short log in
      subst (λ (d : List ℕ). IsLog d records end) (sym (begun_short disk short)) (is_short (omega arith) none.0 none.1)
]

module _ (writes : List ℕ → List Write) (disk : List ℕ) (had : HasSoundLog writes disk) where
  -- whatever became of its first byte, it has the same log
  pub sound_begins : (now : List ℕ) → BeginsScan (length disk) disk now → HasSoundLog writes now
  sound_begins now (inl same) = subst (HasSoundLog writes) (sym same) had
  sound_begins now (inr first) =
      let sound = had.sound in
      let none = short_log disk sound.0 sound.1 first.short sound.2 in
      record { sound = (sound.0, sound.1, is_short (omega (arith, first.short, first.torn.no_longer)) none.0 none.1, sound.3); each = had.each }

  -- the log that is read is the one that it had
  pub same_writes : (now : List ℕ) (records : List LogRecord) (end : ℕ) → now ≡ scanned_disk disk → ClosedLog records end now → (name : List ℕ) → writes_of name records ≡ writes name
  same_writes now records end is closed name =
      let whole = begun_log disk had.sound.0 had.sound.1 had.sound.2 in
      let read = closed_is_log (scanned_disk disk) records end (subst (ClosedLog records end) is closed) in
      let one = one_log (scanned_disk disk) records had.sound.0 end had.sound.1 read whole in
      ap (writes_of name) one.0 ∙ had.each name
