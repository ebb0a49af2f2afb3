-- What a disk's log has, with or without what it is owed.
use Rattle.std.proofs.Common.{◌≡◌, ◌⊎◌, inl, inr, ◌∙◌, ℕ, ◌+◌, Bool, true, false, cond, List, [], ◌∷◌, ◌++◌, length, Option, Some, None, sym, ap, subst, arith, append_assoc, append-nil}
use Rattle.std.specs.Prelude.{bytes_eq}
use Rattle.std.proofs.lemmas.Bool.{cases_eq}
use Rattle.leaf_model.specs.declared.writes.Write.{Write}
use Rattle.row_records.specs.Records.{LogRecord, record_bytes}
use Rattle.row_records.specs.Pending.{pending_bytes}
use Rattle.disk_backup.specs.Logs.{IsLog, ClosedLog, open_records, writes_of}
use Rattle.disk_backup.specs.Settling.{HasLog, HoldsOwing, LaidLog, with_writes}
use Rattle.disk_backup.proofs.Logs.{closed_is_log, one_log, one_record_more}
use Rattle.disk_backup.specs.SoundLogs.{HasSoundLog, HasFewRows}
use Rattle.disk_backup.proofs.SoundLogs.{bounded_of, shorter, writes_append}
use Rattle.crash_states.proofs.States.{with_more}

-- ---- the writes of a record more

pub writes_more : (records : List LogRecord) (r : LogRecord) (writes : List ℕ → List Write) → ((name : List ℕ) → writes_of name records ≡ writes name)
    → (name : List ℕ) → writes_of name (records ++ r ∷ []) ≡ with_writes (Some r) writes name
writes_more records r writes same name = writes_append name records (r ∷ []) ∙ ap (λ (l : List Write). l ++ writes_of name (r ∷ [])) (same name) ∙ last (bytes_eq name r.name)
  where
    last : (b : Bool) → writes name ++ cond b (r.writes ++ []) [] ≡ cond b (writes name ++ r.writes) (writes name)
    last true = ap (λ (l : List Write). writes name ++ l) (append-nil r.writes)
    last false = append-nil (writes name)

pub short_without : (owed : Option LogRecord) (writes : List ℕ → List Write) (name : List ℕ) → HasFewRows (with_writes owed writes name) → HasFewRows (writes name)
short_without owed writes name short =
    let more = with_more owed writes name in
    shorter (writes name) more.0 (subst HasFewRows more.1 short)

-- ---- with or without what the log is owed

module _ (writes : List ℕ → List Write) (disk : List ℕ) (records : List LogRecord) (same : (name : List ℕ) → writes_of name records ≡ writes name) where
  pub sound_closed : (end : ℕ) → ClosedLog records end disk → ((name : List ℕ) → HasFewRows (writes name)) → HasSoundLog writes disk
  sound_closed end closed short = record { sound = (records, end, closed_is_log disk records end closed, bounded_of records writes same short); each = same }

  -- the gate was opened before the record that is laid behind it
  pub sound_more : (r : LogRecord) (end : ℕ) (laid : LaidLog records r end disk) → laid.gate ≡ 1 → ((name : List ℕ) → HasFewRows (with_writes (Some r) writes name)) → HasSoundLog (with_writes (Some r) writes) disk
  sound_more r end laid opened short =
      let bytes : disk ≡ open_records records ++ 1 ∷ (record_bytes r ++ 0 ∷ laid.rest) =
      laid.is ∙ ap (λ (g : ℕ). open_records records ++ g ∷ (pending_bytes (Some r) ++ laid.rest)) opened ∙ ap (λ (l : List ℕ). open_records records ++ 1 ∷ l) (append_assoc (record_bytes r) (0 ∷ []) laid.rest) in
      let log_end = length (open_records records) + 1 + length (record_bytes r) in
      record {
        sound = (
          records ++ r ∷ [],
          log_end,
          subst (λ (d : List ℕ). IsLog d (records ++ r ∷ []) log_end) (sym bytes) (one_record_more records r 0 laid.rest laid.each laid.next_is (omega arith)),
          bounded_of (records ++ r ∷ []) (with_writes (Some r) writes) (writes_more records r writes same) short,
        );
        each = writes_more records r writes same;
      }

  pub sound_owing : (owed : Option LogRecord) (laid : Bool) (end : ℕ) → HoldsOwing owed laid end records disk → ((name : List ℕ) → HasFewRows (with_writes owed writes name))
      → HasSoundLog writes disk ⊎ HasSoundLog (with_writes owed writes) disk
  sound_owing None laid end holds short = inl (sound_closed end holds short)
  sound_owing (Some r) false end holds short = inl (sound_closed end holds.0 (λ name. short_without (Some r) writes name (short name)))
  sound_owing (Some r) true end holds short = elim (cases_eq holds.gate 1) [
    | inl opened ↦ inr (sound_more r end holds opened short)
    | inr shut ↦
        let closed : ClosedLog records end disk = record { gate = holds.gate; rest = pending_bytes (Some r) ++ holds.rest; each = holds.each; is = holds.is; shut = shut; end_is = holds.end_is } in
        inl (sound_closed end closed (λ name. short_without (Some r) writes name (short name)))
  ]

-- ---- a log that ends at a gate that is not open

pub sound_log : (writes : List ℕ → List Write) (end : ℕ) (disk : List ℕ) → HasLog writes end disk → ((name : List ℕ) → HasFewRows (writes name)) → HasSoundLog writes disk
sound_log writes end disk had short = sound_closed writes disk had.0 had.2 end had.1 short

-- the log that ends there is the disk's only one
pub same_log : (writes held : List ℕ → List Write) (end : ℕ) (disk : List ℕ) (had : HasLog writes end disk) (log : HasSoundLog held disk) → (log.sound.0 ≡ had.0) × (log.sound.1 ≡ end)
same_log writes held end disk had log = one_log disk log.sound.0 had.0 log.sound.1 end log.sound.2 (closed_is_log disk had.0 end had.1)
