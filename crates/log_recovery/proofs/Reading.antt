-- How far a log was read, and why not further.
use Rattle.std.proofs.Common.{◌≡◌, ℕ, zero, suc, ◌<◌, ◌≤◌, ◌^◌, inl, inr, Bool, false, List, [], ◌∷◌, ◌++◌, length, take, drop, min, None, refl, sym, ap, subst, ◌∙◌, length-append, arith}
use Rattle.std.specs.Prelude.{IfErr, IsTrue, Result, Ok, Err}
use Rattle.std.specs.List.{AllByRecursion}
use Rattle.std.proofs.lemmas.Bool.{cases_lt}
use Rattle.std.proofs.lemmas.List.{take-append-le, take_all, take_min}
use Rattle.leaf_model.specs.declared.writes.Write.{Write}
use Rattle.leaf_model.specs.Content.{content}
use Rattle.row_records.specs.Records.{LogRecord}
use Rattle.table_state.specs.Tables.{Table}
use Rattle.disk_backup.specs.declared.step.FlushRecord.{FlushRecord}
use Rattle.disk_backup.specs.declared.step.LogStep.TheVariants.{Record}
use Rattle.disk_backup.specs.Logs.{ClosedLog, IsSound, open_records, writes_of}
use Rattle.disk_backup.specs.State.{LogState, ScanState}
use Rattle.disk_backup.specs.Scanning.{Scanned, StepIs, ScansOn, scanned_disk, record_is}
use Rattle.disk_backup.proofs.Logs.{end_snoc}
use Rattle.disk_backup.proofs.Beginning.{begun_short, begun_long}
use Rattle.disk_backup.proofs.Scanned.{never_damaged, scanned_is_front}
use Rattle.log_recovery.specs.declared.fault.RecoveryFault.{RecoveryFault}
use Rattle.log_recovery.specs.declared.fault.RecoveryFault.TheVariants.{DiskDamaged, DiskFault, NoMemory, Stranger}
use Rattle.log_recovery.specs.Recovery.{AreFew, IfRead, IsRecovered, IsTooLong, IsRecoveryRefusal, recovered_tables}
use Rattle.log_recovery.specs.Applying.{HasApplied, Reached, count_of}
use Rattle.disk_backup.proofs.SoundLogs.{writes_append}
use Rattle.log_recovery.proofs.Applying.{few_writes, count_more}

-- a log that ends here and is owed nothing
abbrev log_ended : ℕ → LogState
log_ended end = record { end = end; owed = None; laid = false }

module _ (names : List (List ℕ)) (tells : Bool) (disk : List ℕ) where
  -- ---- the first gate

  pub reached_none : (scan : ScanState) → scan.at ≡ 0 → (IsTrue tells → (scan.len ≡ length disk) × (0 < length disk)) → (columns : List ℕ) → AreFew names [] columns → Reached names tells disk scan (recovered_tables names []) columns
  reached_none scan start whole columns columns_few = record {
    records = [];
    applied = record {
      known = refl;
      bounded = λ name k. let none : take k (writes_of name []) ≡ [] = take_all k [] (omega arith) in subst (λ (l : List Write). length (content l).rows ≤ 2 ^ 40) (sym none) (omega arith);
      tables_are = refl;
    };
    columns_few = columns_few;
    few = omega arith;
    scanned = λ told. record { rest = disk; each = tt; is = refl; at_is = start; some = (whole told).1 };
    len = λ told. (whole told).0;
  }

  module _ (scan : ScanState) (tables : List Table) (columns : List ℕ) (so_far : Reached names tells disk scan tables columns) where
    -- ---- one record more

    pub reached_more : (later : ScanState) (flush : FlushRecord) (now : List Table) (counts : List ℕ)
        → (IsTrue tells → StepIs disk so_far.records scan.len (Record later flush)) → ScansOn scan (Record later flush)
        → HasApplied names (so_far.records ++ record_is flush ∷ []) now → AreFew names (so_far.records ++ record_is flush ∷ []) counts → Reached names tells disk later now counts
    reached_more later flush now counts step goes applied columns_few = record {
      records = so_far.records ++ record_is flush ∷ [];
      applied = applied;
      columns_few = columns_few;
      few = omega (arith, so_far.few, goes.0, count_more so_far.records (record_is flush));
      scanned = λ told. (step told).0;
      len = λ told. (step told).1 ∙ so_far.len told;
    }

    -- the log's end was reached
    pub reached_end : IsTrue tells → (log : LogState) → ClosedLog so_far.records log.end disk → log ≡ log_ended scan.at → (x : IsRecovered names disk tables log) × AreFew names x.records columns
    reached_end told log closed is = (
      record {
        records = so_far.records;
        closed = closed;
        known = so_far.applied.known;
        bounded = so_far.applied.bounded;
        tables_are = so_far.applied.tables_are;
        log_is = is ∙ ap log_ended (sym (ap (λ (l : LogState). l.end) is));
      },
      so_far.columns_few,
    )

    abbrev IsSettled : Table → Type 0
    IsSettled t = (t.pending ≡ None) × (t.writes < 2 ^ 63)

    each_settled : (ns : List (List ℕ)) → count_of so_far.records < 2 ^ 63 → AllByRecursion IsSettled (recovered_tables ns so_far.records)
    each_settled [] few = tt
    each_settled (n ∷ ns) few = ((refl, omega (arith, few, few_writes n so_far.records)), each_settled ns few)

    -- at the end each write was counted by a byte
    pub settled : scan.at < 2 ^ 63 → AllByRecursion IsSettled tables
    settled short = subst (AllByRecursion IsSettled) (sym so_far.applied.tables_are) (each_settled names (omega (arith, short, so_far.few)))

-- ---- a log that is sound

nothing_there : (n : ℕ) (x : List ℕ) → drop n (0 ∷ []) ≡ 1 ∷ x → ⊥
nothing_there zero x e = cc
nothing_there (suc zero) x e = cc
nothing_there (suc (suc n)) x e = cc

short_whole : (records : List LogRecord) (r : LogRecord) (at : ℕ) → Scanned (0 ∷ []) (records ++ r ∷ []) at → ⊥
short_whole records r at s = absurd (omega (arith, s.some, ap length s.is, length-append (open_records (records ++ r ∷ [])) s.rest, end_snoc records r))

never_too_long : (disk : List ℕ) (records : List LogRecord) (r : LogRecord) (at : ℕ) → IsSound disk → Scanned disk (records ++ r ∷ []) at → IsTooLong records r → ⊥
never_too_long disk records r at sound s long =
    let whole = records ++ r ∷ [] in
    let front = scanned_is_front disk whole sound.0 at sound.1 s sound.2 in
    let had = writes_of r.name whole in
    let k = min long.0 (length had) in
    let all : writes_of r.name sound.0 ≡ had ++ writes_of r.name front.0 = ap (writes_of r.name) front.1 ∙ writes_append r.name whole front.0 in
    let same : take k (writes_of r.name sound.0) ≡ take long.0 had =
    ap (take k) all ∙ take-append-le k had (writes_of r.name front.0) (omega arith) ∙ take_min long.0 had in
    let few = subst (λ (l : List Write). length (content l).rows ≤ 2 ^ 40) same (sound.3 r.name k) in
    absurd (omega (arith, few, long.1))

never_refused_long : (names : List (List ℕ)) (disk : List ℕ) → IsSound disk → 1 < length disk → IsRecoveryRefusal names disk DiskDamaged → ⊥
never_refused_long names disk sound long (inl cut) = never_damaged disk cut.records sound.0 cut.at sound.1 long sound.2 cut.scanned cut.damaged
never_refused_long names disk sound long (inr passed) = never_too_long disk passed.0 passed.1 passed.2.at sound passed.2.scanned passed.4

never_refused_short : (names : List (List ℕ)) → IsRecoveryRefusal names (0 ∷ []) DiskDamaged → ⊥
never_refused_short names (inl cut) = nothing_there cut.at cut.damaged.rest cut.damaged.opened
never_refused_short names (inr passed) = short_whole passed.0 passed.1 passed.2.at passed.2.scanned

-- of a sound log no damage is told
pub never_refused : (names : List (List ℕ)) (disk : List ℕ) → IsSound disk → IsRecoveryRefusal names (scanned_disk disk) DiskDamaged → ⊥
never_refused names disk sound refused = elim (cases_lt 1 (length disk)) [
  | inl long ↦ never_refused_long names disk sound long (subst (λ (d : List ℕ). IsRecoveryRefusal names d DiskDamaged) (begun_long disk long) refused)
  | inr short ↦ never_refused_short names (subst (λ (d : List ℕ). IsRecoveryRefusal names d DiskDamaged) (begun_short disk short) refused)
]

-- ---- for the answers

abbrev failed : {T : Type 0} → RecoveryFault → Result T RecoveryFault
failed a = Err a

pub err_is : {T : Type 0} (a b : RecoveryFault) → failed {T = T} a ≡ failed {T = T} b → a ≡ b
err_is a b e = cc

if_read : (e : RecoveryFault) (P : Type 0) → P → IfRead e P
if_read (Stranger name) P p = p
if_read DiskDamaged P p = p
if_read DiskFault P p = tt
if_read NoMemory P p = tt

pub err_read : {T : Type 0} (result : Result T RecoveryFault) (P : Type 0) → P → IfErr result (λ e. IfRead e P)
err_read (Ok x) P p = tt
err_read (Err e) P p = if_read e P p
