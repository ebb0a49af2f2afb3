-- One log on each disk goes on through a settle.
use Rattle.std.proofs.Common.{◌≡◌, ◌⊎◌, inl, inr, ◌∙◌, List, ℕ, [], ◌∷◌, ◌++◌, Bool, true, false, cond, Option, Some, None, refl, sym, ap, append_assoc, append-nil}
use Rattle.std.specs.Prelude.{Result, bytes_eq}
use Rattle.leaf_model.specs.declared.writes.Write.{Write}
use Rattle.row_records.specs.Records.{LogRecord}
use Rattle.berth_face.specs.Berth.{Pair, Meaning}
use Rattle.berth_face.proofs.Moments.{throughout_map}
use Rattle.disk_backup.specs.Logs.{writes_of}
use Rattle.disk_backup.specs.State.{LogState}
use Rattle.disk_backup.specs.Settling.{with_owed, end_with, WithOwed, WithOrWithout, Comes, Settled, with_writes, HasLog, HaveLog, KeepsLog}
use Rattle.disk_backup.proofs.Results.{on_ok_map, on_err_map}

-- the writes of a record more
writes_snoc : (name : List ℕ) (records : List LogRecord) (r : LogRecord) → writes_of name (records ++ r ∷ []) ≡ with_writes (Some r) (λ (n : List ℕ). writes_of n records) name
writes_snoc name [] r = last_of (bytes_eq name r.name)
  where
    last_of : (b : Bool) → cond b (r.writes ++ []) [] ≡ cond b ([] ++ r.writes) []
    last_of true = append-nil r.writes
    last_of false = refl
writes_snoc name (s ∷ records) r = step (bytes_eq name s.name) (bytes_eq name r.name) (writes_snoc name records r)
  where
    step : (b c : Bool) → writes_of name (records ++ r ∷ []) ≡ cond c (writes_of name records ++ r.writes) (writes_of name records)
        → cond b (s.writes ++ writes_of name (records ++ r ∷ [])) (writes_of name (records ++ r ∷ []))
        ≡ cond c (cond b (s.writes ++ writes_of name records) (writes_of name records) ++ r.writes) (cond b (s.writes ++ writes_of name records) (writes_of name records))
    step true true e = ap (λ (l : List Write). s.writes ++ l) e ∙ sym (append_assoc s.writes (writes_of name records) r.writes)
    step true false e = ap (λ (l : List Write). s.writes ++ l) e
    step false true e = e
    step false false e = e

writes_owed : (owed : Option LogRecord) (records : List LogRecord) (writes : List ℕ → List Write) (name : List ℕ) → writes_of name records ≡ writes name → writes_of name (with_owed owed records) ≡ with_writes owed writes name
writes_owed None records writes name same = same
writes_owed (Some r) records writes name same = writes_snoc name records r ∙ ap (λ (l : List Write). cond (bytes_eq name r.name) (l ++ r.writes) l) same

module _ (log : LogState) (writes : List ℕ → List Write) (old : Meaning) (have : HaveLog log writes old) where
  with_owed_has : (disk : List ℕ) (records : List LogRecord) → ((name : List ℕ) → writes_of name records ≡ writes name) → WithOwed log records disk → HasLog (with_writes log.owed writes) (end_with log) disk
  with_owed_has disk records same had = (with_owed log.owed records, had, λ name. writes_owed log.owed records writes name (same name))

  ever : (p : Pair) → Comes log (WithOrWithout log) old p → HasLog writes log.end p.disk ⊎ HasLog (with_writes log.owed writes) (end_with log) p.disk
  ever p came =
      let had = have came.from came.before in
      elim (came.disk had.0 had.1) [
        | inl without ↦ inl (had.0, without, had.2)
        | inr whole ↦ inr (with_owed_has p.disk had.0 had.2 whole)
      ]

  pub keeps_log : {T E : Type 0} (later : LogState) (result : Result T E) (new : Meaning) → Settled log later result old new → KeepsLog log later writes result old new
  keeps_log later result new settled = record {
    moments = throughout_map old new (Comes log (WithOrWithout log) old) (λ p. HasLog writes log.end p.disk ⊎ HasLog (with_writes log.owed writes) (end_with log) p.disk) ever settled.moments;
    ok = on_ok_map result (λ each p left.
        let came = each p left in
        let had = have came.from came.before in
        with_owed_has p.disk had.0 had.2 (came.disk had.0 had.1)) settled.ok;
    err = on_err_map result (λ each p left.
        let came = each p left in
        let had = have came.from came.before in
        (had.0, came.disk had.0 had.1, had.2)) settled.err;
  }
