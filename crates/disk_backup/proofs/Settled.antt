-- From the bytes before a gate to the records that they are.
use Rattle.std.proofs.Common.{◌≡◌, inl, inr, ◌+◌, ◌∙◌, List, ℕ, [], ◌∷◌, ◌++◌, length, Bool, true, false, Option, Some, None, refl, sym, ap, subst, arith, length-append}
use Rattle.std.specs.Prelude.{Result, IsErr, IsOk, IsSome, IfSome}
use Rattle.std.specs.List.{AllByRecursion}
use Rattle.row_records.specs.Records.{LogRecord, IsRecord, record_bytes}
use Rattle.row_records.specs.Pending.{pending_bytes}
use Rattle.berth_face.specs.Berth.{Pair, Meaning}
use Rattle.berth_face.specs.Moments.{EachNow, Throughout}
use Rattle.berth_face.proofs.Moments.{throughout_map}
use Rattle.disk_backup.specs.Logs.{ClosedLog, open_records}
use Rattle.disk_backup.specs.State.{LogState}
use Rattle.disk_backup.specs.Gates.{ClosedAfter, OpenAfter, OwingAfter, EitherWay}
use Rattle.disk_backup.specs.Came.{Came}
use Rattle.disk_backup.specs.Settling.{HoldsOwing, HoldsLog, with_owed, WithOwed, WithOrWithout, Comes, Settled}
use Rattle.disk_backup.proofs.Bytes.{laid_either, open_closed}
use Rattle.disk_backup.proofs.Logs.{open_snoc, all_snoc}
use Rattle.disk_backup.proofs.Results.{on_ok, on_err, on_ok_err, on_err_ok, of_err, of_ok}

-- the records of a disk that owes this one, and the bytes before its gate
record Fronted (laid : Bool) (r : LogRecord) (end : ℕ) (records : List LogRecord) (disk : List ℕ) : Type 0 where
  each : AllByRecursion IsRecord records
  at : end ≡ length (open_records records)
  front : OwingAfter laid (pending_bytes (Some r)) (open_records records) disk

fronted : (laid : Bool) (r : LogRecord) (end : ℕ) (records : List LogRecord) (disk : List ℕ) → HoldsOwing (Some r) laid end records disk → Fronted laid r end records disk
fronted false r end records disk had = record { each = had.0.each; at = had.0.end_is; front = record { gate = had.0.gate; rest = had.0.rest; is = had.0.is; shut = had.0.shut } }
fronted true r end records disk had = record { each = had.each; at = had.end_is; front = record { gate = had.gate; rest = had.rest; is = had.is } }

holds : (laid : Bool) (r : LogRecord) (end : ℕ) (records : List LogRecord) (disk : List ℕ) → IsRecord r → AllByRecursion IsRecord records → end ≡ length (open_records records)
    → OwingAfter laid (pending_bytes (Some r)) (open_records records) disk → HoldsOwing (Some r) laid end records disk
holds false r end records disk is each at had = (record { gate = had.gate; rest = had.rest; each = each; is = had.is; shut = had.shut; end_is = at }, is)
holds true r end records disk is each at had = record { gate = had.gate; rest = had.rest; each = each; next_is = is; is = had.is; end_is = at }

closed : (end : ℕ) (records : List LogRecord) (disk : List ℕ) → AllByRecursion IsRecord records → end ≡ length (open_records records) → ClosedAfter (open_records records) disk → ClosedLog records end disk
closed end records disk each at had = record { gate = had.gate; rest = had.rest; each = each; is = had.is; shut = had.shut; end_is = at }

-- one record more, with its gate open
longer : (end : ℕ) (r : LogRecord) (records : List LogRecord) (disk : List ℕ) → IsRecord r → AllByRecursion IsRecord records → end ≡ length (open_records records)
    → ClosedAfter (open_records records ++ 1 ∷ record_bytes r) disk → ClosedLog (records ++ r ∷ []) (end + length (pending_bytes (Some r))) disk
longer end r records disk is each at had = record {
  gate = had.gate;
  rest = had.rest;
  each = all_snoc records r each is;
  is = had.is ∙ ap (λ (l : List ℕ). l ++ had.gate ∷ had.rest) (sym (open_snoc records r));
  shut = had.shut;
  end_is = omega (arith, at, ap length (open_snoc records r), length-append (open_records records) (1 ∷ record_bytes r), length-append (record_bytes r) (0 ∷ []));
}

-- ---- of a log that owes this record

module _ (log : LogState) (r : LogRecord) (is : IsRecord r) (owed : log.owed ≡ Some r) where
  pub comes : (A : List ℕ → List ℕ → Type 0) (after : List LogRecord → List ℕ → Type 0) (old : Meaning)
      → ((records : List LogRecord) (disk : List ℕ) → AllByRecursion IsRecord records → log.end ≡ length (open_records records) → A (open_records records) disk → after records disk)
      → (p : Pair) → Came log.end (OwingAfter log.laid (pending_bytes (Some r))) A old p → Comes log after old p
  comes A after old makes p came = record {
    from = came.from;
    before = came.was;
    region = came.region;
    disk = λ records had.
        let f = fronted log.laid r log.end records came.from.disk (subst (λ (o : Option LogRecord). HoldsOwing o log.laid log.end records came.from.disk) owed had) in
        makes records p.disk f.each f.at (came.disk (open_records records) f.at f.front);
  }

  more : (records : List LogRecord) (disk : List ℕ) → AllByRecursion IsRecord records → log.end ≡ length (open_records records) → ClosedAfter (open_records records ++ 1 ∷ record_bytes r) disk → WithOwed log records disk
  more records disk each at had =
      subst (λ (o : Option LogRecord). ClosedLog (with_owed o records) (log.end + length (pending_bytes o)) disk) (sym owed) (longer log.end r records disk is each at had)

  pub either : (records : List LogRecord) (disk : List ℕ) → AllByRecursion IsRecord records → log.end ≡ length (open_records records) → EitherWay (pending_bytes (Some r)) (open_records records) disk → WithOrWithout log records disk
  either records disk each at (inl had) = inl (closed log.end records disk each at had)
  either records disk each at (inr had) = elim (laid_either (open_records records) (record_bytes r) disk had) [
    | inl shut ↦ inl (closed log.end records disk each at shut)
    | inr open_now ↦ inr (more records disk each at open_now)
  ]

  pub opened : (records : List LogRecord) (disk : List ℕ) → AllByRecursion IsRecord records → log.end ≡ length (open_records records) → OpenAfter (open_records records) (pending_bytes (Some r)) disk → WithOwed log records disk
  opened records disk each at had = more records disk each at (open_closed (open_records records) (record_bytes r) disk had)

  pub still : (later : LogState) → later.owed ≡ log.owed → later.end ≡ log.end
      → (records : List LogRecord) (disk : List ℕ) → AllByRecursion IsRecord records → log.end ≡ length (open_records records) → OwingAfter later.laid (pending_bytes (Some r)) (open_records records) disk → HoldsLog later records disk
  still later same_owed same_end records disk each at had =
      subst (λ (o : Option LogRecord). HoldsOwing o later.laid later.end records disk) (sym (same_owed ∙ owed)) (holds later.laid r later.end records disk is each (same_end ∙ at) had)

  pub settled_ok : {T E : Type 0} (result : Result T E) (later : LogState) (old new : Meaning) → IsOk result
      → Throughout (Came log.end (OwingAfter log.laid (pending_bytes (Some r))) (EitherWay (pending_bytes (Some r))) old) old new
      → EachNow (Came log.end (OwingAfter log.laid (pending_bytes (Some r))) (λ front. OpenAfter front (pending_bytes (Some r))) old) new
      → Settled log later result old new
  settled_ok result later old new good moments now = record {
    moments = throughout_map old new (Came log.end (OwingAfter log.laid (pending_bytes (Some r))) (EitherWay (pending_bytes (Some r))) old) (Comes log (WithOrWithout log) old) (comes (EitherWay (pending_bytes (Some r))) (WithOrWithout log) old either) moments;
    ok = on_ok result (λ p left. comes (λ front. OpenAfter front (pending_bytes (Some r))) (WithOwed log) old opened p (now p left));
    err = on_err_ok (EachNow (Comes log (HoldsLog later) old) new) result good;
  }

  pub settled_err : {T E : Type 0} (result : Result T E) (later : LogState) (old new : Meaning) → IsErr result → later.owed ≡ log.owed → later.end ≡ log.end
      → Throughout (Came log.end (OwingAfter log.laid (pending_bytes (Some r))) (EitherWay (pending_bytes (Some r))) old) old new
      → EachNow (Came log.end (OwingAfter log.laid (pending_bytes (Some r))) (OwingAfter later.laid (pending_bytes (Some r))) old) new
      → Settled log later result old new
  settled_err result later old new bad same_owed same_end moments now = record {
    moments = throughout_map old new (Came log.end (OwingAfter log.laid (pending_bytes (Some r))) (EitherWay (pending_bytes (Some r))) old) (Comes log (WithOrWithout log) old) (comes (EitherWay (pending_bytes (Some r))) (WithOrWithout log) old either) moments;
    ok = on_ok_err (EachNow (Comes log (WithOwed log) old) new) result bad;
    err = on_err result (λ p left. comes (OwingAfter later.laid (pending_bytes (Some r))) (HoldsLog later) old (still later same_owed same_end) p (now p left));
  }

module _ (log : LogState) (bytes : List ℕ) (old new : Meaning) where
  done_by : {T E : Type 0} (result : Result T E) (later : LogState) (owed : Option LogRecord) → log.owed ≡ owed → IsSome owed → IfSome owed IsRecord → bytes ≡ pending_bytes owed → IsOk result
      → Throughout (Came log.end (OwingAfter log.laid bytes) (EitherWay bytes) old) old new
      → EachNow (Came log.end (OwingAfter log.laid bytes) (λ front. OpenAfter front bytes) old) new
      → Settled log later result old new
  done_by result later None e some is of good moments now = absurd cc
  done_by result later (Some r) e some is of good moments now =
      settled_ok log r is e result later old new good
      (subst (λ (w : List ℕ). Throughout (Came log.end (OwingAfter log.laid w) (EitherWay w) old) old new) of moments)
      (subst (λ (w : List ℕ). EachNow (Came log.end (OwingAfter log.laid w) (λ front. OpenAfter front w) old) new) of now)

  failed_by : {T E : Type 0} (result : Result T E) (later : LogState) (owed : Option LogRecord) → log.owed ≡ owed → IsSome owed → IfSome owed IsRecord → bytes ≡ pending_bytes owed → IsErr result → later.owed ≡ log.owed → later.end ≡ log.end
      → Throughout (Came log.end (OwingAfter log.laid bytes) (EitherWay bytes) old) old new
      → EachNow (Came log.end (OwingAfter log.laid bytes) (OwingAfter later.laid bytes) old) new
      → Settled log later result old new
  failed_by result later None e some is of bad same_owed same_end moments now = absurd cc
  failed_by result later (Some r) e some is of bad same_owed same_end moments now =
      settled_err log r is e result later old new bad same_owed same_end
      (subst (λ (w : List ℕ). Throughout (Came log.end (OwingAfter log.laid w) (EitherWay w) old) old new) of moments)
      (subst (λ (w : List ℕ). EachNow (Came log.end (OwingAfter log.laid w) (OwingAfter later.laid w) old) new) of now)

  pub settled_done : {T E : Type 0} (result : Result T E) (later : LogState) → IsSome log.owed → IfSome log.owed IsRecord → bytes ≡ pending_bytes log.owed → IsOk result
      → Throughout (Came log.end (OwingAfter log.laid bytes) (EitherWay bytes) old) old new
      → EachNow (Came log.end (OwingAfter log.laid bytes) (λ front. OpenAfter front bytes) old) new
      → Settled log later result old new
  settled_done result later some is of good moments now = done_by result later log.owed refl some is of good moments now

  pub settled_failed : {T E : Type 0} (result : Result T E) (later : LogState) → IsSome log.owed → IfSome log.owed IsRecord → bytes ≡ pending_bytes log.owed → IsErr result → later.owed ≡ log.owed → later.end ≡ log.end
      → Throughout (Came log.end (OwingAfter log.laid bytes) (EitherWay bytes) old) old new
      → EachNow (Came log.end (OwingAfter log.laid bytes) (OwingAfter later.laid bytes) old) new
      → Settled log later result old new
  settled_failed result later some is of bad same_owed same_end moments now = failed_by result later log.owed refl some is of bad same_owed same_end moments now

-- what holds of one result holds of another that ends as it does
pub settled_ok_again : {T U E F : Type 0} (log later : LogState) (first : Result T E) (second : Result U F) (old new : Meaning) → IsOk first → IsOk second → Settled log later first old new → Settled log later second old new
settled_ok_again log later first second old new good fine had = record {
  moments = had.moments;
  ok = on_ok second (of_ok first good had.ok);
  err = on_err_ok (EachNow (Comes log (HoldsLog later) old) new) second fine;
}

pub settled_err_again : {T U E F : Type 0} (log later : LogState) (first : Result T E) (second : Result U F) (old new : Meaning) → IsErr first → IsErr second → Settled log later first old new → Settled log later second old new
settled_err_again log later first second old new bad worse had = record {
  moments = had.moments;
  ok = on_ok_err (EachNow (Comes log (WithOwed log) old) new) second worse;
  err = on_err second (of_err first bad had.err);
}
