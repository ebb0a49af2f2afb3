-- A disk has one log, and a record behind its end makes it longer by that record.
use Rattle.std.proofs.Common.{◌≡◌, ◌⊎◌, inl, inr, ℕ, ◌+◌, ◌<◌, ◌≤◌, List, [], ◌∷◌, ◌++◌, length, get_or, drop, refl, sym, ap, subst, ◌∙◌, append_assoc, length-append, arith}
use Rattle.std.specs.Prelude.{◌≢◌}
use Rattle.std.specs.List.{AllByRecursion}
use Rattle.std.proofs.lemmas.Bool.{cases_lt}
use Rattle.std.proofs.lemmas.List.{append-nil}
use Rattle.std.proofs.lemmas.List.Concat.{flat_map-cons, flat_map-append}
use Rattle.row_records.specs.Records.{LogRecord, IsRecord, record_bytes}
use Rattle.row_records.proofs.Once.{one_record}
use Rattle.disk_backup.specs.Logs.{IsLog, is_short, is_closed, ClosedLog, open_records, OneLog, OneRecordMore, ClosedIsLog, LogIsClosed}

-- ---- a disk has one log

pub one_head : (a b : ℕ) (x y : List ℕ) → a ∷ x ≡ b ∷ y → (a ≡ b) × (x ≡ y)
one_head a b x y e = (ap (λ (l : List ℕ). get_or l 0 0) e, ap (drop 1) e)

pub open_cons : (r : LogRecord) (records : List LogRecord) (x : List ℕ) → open_records (r ∷ records) ++ x ≡ 1 ∷ (record_bytes r ++ (open_records records ++ x))
open_cons r records x = ap (λ (l : List ℕ). l ++ x) (flat_map-cons (λ (s : LogRecord). 1 ∷ record_bytes s) r records) ∙ append_assoc (1 ∷ record_bytes r) (open_records records) x

pub same_records : (records others : List LogRecord) (gate other : ℕ) (x y : List ℕ) → AllByRecursion IsRecord records → AllByRecursion IsRecord others → gate ≢ 1 → other ≢ 1
    → open_records records ++ gate ∷ x ≡ open_records others ++ other ∷ y → records ≡ others
same_records [] [] gate other x y each all shut closed e = refl
same_records [] (s ∷ others) gate other x y each all shut closed e = absurd (shut (one_head gate 1 x (record_bytes s ++ (open_records others ++ other ∷ y)) (e ∙ open_cons s others (other ∷ y))).0)
same_records (r ∷ records) [] gate other x y each all shut closed e = absurd (closed (one_head other 1 y (record_bytes r ++ (open_records records ++ gate ∷ x)) (sym e ∙ open_cons r records (gate ∷ x))).0)
same_records (r ∷ records) (s ∷ others) gate other x y each all shut closed e =
    let tails = (one_head 1 1 (record_bytes r ++ (open_records records ++ gate ∷ x)) (record_bytes s ++ (open_records others ++ other ∷ y)) (sym (open_cons r records (gate ∷ x)) ∙ e ∙ open_cons s others (other ∷ y))).1 in
    let first = one_record r s (open_records records ++ gate ∷ x) (open_records others ++ other ∷ y) each.0 all.0 tails in
    let rest = same_records records others gate other x y each.1 all.1 shut closed first.1 in
    ap (λ (q : LogRecord). q ∷ records) first.0 ∙ ap (λ (l : List LogRecord). s ∷ l) rest

pub one_log : OneLog
one_log disk records others end other (is_short a b c) (is_short d e f) = (b ∙ sym e, c ∙ sym f)
one_log disk records others end other (is_short a b c) (is_closed log long) = absurd (omega (arith, a, long))
one_log disk records others end other (is_closed log long) (is_short a b c) = absurd (omega (arith, a, long))
one_log disk records others end other (is_closed a long) (is_closed b longer) =
    let same = same_records records others a.gate b.gate a.rest b.rest a.each b.each a.shut b.shut (sym a.is ∙ b.is) in
    (same, a.end_is ∙ ap (λ (l : List LogRecord). length (open_records l)) same ∙ sym b.end_is)

-- ---- one record more

pub open_snoc : (records : List LogRecord) (r : LogRecord) → open_records (records ++ r ∷ []) ≡ open_records records ++ 1 ∷ record_bytes r
open_snoc records r =
    flat_map-append (λ (s : LogRecord). 1 ∷ record_bytes s) records (r ∷ []) ∙ ap (λ (l : List ℕ). open_records records ++ l) (flat_map-cons (λ (s : LogRecord). 1 ∷ record_bytes s) r [] ∙ append-nil (1 ∷ record_bytes r))

pub all_snoc : (records : List LogRecord) (r : LogRecord) → AllByRecursion IsRecord records → IsRecord r → AllByRecursion IsRecord (records ++ r ∷ [])
all_snoc [] r each is = (is, tt)
all_snoc (s ∷ records) r each is = (each.0, all_snoc records r each.1 is)

pub end_snoc : (records : List LogRecord) (r : LogRecord) → length (open_records (records ++ r ∷ [])) ≡ length (open_records records) + 1 + length (record_bytes r)
end_snoc records r = omega (arith, ap length (open_snoc records r), length-append (open_records records) (1 ∷ record_bytes r))

pub one_record_more : OneRecordMore
one_record_more records r gate rest each is shut =
    let bytes : open_records records ++ 1 ∷ (record_bytes r ++ gate ∷ rest) ≡ open_records (records ++ r ∷ []) ++ gate ∷ rest =
    sym (append_assoc (open_records records) (1 ∷ record_bytes r) (gate ∷ rest)) ∙ ap (λ (l : List ℕ). l ++ gate ∷ rest) (sym (open_snoc records r)) in
    is_closed (record { gate = gate; rest = rest; each = all_snoc records r each is; is = bytes; shut = shut; end_is = sym (end_snoc records r) })
    (omega (arith, length-append (open_records records) (1 ∷ (record_bytes r ++ gate ∷ rest)), length-append (record_bytes r) (gate ∷ rest)))

-- ---- a log with a gate at its end

no_records : (records : List LogRecord) → length (open_records records) ≡ 0 → records ≡ []
no_records [] e = refl
no_records (r ∷ records) e = absurd (omega (arith, e, ap length (open_cons r records []), length-append (open_records (r ∷ records)) []))

pub closed_is_log : ClosedIsLog
closed_is_log disk records end closed = log (cases_lt 1 (length disk))
  where
    size : length disk ≡ length (open_records records) + 1 + length closed.rest
    size = ap length closed.is ∙ omega (arith, length-append (open_records records) (closed.gate ∷ closed.rest))

    log : (1 < length disk) ⊎ (length disk ≤ 1) → IsLog disk records end
    log (inl long) = is_closed closed long
    log (inr short) = is_short short (no_records records (omega (arith, size, short))) (omega (arith, closed.end_is, size, short))

pub log_is_closed : LogIsClosed
log_is_closed disk records end (is_short short none at) inside shut = only disk inside shut
  where
    only : (disk : List ℕ) → end < length disk → get_or disk end 1 ≢ 1 → ClosedLog records end disk
    only [] inside shut = absurd (omega (arith, inside))
    only (b ∷ rest) inside shut = record {
      gate = b;
      rest = rest;
      each = subst (AllByRecursion IsRecord) (sym none) tt;
      is = sym (ap (λ (l : List LogRecord). open_records l ++ b ∷ rest) none);
      shut = subst (λ (n : ℕ). get_or (b ∷ rest) n 1 ≢ 1) at shut;
      end_is = at ∙ sym (ap (λ (l : List LogRecord). length (open_records l)) none);
    }
log_is_closed disk records end (is_closed log long) inside shut = log
