-- The record at the front of some bytes, with a gate after it.
use Rattle.std.proofs.Common.{◌≡◌, ℕ, ◌+◌, ◌<◌, ◌≤◌, List, [], ◌∷◌, ◌++◌, length, get_or, take, drop, refl, sym, ap, subst, ◌∙◌, append_assoc, length-append, take-append-drop, length-drop, true, eqb, Option, Some, None, Result, Err, arith}
use Rattle.disk_backup.specs.declared.fault.LogFault.{LogFault}
use Rattle.std.proofs.lemmas.Bool.{eqb-true}
use Rattle.std.specs.Prelude.{◌≢◌, IfSome}
use Rattle.std.specs.List.{flat_map, AllByRecursion}
use Rattle.std.specs.Int.{w64, from_le_bytes}
use Rattle.std.proofs.lemmas.List.{take_at, drop_at, drop_more}
use Rattle.row_records.specs.declared.record_reader.Flush.{Flush}
use Rattle.leaf_model.specs.Bytes.{u64_bytes}
use Rattle.row_records.specs.Records.{LogRecord, IsRecord, record_body, record_bytes, record_read}
use Rattle.disk_backup.specs.Logs.{is_short, is_closed, ClosedLog, open_records}
use Rattle.leaf_model.proofs.Fields.{wide64}
use Rattle.row_records.proofs.Once.{one_record}
use Rattle.row_records.proofs.Pended.{writes_fit, size}
use Rattle.row_records.specs.Bytes.{write_bytes}
use Rattle.row_records.specs.Pending.{pending_bytes}
use Rattle.disk_backup.specs.Scanning.{Scanned, NoRecord, ScannedIsFront, LogIsWhole, size_at}
use Rattle.disk_backup.proofs.Logs.{one_head, open_cons, open_snoc, all_snoc, end_snoc}

record_size : (r : LogRecord) → length (record_bytes r) ≡ 8 + length (record_body r)
record_size r = omega (arith, length-append (u64_bytes (length (record_body r))) (record_body r))

-- how long a record at the front is can be read off
pub size_is : (r : LogRecord) (rest : List ℕ) → IsRecord r → size_at (record_bytes r ++ rest) ≡ length (record_bytes r)
size_is r rest is =
    let len = u64_bytes (length (record_body r)) in
    ap (λ (l : List ℕ). 8 + from_le_bytes w64 l) (ap (take 8) (append_assoc len (record_body r) rest) ∙ take_at len (record_body r ++ rest) 8 refl)
    ∙ ap (λ (n : ℕ). 8 + n) (wide64.again (length (record_body r)) is.whole) ∙ sym (record_size r)

-- too few bytes for what the length says
pub too_short : (bytes : List ℕ) → length bytes ≤ size_at bytes → NoRecord bytes
too_short bytes short r gate rest is e =
    let size : size_at bytes ≡ length (record_bytes r) = ap size_at e ∙ size_is r (gate ∷ rest) is in
    absurd (omega (arith, short, size, ap length e, length-append (record_bytes r) (gate ∷ rest)))

-- the bytes that the length says are no record
pub not_one : (bytes : List ℕ) → ((r : LogRecord) → IsRecord r → take (size_at bytes) bytes ≡ record_bytes r → ⊥) → NoRecord bytes
not_one bytes none r gate rest is e =
    let size : size_at bytes ≡ length (record_bytes r) = ap size_at e ∙ size_is r (gate ∷ rest) is in
    none r is (ap (λ (n : ℕ). take n bytes) size ∙ ap (take (length (record_bytes r))) e ∙ take_at (record_bytes r) (gate ∷ rest) (length (record_bytes r)) refl)

-- what stands at a place that was reached
pub here : (disk : List ℕ) (records : List LogRecord) (at : ℕ) (s : Scanned disk records at) → drop at disk ≡ s.rest
here disk records at s = ap (drop at) s.is ∙ drop_at (open_records records) s.rest at (sym s.at_is)

pub inside : (disk : List ℕ) (records : List LogRecord) (at : ℕ) → Scanned disk records at → at < length disk
inside disk records at s = omega (arith, s.at_is, s.some, ap length s.is, length-append (open_records records) s.rest)

-- one record further
pub further : (disk : List ℕ) (records : List LogRecord) (at : ℕ) (r : LogRecord) (tail : List ℕ) → Scanned disk records at → drop at disk ≡ 1 ∷ tail → IsRecord r
    → take (length (record_bytes r)) tail ≡ record_bytes r → length (record_bytes r) < length tail → Scanned disk (records ++ r ∷ []) (at + 1 + length (record_bytes r))
further disk records at r tail s opened is front long =
    let left = drop (length (record_bytes r)) tail in
    let parts : tail ≡ record_bytes r ++ left = sym (take-append-drop (length (record_bytes r)) tail) ∙ ap (λ (l : List ℕ). l ++ left) front in
    let whole : disk ≡ open_records (records ++ r ∷ []) ++ left =
    s.is ∙ ap (λ (l : List ℕ). open_records records ++ l) (sym (here disk records at s) ∙ opened ∙ ap (λ (l : List ℕ). 1 ∷ l) parts)
    ∙ sym (append_assoc (open_records records) (1 ∷ record_bytes r) left) ∙ ap (λ (l : List ℕ). l ++ left) (sym (open_snoc records r)) in
    record { rest = left; each = all_snoc records r s.each is; is = whole; at_is = omega (arith, s.at_is, end_snoc records r); some = omega (arith, long, ap length parts, length-append (record_bytes r) left) }

-- the end is a gate that is not open
pub ends : (disk : List ℕ) (records : List LogRecord) (at gate : ℕ) (tail : List ℕ) (s : Scanned disk records at) → drop at disk ≡ gate ∷ tail → gate ≢ 1 → ClosedLog records at disk
ends disk records at gate tail s is shut = record { gate = gate; rest = tail; each = s.each; is = s.is ∙ ap (λ (l : List ℕ). open_records records ++ l) (sym (here disk records at s) ∙ is); shut = shut; end_is = s.at_is }

-- a record has more bytes than writes
fewer : (w f n p b : ℕ) → w ≤ f → p ≡ n + f + 19 → p ≡ b + 1 → w ≤ b
fewer w f n p b fit size whole = omega (arith, fit, size, whole)

few_writes : (r : LogRecord) → length r.writes ≤ length (record_bytes r)
few_writes r = fewer (length r.writes) (length (flat_map write_bytes r.writes)) (length r.name) (length (pending_bytes (Some r))) (length (record_bytes r)) (writes_fit r.writes) (size r) (length-append (record_bytes r) (0 ∷ []))

within : (at n w size : ℕ) → w ≤ n → n ≡ size → at + w ≤ at + size
within at n w size few is = omega (arith, few, is)

pub writes_within : (found : Option Flush) (flush : Flush) (bytes : List ℕ) (at size : ℕ) → found ≡ Some flush → IfSome found (λ f. IsRecord (record_read f) × (bytes ≡ record_bytes (record_read f))) → length bytes ≡ size → at + length flush.writes ≤ at + size
writes_within found flush bytes at size is read len =
    let had : IsRecord (record_read flush) × (bytes ≡ record_bytes (record_read flush)) = subst (λ (o : Option Flush). IfSome o (λ f. IsRecord (record_read f) × (bytes ≡ record_bytes (record_read f)))) is read in
    within at (length (record_bytes (record_read flush))) (length flush.writes) size (few_writes (record_read flush)) (sym (ap length had.1) ∙ len)

-- ---- a log is never damaged

tail_none : (records all : List LogRecord) (rest tail x : List ℕ) (gate : ℕ) → AllByRecursion IsRecord records → AllByRecursion IsRecord all → gate ≢ 1
    → open_records records ++ rest ≡ open_records all ++ gate ∷ x → rest ≡ 1 ∷ tail → NoRecord tail → ⊥
tail_none [] [] rest tail x gate each every shut e opened none = shut (one_head gate 1 x tail (sym e ∙ opened)).0
tail_none [] (s ∷ all) rest tail x gate each every shut e opened none =
    let found : tail ≡ record_bytes s ++ (open_records all ++ gate ∷ x) = (one_head 1 1 tail (record_bytes s ++ (open_records all ++ gate ∷ x)) (sym opened ∙ e ∙ open_cons s all (gate ∷ x))).1 in
    next all (open_records all ++ gate ∷ x) refl found
  where
    next : (others : List LogRecord) (l : List ℕ) → l ≡ open_records others ++ gate ∷ x → tail ≡ record_bytes s ++ l → ⊥
    next others [] is found = absurd (omega (arith, ap length is, length-append (open_records others) (gate ∷ x)))
    next others (b ∷ l) is found = none s b l every.0 found
tail_none (r ∷ records) [] rest tail x gate each every shut e opened none = shut (one_head gate 1 x (record_bytes r ++ (open_records records ++ rest)) (sym e ∙ open_cons r records rest)).0
tail_none (r ∷ records) (s ∷ all) rest tail x gate each every shut e opened none =
    let tails = (one_head 1 1 (record_bytes r ++ (open_records records ++ rest)) (record_bytes s ++ (open_records all ++ gate ∷ x)) (sym (open_cons r records rest) ∙ e ∙ open_cons s all (gate ∷ x))).1 in
    let first = one_record r s (open_records records ++ rest) (open_records all ++ gate ∷ x) each.0 every.0 tails in
    tail_none records all rest tail x gate each.1 every.1 shut first.1 opened none

pub never_damaged : LogIsWhole
never_damaged disk records all at end long (is_short short none zero_end) s damaged = absurd (omega (arith, long, short))
never_damaged disk records all at end long (is_closed log longer) s damaged =
    tail_none records all s.rest damaged.rest log.rest log.gate s.each log.each log.shut (sym s.is ∙ log.is) (sym (here disk records at s) ∙ damaged.opened) damaged.none

-- ---- what was scanned is a front of the log

front_of : (records all : List LogRecord) (rest x : List ℕ) (gate : ℕ) → AllByRecursion IsRecord records → AllByRecursion IsRecord all → gate ≢ 1
    → open_records records ++ rest ≡ open_records all ++ gate ∷ x → (others : List LogRecord) × (all ≡ records ++ others)
front_of [] all rest x gate each every shut e = (all, refl)
front_of (r ∷ records) [] rest x gate each every shut e = absurd (shut (one_head gate 1 x (record_bytes r ++ (open_records records ++ rest)) (sym e ∙ open_cons r records rest)).0)
front_of (r ∷ records) (s ∷ all) rest x gate each every shut e =
    let tails = (one_head 1 1 (record_bytes r ++ (open_records records ++ rest)) (record_bytes s ++ (open_records all ++ gate ∷ x)) (sym (open_cons r records rest) ∙ e ∙ open_cons s all (gate ∷ x))).1 in
    let first = one_record r s (open_records records ++ rest) (open_records all ++ gate ∷ x) each.0 every.0 tails in
    let next = front_of records all rest x gate each.1 every.1 shut first.1 in
    (next.0, ap (λ (l : List LogRecord). s ∷ l) next.1 ∙ ap (λ (q : LogRecord). q ∷ (records ++ next.0)) (sym first.0))

none_in : (records : List LogRecord) (rest : List ℕ) → length (open_records records ++ rest) ≤ 1 → 0 < length rest → records ≡ []
none_in [] rest short some = refl
none_in (r ∷ records) rest short some =
    absurd (omega (arith, short, some, ap length (open_cons r records rest), length-append (record_bytes r) (open_records records ++ rest), length-append (open_records records) rest))

pub scanned_is_front : ScannedIsFront
scanned_is_front disk records all at end s (is_short short none zero_end) =
    let few : length (open_records records ++ s.rest) ≤ 1 = subst (λ (d : List ℕ). length d ≤ 1) s.is short in
    (all, sym (ap (λ (l : List LogRecord). l ++ all) (none_in records s.rest few s.some)))
scanned_is_front disk records all at end s (is_closed log long) = front_of records all s.rest log.rest log.gate s.each log.each log.shut (sym s.is ∙ log.is)

-- ---- for the scan's steps

abbrev failed : {T : Type 0} → LogFault → Result T LogFault
failed a = Err a

pub err_is : {T : Type 0} (a b : LogFault) → failed {T = T} a ≡ failed {T = T} b → a ≡ b
err_is a b e = cc

pub opened_at : (disk : List ℕ) (at : ℕ) → at < length disk → eqb (get_or disk at 0) 1 ≡ true → drop at disk ≡ 1 ∷ drop (at + 1) disk
opened_at disk at lt is = drop_more disk at 0 lt ∙ ap (λ (b : ℕ). b ∷ drop (at + 1) disk) (eqb-true _ _ is)

pub short_of : (disk : List ℕ) (at len : ℕ) → len ≡ length disk → len ≤ at + size_at (drop at disk) → NoRecord (drop at disk)
short_of disk at len is le = too_short (drop at disk) (omega (arith, is, le, length-drop at disk))

pub unread : (found : Option LogRecord) (r : LogRecord) → found ≡ None → found ≡ Some r → ⊥
unread None r none e = absurd cc
unread (Some s) r none e = absurd cc
