-- Of two scans of one disk one has the records of the other, and then more.
use Rattle.std.proofs.Common.{◌≡◌, ◌⊎◌, inl, inr, ℕ, ◌<◌, List, [], ◌∷◌, ◌++◌, length, refl, sym, ap, ◌∙◌, length-append, arith}
use Rattle.std.specs.List.{AllByRecursion}
use Rattle.row_records.specs.Records.{LogRecord, IsRecord, record_bytes}
use Rattle.row_records.proofs.Once.{one_record}
use Rattle.disk_backup.specs.Logs.{open_records}
use Rattle.disk_backup.specs.Scanning.{Scanned, Damaged, NoRecord}
use Rattle.disk_backup.proofs.Logs.{one_head, open_cons}
use Rattle.disk_backup.proofs.Scanned.{here}

-- one begins as the other
abbrev pub OneBegins : List LogRecord → List LogRecord → Type 0
OneBegins xs ys = ((rest : List LogRecord) × (ys ≡ xs ++ rest)) ⊎ ((rest : List LogRecord) × (xs ≡ ys ++ rest))

-- the first bytes of records decide them one by one
begins_by : (xs ys : List LogRecord) (a b : List ℕ) → AllByRecursion IsRecord xs → AllByRecursion IsRecord ys → open_records xs ++ a ≡ open_records ys ++ b → OneBegins xs ys
begins_by [] ys a b each every e = inl (ys, refl)
begins_by (x ∷ xs) [] a b each every e = inr (x ∷ xs, refl)
begins_by (x ∷ xs) (y ∷ ys) a b each every e =
    let tails = (one_head 1 1 (record_bytes x ++ (open_records xs ++ a)) (record_bytes y ++ (open_records ys ++ b)) (sym (open_cons x xs a) ∙ (e ∙ open_cons y ys b))).1 in
    let first = one_record x y (open_records xs ++ a) (open_records ys ++ b) each.0 every.0 tails in
    elim (begins_by xs ys a b each.1 every.1 first.1) [
      | inl more ↦ inl (more.0, ap (λ (l : List LogRecord). y ∷ l) more.1 ∙ ap (λ (q : LogRecord). q ∷ (xs ++ more.0)) (sym first.0))
      | inr more ↦ inr (more.0, ap (λ (l : List LogRecord). x ∷ l) more.1 ∙ ap (λ (q : LogRecord). q ∷ (ys ++ more.0)) first.0)
    ]

pub scans_in_order : (disk : List ℕ) (xs ys : List LogRecord) (at bt : ℕ) → Scanned disk xs at → Scanned disk ys bt → OneBegins xs ys
scans_in_order disk xs ys at bt s t = begins_by xs ys s.rest t.rest s.each t.each (sym s.is ∙ t.is)

-- ---- behind an open gate with no record nothing is scanned

-- no byte behind the records
ends_alone : (r : LogRecord) (rest l : List ℕ) → NoRecord rest → IsRecord r → rest ≡ record_bytes r ++ l → 0 < length l → ⊥
ends_alone r rest [] none is e some = absurd (omega (arith, some))
ends_alone r rest (gate ∷ l) none is e some = none r gate l is e

none_behind : (xs : List LogRecord) (x : LogRecord) (more : List LogRecord) (rest tail b : List ℕ) → AllByRecursion IsRecord (xs ++ x ∷ more) → 0 < length b
    → open_records xs ++ rest ≡ open_records (xs ++ x ∷ more) ++ b → rest ≡ 1 ∷ tail → NoRecord tail → ⊥
none_behind [] x more rest tail b each some e opened none =
    let tails = (one_head 1 1 tail (record_bytes x ++ (open_records more ++ b)) (sym opened ∙ (e ∙ open_cons x more b))).1 in
    ends_alone x tail (open_records more ++ b) none each.0 tails (omega (arith, some, length-append (open_records more) b))
none_behind (y ∷ xs) x more rest tail b each some e opened none =
    let tails = (one_head 1 1 (record_bytes y ++ (open_records xs ++ rest)) (record_bytes y ++ (open_records (xs ++ x ∷ more) ++ b)) (sym (open_cons y xs rest) ∙ (e ∙ open_cons y (xs ++ x ∷ more) b))).1 in
    let first = one_record y y (open_records xs ++ rest) (open_records (xs ++ x ∷ more) ++ b) each.0 each.0 tails in
    none_behind xs x more rest tail b each.1 some first.1 opened none

pub damaged_last : (disk : List ℕ) (xs : List LogRecord) (x : LogRecord) (more : List LogRecord) (at bt : ℕ) → Scanned disk xs at → Damaged disk at → Scanned disk (xs ++ x ∷ more) bt → ⊥
damaged_last disk xs x more at bt s d t =
    none_behind xs x more s.rest d.rest t.rest t.each t.some (sym s.is ∙ t.is) (sym (here disk xs at s) ∙ d.opened) d.none
