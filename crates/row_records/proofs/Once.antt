-- Bytes are read in one way, whatever follows.
use Rattle.std.proofs.Common.{◌≡◌, ℕ, ◌^◌, ◌<◌, List, ◌++◌, length, take, drop, refl, sym, ap, ◌∙◌, append_assoc}
use Rattle.std.specs.List.{AllByRecursion}
use Rattle.std.specs.Int.{w64, from_le_bytes}
use Rattle.std.proofs.lemmas.List.{take_at, drop_at}
use Rattle.row_model.specs.declared.rows.Row.{Row}
use Rattle.row_model.specs.Values.{IsRow}
use Rattle.leaf_model.specs.Bytes.{u64_bytes, rows_bytes}
use Rattle.row_records.specs.Records.{LogRecord, IsRecord, record_body, record_bytes}
use Rattle.row_records.specs.Reading.{record_of}
use Rattle.leaf_model.proofs.Fields.{wide64, some_is}
use Rattle.leaf_model.proofs.ReadRows.{rows_again}
use Rattle.row_records.proofs.Records.{record_again}
use Rattle.row_records.proofs.Front.{front_again, rows_and_rest}

-- Bytes that begin with as many rows begin with the same rows.
pub one_reading : (rows others : List Row) (rest more : List ℕ) → AllByRecursion IsRow rows → AllByRecursion IsRow others → length rows ≡ length others
    → rows_bytes rows ++ rest ≡ rows_bytes others ++ more → (rows ≡ others) × (rest ≡ more)
one_reading rows others rest more fits others_fit n e =
    let both = some_is (rows_and_rest rows rest) (rows_and_rest others more) (sym (rows_again rows rest fits) ∙ front_again (length rows) (rows_bytes rows ++ rest) others more others_fit (sym n) e) in
    (ap (λ (x : List Row × List ℕ). x.0) both, ap (λ (x : List Row × List ℕ). x.1) both)

same_length : (n m : ℕ) (a b : List ℕ) → n < 2 ^ 64 → m < 2 ^ 64 → u64_bytes n ++ a ≡ u64_bytes m ++ b → (n ≡ m) × (a ≡ b)
same_length n m a b small less e =
    let fronts : u64_bytes n ≡ u64_bytes m = sym (take_at (u64_bytes n) a 8 refl) ∙ ap (take 8) e ∙ take_at (u64_bytes m) b 8 refl in
    let backs : a ≡ b = sym (drop_at (u64_bytes n) a 8 refl) ∙ ap (drop 8) e ∙ drop_at (u64_bytes m) b 8 refl in
    (sym (wide64.again n small) ∙ ap (from_le_bytes w64) fronts ∙ wide64.again m less, backs)

split_same : (a b x y : List ℕ) → length a ≡ length b → a ++ x ≡ b ++ y → (a ≡ b) × (x ≡ y)
split_same a b x y len e = (
  sym (take_at a x (length a) refl) ∙ ap (take (length a)) e ∙ take_at b y (length a) (sym len),
  sym (drop_at a x (length a) refl) ∙ ap (drop (length a)) e ∙ drop_at b y (length a) (sym len),
)

-- Bytes that begin with a record begin with no other.
pub one_record : (r s : LogRecord) (x y : List ℕ) → IsRecord r → IsRecord s → record_bytes r ++ x ≡ record_bytes s ++ y → (r ≡ s) × (x ≡ y)
one_record r s x y is other e =
    let regrouped : u64_bytes (length (record_body r)) ++ (record_body r ++ x) ≡ u64_bytes (length (record_body s)) ++ (record_body s ++ y) =
    sym (append_assoc (u64_bytes (length (record_body r))) (record_body r) x) ∙ e ∙ append_assoc (u64_bytes (length (record_body s))) (record_body s) y in
    let lens = same_length (length (record_body r)) (length (record_body s)) (record_body r ++ x) (record_body s ++ y) is.whole other.whole regrouped in
    let bodies = split_same (record_body r) (record_body s) x y lens.0 lens.1 in
    let bytes : record_bytes r ≡ record_bytes s = ap (λ (w : List ℕ). u64_bytes (length w) ++ w) bodies.0 in
    (some_is r s (sym (record_again r is) ∙ ap record_of bytes ∙ record_again s other), bodies.1)
