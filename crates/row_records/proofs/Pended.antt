-- What the bytes of a pending record hold, before and after a push.
use Rattle.std.proofs.Common.{◌≡◌, ℕ, ◌+◌, ◌-◌, ◌^◌, ◌≤◌, ◌<◌, List, [], ◌∷◌, ◌++◌, length, take, Option, Some, None, true, refl, sym, ap, subst, ◌∙◌, length-append, arith}
use Rattle.std.specs.Prelude.{IfSome, IsSome, IsUtf8}
use Rattle.std.specs.List.{flat_map, AllByRecursion}
use Rattle.std.proofs.lemmas.Bool.{false≢true}
use Rattle.std.proofs.lemmas.List.Concat.{flat_map-cons}
use Rattle.leaf_model.specs.declared.writes.Write.{Write}
use Rattle.leaf_model.specs.declared.writes.Write.TheVariants.{Add, Expire, Keep}
use Rattle.leaf_model.specs.Bytes.{u64_bytes, name_bytes, IsBytes}
use Rattle.row_records.specs.Bytes.{write_bytes}
use Rattle.leaf_model.specs.Writes.{IsWrite}
use Rattle.row_records.specs.Records.{LogRecord, IsRecord, record_body, record_bytes}
use Rattle.row_records.specs.Reading.{record_of}
use Rattle.row_records.specs.Pending.{allows_sets, pending_bytes, pending_count, pending_of, with_write, with_push}
use Rattle.leaf_model.proofs.Fields.{IsBytes-take}
use Rattle.row_records.proofs.Records.{record_found, record_again}
use Rattle.row_records.proofs.Growing.{ungated, fields_of}

-- bytes of a record are that record
pub held_by : (r : LogRecord) (bytes : List ℕ) → IsRecord r → bytes ≡ pending_bytes (Some r) → pending_of bytes ≡ Some r
held_by r bytes is e = ap pending_of e ∙ ap record_of (ungated (record_bytes r)) ∙ record_again r is

pub held_record : (r : LogRecord) (bytes : List ℕ) → IsBytes bytes → pending_of bytes ≡ Some r → IsRecord r
held_record r bytes fits e = (record_found (take (length bytes - 1) bytes) r (IsBytes-take (length bytes - 1) bytes fits) e).0

pub if_held : (o : Option LogRecord) (bytes : List ℕ) → IsBytes bytes → pending_of bytes ≡ o → IfSome o IsRecord
if_held None bytes fits e = tt
if_held (Some r) bytes fits e = held_record r bytes fits e

-- a write has a byte at least
pub writes_fit : (writes : List Write) → length writes ≤ length (flat_map write_bytes writes)
writes_fit [] = omega arith
writes_fit (w ∷ writes) = omega (arith, ap length (flat_map-cons write_bytes w writes), length-append (write_bytes w) (flat_map write_bytes writes), writes_fit writes, some w)
  where
    some : (w : Write) → 0 < length (write_bytes w)
    some (Add rows) = omega arith
    some (Expire horizon) = omega arith
    some (Keep n) = omega arith

pub size : (r : LogRecord) → length (pending_bytes (Some r)) ≡ length r.name + length (flat_map write_bytes r.writes) + 19
size r =
    let writes = flat_map write_bytes r.writes in
    omega (arith, ap length (fields_of r (0 ∷ [])), length-append r.name (u64_bytes (length r.writes) ++ (writes ++ 0 ∷ [])), length-append writes (0 ∷ []))

body_size : (r : LogRecord) → length (record_body r) ≡ length r.name + length (flat_map write_bytes r.writes) + 10
body_size r = omega (arith, length-append (name_bytes r.name ++ u64_bytes (length r.writes)) (flat_map write_bytes r.writes), length-append r.name (u64_bytes (length r.writes)))

pub few : (o : Option LogRecord) (bytes : List ℕ) → bytes ≡ pending_bytes o → pending_count o ≤ length bytes
few None bytes e = omega arith
few (Some r) bytes e = omega (arith, writes_fit r.writes, size r, ap length e)

pub room : (o : Option LogRecord) (bytes name : List ℕ) → IsSome o → IfSome o (λ r. r.name ≡ name) → bytes ≡ pending_bytes o → length name + 19 ≤ length bytes
room None bytes name some same e = absurd cc
room (Some r) bytes name some same e = omega (arith, size r, ap length e, ap length same)

short_record : (r : LogRecord) → r.sets ≡ true → IsUtf8 r.name → length r.name ≤ 255 → 0 < length r.writes → AllByRecursion IsWrite r.writes → length (pending_bytes (Some r)) < 2 ^ 63 → IsRecord r
short_record r kind utf8 short some each lt = record {
  name = utf8;
  short = short;
  some = some;
  count = omega (arith, writes_fit r.writes, size r, lt);
  each = each;
  plain = λ none. absurd (false≢true (sym none ∙ kind));
  whole = omega (arith, body_size r, size r, lt);
}

all_more : (writes : List Write) (write : Write) → AllByRecursion IsWrite writes → IsWrite write → AllByRecursion IsWrite (writes ++ write ∷ [])
all_more [] write each is = (is, tt)
all_more (w ∷ writes) write each is = (each.0, all_more writes write each.1 is)

-- what the bytes after a push hold
pub record Pushed (r : LogRecord) (count : ℕ) (new : List ℕ) : Type 0 where
  pub of : pending_of new ≡ Some r
  pub whole : new ≡ pending_bytes (pending_of new)
  pub counted : count ≡ pending_count (pending_of new)
  pub kind : allows_sets (pending_of new) ≡ true

made : (r : LogRecord) (count : ℕ) (new : List ℕ) → r.sets ≡ true → IsRecord r → count ≡ length r.writes → new ≡ pending_bytes (Some r) → Pushed r count new
made r count new kind is number e =
    let of = held_by r new is e in
    record { of = of; whole = e ∙ ap pending_bytes (sym of); counted = number ∙ ap pending_count (sym of); kind = ap allows_sets of ∙ kind }

pub begun : (name new : List ℕ) (write : Write) → IsUtf8 name → length name ≤ 255 → IsWrite write → length new < 2 ^ 63
    → new ≡ pending_bytes (Some (with_push name write None)) → Pushed (with_push name write None) 1 new
begun name new write utf8 short is lt e =
    let r = with_push name write None in
    made r 1 new refl (short_record r refl utf8 short (omega arith) (is, tt) (subst (λ (l : List ℕ). length l < 2 ^ 63) e lt)) refl e

pub gone_on : (o : Option LogRecord) (name bytes new : List ℕ) (count : ℕ) (write : Write) → IsBytes bytes → IsSome o → IfSome o (λ r. r.name ≡ name) → allows_sets o ≡ true → IsWrite write → length new < 2 ^ 63
    → pending_of bytes ≡ o → bytes ≡ pending_bytes o → count ≡ pending_count o
    → ((r : LogRecord) → bytes ≡ pending_bytes (Some r) → length name ≡ length r.name → count + 1 ≡ length r.writes + 1 → new ≡ pending_bytes (Some (with_write write r)))
    → Pushed (with_push name write o) (count + 1) new
gone_on None name bytes new count write fits some same kind is lt of whole counted adds = absurd cc
gone_on (Some r) name bytes new count write fits some same kind is lt of whole counted adds =
    let old = held_record r bytes fits of in
    let e = adds r whole (sym (ap length same)) (omega (arith, counted)) in
    let more = length-append r.writes (write ∷ []) in
    made (with_write write r) (count + 1) new kind (short_record (with_write write r) kind old.name old.short (omega (arith, more)) (all_more r.writes write old.each is) (subst (λ (l : List ℕ). length l < 2 ^ 63) e lt)) (omega (arith, more, counted)) e

pub nothing_held : pending_of [] ≡ None
unfolding record_of
nothing_held = refl

pub none_held : (o : Option LogRecord) (bytes : List ℕ) → IsBytes bytes → pending_of bytes ≡ o → pending_count o ≡ 0 → o ≡ None
none_held None bytes fits e zero = refl
none_held (Some r) bytes fits e zero = absurd (omega (arith, (held_record r bytes fits e).some, zero))
