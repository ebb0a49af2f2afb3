-- The two laws of a record: what is read is spelled so, and what is spelled so is read.
use Rattle.std.proofs.Common.{◌≡◌, ℕ, zero, suc, ◌^◌, ◌<◌, ◌≤◌, Bool, true, false, cond, ltb, eqb, List, [], ◌∷◌, ◌++◌, length, Some, None, refl, sym, ap, subst, ◌∙◌, append_assoc, arith}
use Rattle.std.specs.List.{flat_map, AllByRecursion}
use Rattle.std.specs.Str.{IsUtf8}
use Rattle.std.specs.Int.{w32, w64, to_le_bytes}
use Rattle.std.proofs.lemmas.Bool.{ltb-false, le-ltb, eqb-true, eqb-false, eq-eqb, ne_eqb, false≢true}
use Rattle.std.proofs.lemmas.List.{append-nil, nil_from_length}
use Rattle.std.proofs.lemmas.List.Concat.{flat_map-cons}
use Rattle.leaf_model.specs.declared.writes.Write.{Write}
use Rattle.leaf_model.specs.declared.writes.Write.TheVariants.{Add, Expire, Keep}
use Rattle.leaf_model.specs.Writes.{IsWrite}
use Rattle.leaf_model.specs.Bytes.{name_bytes, rows_bytes, IsBytes}
use Rattle.row_records.specs.Bytes.{write_bytes}
use Rattle.row_records.specs.Records.{LogRecord, IsRecord, record_body, record_bytes, record_kind, has_sets, flush_of}
use Rattle.leaf_model.specs.Reading.{◌>>=◌, number_at, name_at, time_at, rows_at}
use Rattle.row_records.specs.Reading.{add_at, write_at, writes_at, flush_at, whole_at, body_of, record_of}
use Rattle.leaf_model.proofs.Fields.{IsBytes-rest, bind_some, passed, held, some_is, Takes, Takes-then, wide32, wide64, number_takes, number_again, name_takes, name_again, time_takes, time_again}
use Rattle.leaf_model.proofs.ReadRows.{rows_take, rows_again}

-- ---- writes

add_takes : (bytes : List ℕ) (x : Write × List ℕ) → IsBytes (1 ∷ bytes) → add_at bytes ≡ Some x → Takes (1 ∷ bytes) (write_bytes x.0) x.1 × IsWrite x.0
unfolding add_at
add_takes bytes x fits e =
    let a = bind_some (number_at w32 bytes) (λ count. cond (ltb 100000 count.0) None (rows_at count.0 count.1 >>= λ rows. Some (Add rows.0, rows.1))) x e in
    let g = passed (ltb 100000 a.0.0) (rows_at a.0.0 a.0.1 >>= λ rows. Some (Add rows.0, rows.1)) x a.2 in
    let b = bind_some (rows_at a.0.0 a.0.1) (λ rows. Some (Add rows.0, rows.1)) x g.1 in
    let first = number_takes w32 (2 ^ 32) wide32 bytes a.0 (IsBytes-rest 1 bytes fits) a.1 in
    let second = rows_take a.0.0 a.0.1 b.0 first.0.rest_fits b.1 in
    let counted : Takes bytes (to_le_bytes w32 (length b.0.0)) a.0.1 = subst (λ (k : ℕ). Takes bytes (to_le_bytes w32 k) a.0.1) (sym second.1) first.0 in
    let both = Takes-then bytes (to_le_bytes w32 (length b.0.0)) a.0.1 (rows_bytes b.0.0) b.0.1 counted second.0 in
    subst (λ (y : Write × List ℕ). Takes (1 ∷ bytes) (write_bytes y.0) y.1 × IsWrite y.0) (some_is (Add b.0.0, b.0.1) x b.2)
    (record { parts = ap (λ (w : List ℕ). 1 ∷ w) both.parts; rest_fits = both.rest_fits }, (omega (arith, second.1, ltb-false 100000 a.0.0 g.0), second.2))

pub write_takes : (bytes : List ℕ) (x : Write × List ℕ) → IsBytes bytes → write_at bytes ≡ Some x → Takes bytes (write_bytes x.0) x.1 × IsWrite x.0
unfolding write_at
write_takes [] x fits e = absurd cc
write_takes (zero ∷ bytes) x fits e = absurd cc
write_takes (suc zero ∷ bytes) x fits e = add_takes bytes x fits e
write_takes (suc (suc zero) ∷ bytes) x fits e =
    let a = bind_some (time_at bytes) (λ horizon. Some (Expire horizon.0, horizon.1)) x e in
    let first = time_takes bytes a.0 (IsBytes-rest 2 bytes fits) a.1 in
    subst (λ (y : Write × List ℕ). Takes (2 ∷ bytes) (write_bytes y.0) y.1 × IsWrite y.0) (some_is (Expire a.0.0, a.0.1) x a.2)
    (record { parts = ap (λ (w : List ℕ). 2 ∷ w) first.0.parts; rest_fits = first.0.rest_fits }, first.1)
write_takes (suc (suc (suc zero)) ∷ bytes) x fits e =
    let a = bind_some (number_at w64 bytes) (λ n. Some (Keep n.0, n.1)) x e in
    let first = number_takes w64 (2 ^ 64) wide64 bytes a.0 (IsBytes-rest 3 bytes fits) a.1 in
    subst (λ (y : Write × List ℕ). Takes (3 ∷ bytes) (write_bytes y.0) y.1 × IsWrite y.0) (some_is (Keep a.0.0, a.0.1) x a.2)
    (record { parts = ap (λ (w : List ℕ). 3 ∷ w) first.0.parts; rest_fits = first.0.rest_fits }, first.1)
write_takes (suc (suc (suc (suc b))) ∷ bytes) x fits e = absurd cc

pub write_again : (write : Write) (rest : List ℕ) → IsWrite write → write_at (write_bytes write ++ rest) ≡ Some (write, rest)
unfolding write_at add_at
write_again (Add rows) rest fits =
    let few : ltb 100000 (length rows) ≡ false = le-ltb _ _ fits.0 in
    let regrouped : (to_le_bytes w32 (length rows) ++ rows_bytes rows) ++ rest ≡ to_le_bytes w32 (length rows) ++ (rows_bytes rows ++ rest) = append_assoc (to_le_bytes w32 (length rows)) (rows_bytes rows) rest in
    rw (number_again w32 (2 ^ 32) wide32 (length rows) (rows_bytes rows ++ rest) (omega (arith, fits.0)), few, rows_again rows rest fits.1) refl
write_again (Expire horizon) rest fits = rw (time_again horizon rest fits) refl
write_again (Keep n) rest fits = rw (number_again w64 (2 ^ 64) wide64 n rest fits) refl

pub writes_take : (n : ℕ) (bytes : List ℕ) (x : List Write × List ℕ) → IsBytes bytes → writes_at n bytes ≡ Some x → Takes bytes (flat_map write_bytes x.0) x.1 × (length x.0 ≡ n) × AllByRecursion IsWrite x.0
unfolding writes_at
writes_take zero bytes x fits e =
    subst (λ (y : List Write × List ℕ). Takes bytes (flat_map write_bytes y.0) y.1 × (length y.0 ≡ 0) × AllByRecursion IsWrite y.0) (some_is ([], bytes) x e) (record { parts = refl; rest_fits = fits }, refl, tt)
writes_take (suc n) bytes x fits e =
    let a = bind_some (write_at bytes) (λ first. writes_at n first.1 >>= λ others. Some (first.0 ∷ others.0, others.1)) x e in
    let b = bind_some (writes_at n a.0.1) (λ others. Some (a.0.0 ∷ others.0, others.1)) x a.2 in
    let first = write_takes bytes a.0 fits a.1 in
    let second = writes_take n a.0.1 b.0 first.0.rest_fits b.1 in
    let both = Takes-then bytes (write_bytes a.0.0) a.0.1 (flat_map write_bytes b.0.0) b.0.1 first.0 second.0 in
    let made : List Write × List ℕ = (a.0.0 ∷ b.0.0, b.0.1) in
    subst (λ (y : List Write × List ℕ). Takes bytes (flat_map write_bytes y.0) y.1 × (length y.0 ≡ suc n) × AllByRecursion IsWrite y.0) (some_is made x b.2)
    (rw flat_map-cons both, ap suc second.1, (first.1, second.2))

pub writes_again : (writes : List Write) (rest : List ℕ) → AllByRecursion IsWrite writes → writes_at (length writes) (flat_map write_bytes writes ++ rest) ≡ Some (writes, rest)
unfolding writes_at
writes_again [] rest fits = refl
writes_again (write ∷ writes) rest fits =
    let regrouped : flat_map write_bytes (write ∷ writes) ++ rest ≡ write_bytes write ++ (flat_map write_bytes writes ++ rest) = ap (λ (w : List ℕ). w ++ rest) (flat_map-cons write_bytes write writes) ∙ append_assoc (write_bytes write) (flat_map write_bytes writes) rest in
    ap (writes_at (suc (length writes))) regrouped ∙ rw (write_again write (flat_map write_bytes writes ++ rest) fits.0, writes_again writes rest fits.1) refl

-- ---- records

abbrev Named : Type 0
Named = List ℕ × List Write

-- what a record says, without its kind and whether it is short enough
record Says (flush : Named) : Type 0 where
  name : IsUtf8 flush.0
  short : length flush.0 ≤ 255
  some : 0 < length flush.1
  count : length flush.1 < 2 ^ 64
  each : AllByRecursion IsWrite flush.1

abbrev flush_bytes : Named → List ℕ
flush_bytes flush = name_bytes flush.0 ++ to_le_bytes w64 (length flush.1) ++ flat_map write_bytes flush.1

-- a record without its kind
abbrev bare : LogRecord → Named
bare r = (r.name, r.writes)

flush_made : (bytes : List ℕ) (name : List ℕ × List ℕ) (count : ℕ × List ℕ) (writes : List Write × List ℕ)
    → Takes bytes (name_bytes name.0) name.1 × (length name.0 ≤ 255) × IsUtf8 name.0
    → Takes name.1 (to_le_bytes w64 count.0) count.1 × (count.0 < 2 ^ 64)
    → Takes count.1 (flat_map write_bytes writes.0) writes.1 × (length writes.0 ≡ count.0) × AllByRecursion IsWrite writes.0
    → 0 < count.0
    → Takes bytes (flush_bytes (name.0, writes.0)) writes.1 × Says (name.0, writes.0)
flush_made bytes name count writes first second third some =
    let counted : Takes name.1 (to_le_bytes w64 (length writes.0)) count.1 = subst (λ (k : ℕ). Takes name.1 (to_le_bytes w64 k) count.1) (sym third.1) second.0 in
    let first_two = Takes-then bytes (name_bytes name.0) name.1 (to_le_bytes w64 (length writes.0)) count.1 first.0 counted in
    let all = Takes-then bytes (name_bytes name.0 ++ to_le_bytes w64 (length writes.0)) count.1 (flat_map write_bytes writes.0) writes.1 first_two third.0 in
    (all, record { name = first.2; short = first.1; some = omega (arith, third.1, some); count = omega (arith, third.1, second.1); each = third.2 })

flush_takes : (bytes : List ℕ) (x : Named × List ℕ) → IsBytes bytes → flush_at bytes ≡ Some x → Takes bytes (flush_bytes x.0) x.1 × Says x.0
unfolding flush_at
flush_takes bytes x fits e =
    let a = bind_some (name_at bytes) (λ name. number_at w64 name.1 >>= λ count. cond (eqb count.0 0) None (writes_at count.0 count.1 >>= λ writes. Some ((name.0, writes.0), writes.1))) x e in
    let b = bind_some (number_at w64 a.0.1) (λ count. cond (eqb count.0 0) None (writes_at count.0 count.1 >>= λ writes. Some ((a.0.0, writes.0), writes.1))) x a.2 in
    let g = passed (eqb b.0.0 0) (writes_at b.0.0 b.0.1 >>= λ writes. Some ((a.0.0, writes.0), writes.1)) x b.2 in
    let c = bind_some (writes_at b.0.0 b.0.1) (λ writes. Some ((a.0.0, writes.0), writes.1)) x g.1 in
    let first = name_takes bytes a.0 fits a.1 in
    let second = number_takes w64 (2 ^ 64) wide64 a.0.1 b.0 first.0.rest_fits b.1 in
    let third = writes_take b.0.0 b.0.1 c.0 second.0.rest_fits c.1 in
    let made : Named × List ℕ = ((a.0.0, c.0.0), c.0.1) in
    subst (λ (y : Named × List ℕ). Takes bytes (flush_bytes y.0) y.1 × Says y.0) (some_is made x c.2)
    (flush_made bytes a.0 b.0 c.0 first second third (not_zero b.0.0 g.0))
  where
    not_zero : (n : ℕ) → eqb n 0 ≡ false → 0 < n
    not_zero zero e = absurd (eqb-false 0 0 e refl)
    not_zero (suc n) e = omega arith

flush_again : (r : LogRecord) (rest : List ℕ) → IsRecord r → flush_at (flush_bytes (bare r) ++ rest) ≡ Some (bare r, rest)
unfolding flush_at
flush_again r rest is =
    let writes = flat_map write_bytes r.writes in
    let count = to_le_bytes w64 (length r.writes) in
    let regrouped : flush_bytes (bare r) ++ rest ≡ name_bytes r.name ++ (count ++ (writes ++ rest)) = append_assoc (name_bytes r.name ++ count) writes rest ∙ append_assoc (name_bytes r.name) count (writes ++ rest) in
    let some : eqb (length r.writes) 0 ≡ false = ne_eqb (length r.writes) 0 (λ e. omega (arith, is.some, e)) in
    ap flush_at regrouped ∙ rw (name_again r.name (count ++ (writes ++ rest)) is.name, number_again w64 (2 ^ 64) wide64 (length r.writes) (writes ++ rest) is.count, some, writes_again r.writes rest is.each) refl

-- ---- their kinds

-- bytes behind a kind are the body of a record of that kind
record IsWhole (sets : Bool) (bytes : List ℕ) (r : LogRecord) : Type 0 where
  body : record_kind sets ∷ bytes ≡ record_body r
  says : Says (bare r)
  kind : r.sets ≡ sets

whole_takes : (sets : Bool) (bytes : List ℕ) (r : LogRecord) → IsBytes bytes → whole_at sets bytes ≡ Some r → IsWhole sets bytes r
unfolding whole_at
whole_takes sets bytes r fits e =
    let a = bind_some (flush_at bytes) (λ flush. cond (eqb (length flush.1) 0) (Some (flush_of sets flush.0)) None) r e in
    let g = held (eqb (length a.0.1) 0) (Some (flush_of sets a.0.0)) r a.2 in
    let first = flush_takes bytes a.0 fits a.1 in
    let none : a.0.1 ≡ [] = nil_from_length a.0.1 (eqb-true _ _ g.0) in
    let whole : bytes ≡ flush_bytes a.0.0 = first.0.parts ∙ ap (λ (w : List ℕ). flush_bytes a.0.0 ++ w) none ∙ append-nil (flush_bytes a.0.0) in
    subst (IsWhole sets bytes) (some_is (flush_of sets a.0.0) r g.1) (record { body = ap (λ (w : List ℕ). record_kind sets ∷ w) whole; says = first.1; kind = refl })

whole_again : (sets : Bool) (r : LogRecord) → r.sets ≡ sets → IsRecord r → whole_at sets (flush_bytes (bare r)) ≡ Some r
unfolding whole_at
whole_again sets r kind is =
    let all : flush_at (flush_bytes (bare r)) ≡ Some (bare r, []) = ap flush_at (sym (append-nil (flush_bytes (bare r)))) ∙ flush_again r [] is in
    rw all (ap (λ (b : Bool). Some (flush_of b (bare r))) (sym kind))

-- a body says so much
record IsBody (bytes : List ℕ) (r : LogRecord) : Type 0 where
  body : bytes ≡ record_body r
  says : Says (bare r)
  plain : r.sets ≡ false → has_sets r.writes ≡ false

body_takes : (bytes : List ℕ) (r : LogRecord) → IsBytes bytes → body_of bytes ≡ Some r → IsBody bytes r
unfolding body_of
body_takes [] r fits e = absurd cc
body_takes (zero ∷ bytes) r fits e = absurd cc
body_takes (suc zero ∷ bytes) r fits e =
    let a = bind_some (whole_at false bytes) (λ r. cond (has_sets r.writes) None (Some r)) r e in
    let g = passed (has_sets a.0.writes) (Some a.0) r a.2 in
    let first = whole_takes false bytes a.0 (IsBytes-rest 1 bytes fits) a.1 in
    subst (IsBody (1 ∷ bytes)) (some_is a.0 r g.1) (record { body = first.body; says = first.says; plain = λ kind. g.0 })
body_takes (suc (suc zero) ∷ bytes) r fits e =
    let first = whole_takes true bytes r (IsBytes-rest 2 bytes fits) e in
    record { body = first.body; says = first.says; plain = λ kind. absurd (false≢true (sym kind ∙ first.kind)) }
body_takes (suc (suc (suc b)) ∷ bytes) r fits e = absurd cc

body_again_of : (sets : Bool) (r : LogRecord) → r.sets ≡ sets → IsRecord r → body_of (record_kind sets ∷ flush_bytes (bare r)) ≡ Some r
unfolding body_of
body_again_of false r kind is = rw (whole_again false r kind is, is.plain kind) refl
body_again_of true r kind is = whole_again true r kind is

body_again : (r : LogRecord) → IsRecord r → body_of (record_body r) ≡ Some r
body_again r is = body_again_of r.sets r refl is

pub record_found : (bytes : List ℕ) (r : LogRecord) → IsBytes bytes → record_of bytes ≡ Some r → IsRecord r × (bytes ≡ record_bytes r)
unfolding record_of
record_found bytes r fits e =
    let a = bind_some (number_at w64 bytes) (λ len. cond (eqb len.0 (length len.1)) (body_of len.1) None) r e in
    let g = held (eqb a.0.0 (length a.0.1)) (body_of a.0.1) r a.2 in
    let first = number_takes w64 (2 ^ 64) wide64 bytes a.0 fits a.1 in
    let second = body_takes a.0.1 r first.0.rest_fits g.1 in
    let says = second.says in
    let size : a.0.0 ≡ length (record_body r) = eqb-true _ _ g.0 ∙ ap length second.body in (
      record { name = says.name; short = says.short; some = says.some; count = says.count; each = says.each; plain = second.plain; whole = omega (arith, size, first.1) },
      first.0.parts ∙ ap (λ (w : List ℕ). to_le_bytes w64 a.0.0 ++ w) second.body ∙ ap (λ (k : ℕ). to_le_bytes w64 k ++ record_body r) size,
    )

pub record_again : (r : LogRecord) → IsRecord r → record_of (record_bytes r) ≡ Some r
unfolding record_of
record_again r is =
    rw (number_again w64 (2 ^ 64) wide64 (length (record_body r)) (record_body r) is.whole, eq-eqb (length (record_body r)) (length (record_body r)) refl) (body_again r is)
