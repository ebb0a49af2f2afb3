-- One write more in the bytes of a record.
use Rattle.std.proofs.Common.{◌≡◌, ℕ, ◌+◌, ◌-◌, List, [], ◌∷◌, ◌++◌, length, take, drop, Some, refl, sym, ap, ◌∙◌, append_assoc, length-append, arith}
use Rattle.std.specs.List.{flat_map}
use Rattle.std.proofs.lemmas.List.{take_at, drop_at, append-nil}
use Rattle.std.proofs.lemmas.List.Concat.{flat_map-cons, flat_map-append}
use Rattle.leaf_model.specs.declared.writes.Write.{Write}
use Rattle.leaf_model.specs.declared.writes.Write.TheVariants.{Add, Expire, Keep}
use Rattle.leaf_model.specs.Bytes.{u64_bytes, name_bytes}
use Rattle.row_records.specs.Bytes.{said_bytes, write_bytes, write_kind}
use Rattle.row_records.specs.Records.{LogRecord, record_body, record_bytes, record_kind}
use Rattle.row_records.specs.Pending.{pending_bytes, with_write}

-- other bytes in the place of some
pub patched : (front number rest new : List ℕ) (at : ℕ) (l : List ℕ) → l ≡ front ++ (number ++ rest) → length front ≡ at → length number ≡ 8 → (take at l ++ new) ++ drop (at + 8) l ≡ front ++ (new ++ rest)
patched front number rest new at l is lf ln =
    let kept : take at l ≡ front = ap (take at) is ∙ take_at front (number ++ rest) at lf in
    let left : drop (at + 8) l ≡ rest = ap (drop (at + 8)) (is ∙ sym (append_assoc front number rest)) ∙ drop_at (front ++ number) rest (at + 8) (omega (arith, lf, ln, length-append front number)) in
    ap (λ (w : List ℕ). (w ++ new) ++ drop (at + 8) l) kept ∙ ap (λ (w : List ℕ). (front ++ new) ++ w) left ∙ append_assoc front new rest

pub renumbered : (bytes len head number writes once : List ℕ) (n name_len count : ℕ)
    → bytes ≡ len ++ (head ++ (number ++ writes)) → length len ≡ 8 → length head ≡ name_len + 2 → length number ≡ 8
    → once ≡ (take 0 bytes ++ u64_bytes n) ++ drop (0 + 8) bytes
    → (take (name_len + 10) once ++ u64_bytes count) ++ drop (name_len + 10 + 8) once ≡ u64_bytes n ++ (head ++ (u64_bytes count ++ writes))
renumbered bytes len head number writes once n name_len count is ll lh ln first =
    let one : once ≡ u64_bytes n ++ (head ++ (number ++ writes)) = first ∙ patched [] len (head ++ (number ++ writes)) (u64_bytes n) 0 bytes is refl ll in
    patched (u64_bytes n ++ head) number writes (u64_bytes count) (name_len + 10) once (one ∙ sym (append_assoc (u64_bytes n) head (number ++ writes))) (omega (arith, lh, length-append (u64_bytes n) head)) ln

-- the fields of a record, one after another
fields : (kind : ℕ) (len name number writes rest : List ℕ) → (len ++ (kind ∷ ((name ++ number) ++ writes))) ++ rest ≡ len ++ ((kind ∷ name) ++ (number ++ (writes ++ rest)))
fields kind len name number writes rest =
    append_assoc len (kind ∷ ((name ++ number) ++ writes)) rest ∙ ap (λ (w : List ℕ). len ++ (kind ∷ w)) (append_assoc (name ++ number) writes rest ∙ append_assoc name number (writes ++ rest))

pub fields_of : (r : LogRecord) (rest : List ℕ) → record_bytes r ++ rest ≡ u64_bytes (length (record_body r)) ++ ((record_kind r.sets ∷ name_bytes r.name) ++ (u64_bytes (length r.writes) ++ (flat_map write_bytes r.writes ++ rest)))
fields_of r rest = fields (record_kind r.sets) (u64_bytes (length (record_body r))) (name_bytes r.name) (u64_bytes (length r.writes)) (flat_map write_bytes r.writes) rest

one_more : (writes : List Write) (write : Write) → flat_map write_bytes writes ++ write_bytes write ≡ flat_map write_bytes (writes ++ write ∷ [])
one_more writes write =
    sym (flat_map-append write_bytes writes (write ∷ []) ∙ ap (λ (w : List ℕ). flat_map write_bytes writes ++ w) (flat_map-cons write_bytes write [] ∙ append-nil (write_bytes write)))

-- how long a record is with a write more
pub grown : (r : LogRecord) (write : Write) → length (record_bytes r ++ (write_bytes write ++ 0 ∷ [])) ≡ length (record_body (with_write write r)) + 9
grown r write =
    let name = name_bytes r.name in
    let writes = flat_map write_bytes r.writes in
    let more = flat_map write_bytes (r.writes ++ write ∷ []) in
    omega (
      arith,
      ap length (fields_of r (write_bytes write ++ 0 ∷ [])),
      length-append writes (write_bytes write ++ 0 ∷ []),
      length-append (write_bytes write) (0 ∷ []),
      length-append r.name (u64_bytes (length r.writes) ++ (writes ++ (write_bytes write ++ 0 ∷ []))),
      length-append (name ++ u64_bytes (length (r.writes ++ write ∷ []))) more,
      length-append r.name (u64_bytes (length (r.writes ++ write ∷ []))),
      ap length (one_more r.writes write),
      length-append writes (write_bytes write),
    )

pub pushed : (r : LogRecord) (write : Write) (k count : ℕ) → k ≡ length (record_body (with_write write r)) → count ≡ length r.writes + 1
    → u64_bytes k ++ ((record_kind r.sets ∷ name_bytes r.name) ++ (u64_bytes count ++ (flat_map write_bytes r.writes ++ (write_bytes write ++ 0 ∷ [])))) ≡ pending_bytes (Some (with_write write r))
pushed r write k count size number =
    let name = name_bytes r.name in
    let writes = flat_map write_bytes r.writes in
    let joined : writes ++ (write_bytes write ++ 0 ∷ []) ≡ flat_map write_bytes (r.writes ++ write ∷ []) ++ 0 ∷ [] = sym (append_assoc writes (write_bytes write) (0 ∷ [])) ∙ ap (λ (w : List ℕ). w ++ 0 ∷ []) (one_more r.writes write) in
    let counted : count ≡ length (r.writes ++ write ∷ []) = omega (arith, number, length-append r.writes (write ∷ [])) in
    ap (λ (w : List ℕ). u64_bytes k ++ ((record_kind r.sets ∷ name) ++ (u64_bytes count ++ w))) joined
    ∙ ap (λ (m : ℕ). u64_bytes k ++ ((record_kind r.sets ∷ name) ++ (u64_bytes m ++ (flat_map write_bytes (r.writes ++ write ∷ []) ++ 0 ∷ [])))) counted
    ∙ ap (λ (m : ℕ). u64_bytes m ++ ((record_kind r.sets ∷ name) ++ (u64_bytes (length (r.writes ++ write ∷ [])) ++ (flat_map write_bytes (r.writes ++ write ∷ []) ++ 0 ∷ [])))) size
    ∙ sym (fields_of (with_write write r) (0 ∷ []))

-- all but the gate
pub ungated : (bytes : List ℕ) → take (length (bytes ++ 0 ∷ []) - 1) (bytes ++ 0 ∷ []) ≡ bytes
ungated bytes = take_at bytes (0 ∷ []) (length (bytes ++ 0 ∷ []) - 1) (omega (arith, length-append bytes (0 ∷ [])))

-- a write is its kind and what is said behind it
pub kind_and_said : (write : Write) → write_kind write ∷ said_bytes write ≡ write_bytes write
kind_and_said (Add rows) = refl
kind_and_said (Expire horizon) = refl
kind_and_said (Keep n) = refl
