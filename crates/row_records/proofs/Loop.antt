-- Reading items one after the other, as a loop does.
use Rattle.std.proofs.Common.{◌≡◌, ℕ, suc, ◌-◌, ◌+◌, ◌≤◌, ◌<◌, List, [], ◌∷◌, ◌++◌, Option, Some, None, refl, sym, ap, ◌∙◌, append_assoc, arith}
use Rattle.std.proofs.lemmas.List.{append-nil}
use Rattle.leaf_model.specs.declared.writes.Write.{Write}
use Rattle.row_records.specs.declared.fault.ReadError.{ReadError}
use Rattle.row_records.specs.declared.fault.ReadError.TheVariants as errors
use Rattle.leaf_model.specs.Reading.{◌>>=◌}
use Rattle.row_records.specs.Reading.{ReadFails, write_at, writes_at}

-- what was read before, and what is still read
abbrev pub with_front : {A : Type 0} → List A → Option (List A × List ℕ) → Option (List A × List ℕ)
with_front front read = read >>= λ x. Some (front ++ x.0, x.1)

-- an item, and then others
abbrev pub with_first : {A : Type 0} → A → Option (List A × List ℕ) → Option (List A × List ℕ)
with_first first read = read >>= λ x. Some (first ∷ x.0, x.1)

regroup : {A : Type 0} (front : List A) (n : A) (read : Option (List A × List ℕ)) → with_front front (with_first n read) ≡ with_front (front ++ n ∷ []) read
regroup {A} front n (Some x) = ap (λ (ns : List A). Some (ns, x.1)) (simp append_assoc)
regroup front n None = refl

-- what is left to read is an item and what is left after it
pub goes_on : {A : Type 0} (front : List A) (n : A) (now after total : Option (List A × List ℕ)) → now ≡ with_first n after → with_front front now ≡ total → with_front (front ++ n ∷ []) after ≡ total
goes_on front n now after total one so_far = sym (ap (with_front front) one ∙ regroup front n after) ∙ so_far

-- what is left to read is not there
pub ends : {A : Type 0} (e : ReadError) (front : List A) (now total : Option (List A × List ℕ)) → ReadFails e now → with_front front now ≡ total → ReadFails e total
ends errors.Memory front now total h so_far = tt
ends errors.Broken front now total h so_far = sym so_far ∙ ap (with_front front) h

pub is_done : {A : Type 0} (front : List A) (bytes : List ℕ) (now total : Option (List A × List ℕ)) → now ≡ Some ([], bytes) → with_front front now ≡ total → total ≡ Some (front, bytes)
is_done {A} front bytes now total h so_far = sym so_far ∙ ap (with_front front) h ∙ ap (λ (ns : List A). Some (ns, bytes)) (append-nil front)

pub one_more : (count i : ℕ) → i < count → count - i ≡ suc (count - (i + 1))
one_more count i lt = omega arith

pub no_more : (count i : ℕ) → count ≤ i → count - i ≡ 0
no_more count i le = omega arith

-- ---- writes

pub write_read : (count i : ℕ) (bytes : List ℕ) (write : Write) (after : List ℕ) → i < count → write_at bytes ≡ Some (write, after) → writes_at (count - i) bytes ≡ with_first write (writes_at (count - (i + 1)) after)
unfolding writes_at
write_read count i bytes write after lt h = rw (one_more count i lt, h) refl

pub write_fails : (e : ReadError) (count i : ℕ) (bytes : List ℕ) → i < count → ReadFails e (write_at bytes) → ReadFails e (writes_at (count - i) bytes)
unfolding writes_at
write_fails errors.Memory count i bytes lt h = tt
write_fails errors.Broken count i bytes lt h = rw (one_more count i lt, h) refl

pub writes_done : (count i : ℕ) (bytes : List ℕ) → count ≤ i → writes_at (count - i) bytes ≡ Some ([], bytes)
unfolding writes_at
writes_done count i bytes le = rw (no_more count i le) refl
