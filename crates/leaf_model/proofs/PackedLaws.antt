-- Rows that bytes spell, and bytes that spell rows.
use Rattle.std.proofs.Common.{◌≡◌, ℕ, zero, suc, ◌+◌, ◌-◌, ◌<◌, ◌≤◌, ℤ, Bool, true, false, cond, List, [], ◌∷◌, ◌++◌, length, take, drop, Some, refl, sym, ap, subst, ◌∙◌, arith, is_some, Option, drop-drop, to_z, of_z}
use Rattle.std.specs.Prelude.{IsSome, FitsSigned, int_le, int_lt}
use Rattle.std.specs.Int.{w64}
use Rattle.std.proofs.lemmas.Int.{ints, to_z-of_z}
use Rattle.std.specs.List.{filter, AllByRecursion}
use Rattle.std.proofs.lemmas.Grind.{flat_map-append}
use Rattle.std.proofs.lemmas.List.{append-nil, take_at, drop_at, take-append-drop, length-take-le, length-append, length-drop, length-take}
use Rattle.std.proofs.Math.Seq.{take-length}
use Rattle.std.proofs.lemmas.List.Concat.{flat_map-cons}
use Rattle.std.proofs.lemmas.List.Elements.{filter-append}
use Rattle.row_model.specs.declared.rows.Row.{Row}
use Rattle.leaf_model.specs.Content.{rows_from}
use Rattle.row_model.specs.Values.{IsRow}
use Rattle.leaf_model.specs.Bytes.{row_bytes, rows_bytes, IsBytes}
use Rattle.leaf_model.specs.Reading.{row_at, rows_at}
use Rattle.leaf_model.specs.Fronts.{front_of}
use Rattle.leaf_model.specs.Packed.{packed_rows, ArePacked, IsPacked}
use Rattle.leaf_model.proofs.Fields.{some_is}
use Rattle.leaf_model.proofs.ReadRows.{row_takes, row_again, rows_take, rows_again}

-- what the invariant says of the rows
pub known : (count : ℕ) (bytes : List ℕ) → IsBytes bytes → ArePacked count bytes → IsPacked count bytes (packed_rows count bytes)
known count bytes fits e =
    let t = rows_take count bytes (packed_rows count bytes, []) fits e in
    record { spelled = t.0.parts ∙ append-nil (rows_bytes (packed_rows count bytes)); counted = t.1; rows_fit = t.2 }

-- rows that are spelled are read again
read_again : (count : ℕ) (bytes : List ℕ) (rows : List Row) → IsPacked count bytes rows → rows_at count bytes ≡ Some (rows, [])
read_again count bytes rows p =
    subst (λ (n : ℕ). rows_at n bytes ≡ Some (rows, [])) p.counted
    (ap (rows_at (length rows)) (p.spelled ∙ sym (append-nil (rows_bytes rows))) ∙ rows_again rows [] p.rows_fit)

pub packed_is : (count : ℕ) (bytes : List ℕ) (rows : List Row) → IsPacked count bytes rows → packed_rows count bytes ≡ rows
packed_is count bytes rows p = ap (λ r. front_of r) (read_again count bytes rows p)

pub are_packed : (count : ℕ) (bytes : List ℕ) (rows : List Row) → IsPacked count bytes rows → ArePacked count bytes
are_packed count bytes rows p = read_again count bytes rows p ∙ ap (λ (r : List Row). Some (r, [])) (sym (packed_is count bytes rows p))

-- no rows in no bytes
pub none_packed : (count : ℕ) (bytes : List ℕ) → count ≡ 0 → bytes ≡ [] → ArePacked count bytes × (packed_rows count bytes ≡ [])
none_packed count bytes e f =
    let p : IsPacked count bytes [] = record { spelled = f; counted = sym e; rows_fit = tt } in
    (are_packed count bytes [] p, packed_is count bytes [] p)

-- ---- what holds of each

all-take : {A : Type 0} (P : A → Type 0) (k : ℕ) (xs : List A) → AllByRecursion P xs → AllByRecursion P (take k xs)
all-take P zero xs h = tt
all-take P (suc k) [] h = tt
all-take P (suc k) (x ∷ xs) h = (h.0, all-take P k xs h.1)

all-drop : {A : Type 0} (P : A → Type 0) (k : ℕ) (xs : List A) → AllByRecursion P xs → AllByRecursion P (drop k xs)
all-drop P zero xs h = h
all-drop P (suc k) [] h = tt
all-drop P (suc k) (x ∷ xs) h = all-drop P k xs h.1

all-append : {A : Type 0} (P : A → Type 0) (xs ys : List A) → AllByRecursion P xs → AllByRecursion P ys → AllByRecursion P (xs ++ ys)
all-append P [] ys h k = k
all-append P (x ∷ xs) ys h k = (h.0, all-append P xs ys h.1 k)

all-filter : {A : Type 0} (P : A → Type 0) (p : A → Bool) (xs : List A) → AllByRecursion P xs → AllByRecursion P (filter p xs)
all-filter P p [] h = tt
all-filter {A} P p (x ∷ xs) h = by (p x) (filter p xs) (all-filter P p xs h.1)
  where
    by : (b : Bool) (ys : List A) → AllByRecursion P ys → AllByRecursion P (cond b (x ∷ ys) ys)
    by true ys k = (h.0, k)
    by false ys k = k

from-fit : (horizon : ℤ) (rows : List Row) → AllByRecursion IsRow rows → AllByRecursion IsRow (rows_from horizon rows)
from-fit horizon rows h = all-filter IsRow (λ (row : Row). int_le horizon row.time) rows h

-- ---- the first of them, and the others

-- their bytes are cut where the rows are
cut_bytes : (k : ℕ) (rows : List Row) → rows_bytes rows ≡ rows_bytes (take k rows) ++ rows_bytes (drop k rows)
cut_bytes k rows = ap (λ (w : List Row). rows_bytes w) (sym (take-append-drop k rows)) ∙ flat_map-append row_bytes (take k rows) (drop k rows)

-- so many at the front are read
front_read : (all k : ℕ) (bytes : List ℕ) (rows : List Row) → k ≤ all → IsPacked all bytes rows → rows_at k bytes ≡ Some (take k rows, rows_bytes (drop k rows))
front_read all k bytes rows le p =
    let few : length (take k rows) ≡ k = length-take-le k rows (omega (arith, le, p.counted)) in
    ap (rows_at k) (p.spelled ∙ cut_bytes k rows) ∙ subst (λ (n : ℕ). rows_at n (rows_bytes (take k rows) ++ rows_bytes (drop k rows)) ≡ Some (take k rows, rows_bytes (drop k rows))) few (rows_again (take k rows) (rows_bytes (drop k rows)) (all-take IsRow k rows p.rows_fit))

front_length : (all k : ℕ) (bytes : List ℕ) (rows : List Row) → IsPacked all bytes rows → length bytes ≡ length (rows_bytes (take k rows)) + length (rows_bytes (drop k rows))
front_length all k bytes rows p = ap length (p.spelled ∙ cut_bytes k rows) ∙ length-append (rows_bytes (take k rows)) (rows_bytes (drop k rows))

front_packed : (all k : ℕ) (bytes : List ℕ) (rows : List Row) → k ≤ all → IsPacked all bytes rows → IsPacked k (take (length (rows_bytes (take k rows))) bytes) (take k rows)
front_packed all k bytes rows le p = record {
  spelled = ap (take (length (rows_bytes (take k rows)))) (p.spelled ∙ cut_bytes k rows) ∙ take_at (rows_bytes (take k rows)) (rows_bytes (drop k rows)) (length (rows_bytes (take k rows))) refl;
  counted = length-take-le k rows (omega (arith, le, p.counted));
  rows_fit = all-take IsRow k rows p.rows_fit;
}

back_packed : (all k : ℕ) (bytes : List ℕ) (rows : List Row) → k ≤ all → IsPacked all bytes rows → IsPacked (all - k) (drop (length (rows_bytes (take k rows))) bytes) (drop k rows)
back_packed all k bytes rows le p = record {
  spelled = ap (drop (length (rows_bytes (take k rows)))) (p.spelled ∙ cut_bytes k rows) ∙ drop_at (rows_bytes (take k rows)) (rows_bytes (drop k rows)) (length (rows_bytes (take k rows))) refl;
  counted = length-drop k rows ∙ ap (λ (n : ℕ). n - k) p.counted;
  rows_fit = all-drop IsRow k rows p.rows_fit;
}

-- ---- more of them

pub more_packed : (count added : ℕ) (bytes now : List ℕ) (rows more : List Row) → IsPacked count bytes rows → AllByRecursion IsRow more → now ≡ bytes ++ rows_bytes more → added ≡ length more → IsPacked (count + added) now (rows ++ more)
more_packed count added bytes now rows more p fit e n = record {
  spelled = e ∙ ap (λ (w : List ℕ). w ++ rows_bytes more) p.spelled ∙ sym (flat_map-append row_bytes rows more);
  counted = omega (arith, length-append rows more, p.counted, n);
  rows_fit = all-append IsRow rows more p.rows_fit fit;
}

-- a row takes more than no byte
pub few_rows : (rows : List Row) → length rows ≤ length (rows_bytes rows)
few_rows [] = omega arith
few_rows (row ∷ rows) = omega (arith, few_rows rows, length-append (row_bytes row) (rows_bytes rows), ap length (flat_map-append row_bytes (row ∷ []) rows))

-- ---- the rows from a horizon on

packed_from : (count kept : ℕ) (horizon : ℤ) (bytes now : List ℕ) (rows : List Row) → IsPacked count bytes rows → now ≡ rows_bytes (rows_from horizon rows) → kept ≡ length (rows_from horizon rows) → IsPacked kept now (rows_from horizon rows)
packed_from count kept horizon bytes now rows p e n = record { spelled = e; counted = sym n; rows_fit = from-fit horizon rows p.rows_fit }

-- a time below the horizon, and one that is not
is_late : (horizon time : ℤ) → int_lt time horizon ≡ true → int_le horizon time ≡ false
is_late horizon time lt = by (int_le horizon time) refl
  where
    by : (b : Bool) → int_le horizon time ≡ b → b ≡ false
    by true e = absurd (omega (arith, ints, e, lt))
    by false e = refl

not_late : (horizon time : ℤ) → int_lt time horizon ≡ false → int_le horizon time ≡ true
not_late horizon time ge = by (int_le horizon time) refl
  where
    by : (b : Bool) → int_le horizon time ≡ b → b ≡ true
    by true e = refl
    by false e = absurd (omega (arith, ints, e, ge))

-- the same of a time as it is kept
goes : (horizon time : ℤ) → FitsSigned w64 time → int_lt (to_z w64 (of_z w64 time)) horizon ≡ true → int_le horizon time ≡ false
goes horizon time fits e = is_late horizon time (subst (λ (t : ℤ). int_lt t horizon ≡ true) (to_z-of_z w64 time fits) e)

pub stays : (horizon time : ℤ) → FitsSigned w64 time → int_lt (to_z w64 (of_z w64 time)) horizon ≡ false → int_le horizon time ≡ true
stays horizon time fits e = not_late horizon time (subst (λ (t : ℤ). int_lt t horizon ≡ false) (to_z-of_z w64 time fits) e)

-- ---- what the readers say of bytes that spell rows

pub row_shorter : (bytes : List ℕ) (x : Row × List ℕ) → IsBytes bytes → row_at bytes ≡ Some x → length x.1 ≤ length bytes
row_shorter bytes x fits e = omega (arith, ap length (row_takes bytes x fits e).0.parts, length-append (row_bytes x.0) x.1)

cut_off : (bytes front rest : List ℕ) → bytes ≡ front ++ rest → length bytes - length rest ≡ length front
cut_off bytes front rest e = omega (arith, ap length e, length-append front rest)

pub first_is : (bytes : List ℕ) (read : Row) (after : List ℕ) (row : Row) (rest : List ℕ) → row_at bytes ≡ Some (read, after) → IsRow row → bytes ≡ row_bytes row ++ rest → (read.time ≡ row.time) × (length bytes - length after ≡ length (row_bytes row))
first_is bytes read after row rest e fit parts =
    let same : (read, after) ≡ (row, rest) = some_is (read, after) (row, rest) (sym e ∙ (ap row_at parts ∙ row_again row rest fit)) in
    (ap (λ (x : Row × List ℕ). x.0.time) same, ap (λ (x : Row × List ℕ). length bytes - length x.1) same ∙ cut_off bytes (row_bytes row) rest parts)

some_read : {A : Type 0} (r : Option A) (x : A) → r ≡ Some x → IsSome r
some_read r x e = ap is_some e

pub front_some : (all k : ℕ) (bytes : List ℕ) (rows : List Row) → k ≤ all → IsPacked all bytes rows → IsSome (rows_at k bytes)
front_some all k bytes rows le p = some_read (rows_at k bytes) (take k rows, rows_bytes (drop k rows)) (front_read all k bytes rows le p)

pub front_end : (all k : ℕ) (bytes : List ℕ) (rows : List Row) (front : List Row) (rest : List ℕ) → k ≤ all → IsPacked all bytes rows → rows_at k bytes ≡ Some (front, rest) → length bytes ≡ length (rows_bytes (take k rows)) + length rest
front_end all k bytes rows front rest le p e =
    let same : (front, rest) ≡ (take k rows, rows_bytes (drop k rows)) = some_is (front, rest) (take k rows, rows_bytes (drop k rows)) (sym e ∙ front_read all k bytes rows le p) in
    omega (arith, front_length all k bytes rows p, ap (λ (x : List Row × List ℕ). length x.1) same)

-- ---- one row further

-- the row at a place, between those before it and those behind it
pub record Turn (rows : List Row) (i next : ℕ) : Type 0 where
  pub row : Row
  pub fit : IsRow row
  pub front : take next rows ≡ take i rows ++ row ∷ []
  pub back : drop i rows ≡ row ∷ drop next rows

turn_suc : (rows : List Row) (i : ℕ) → i < length rows → AllByRecursion IsRow rows → Turn rows i (suc i)
turn_suc [] i lt fit = absurd (omega (arith, lt))
turn_suc (row ∷ rows) zero lt fit = record { row = row; fit = fit.0; front = refl; back = refl }
turn_suc (row ∷ rows) (suc i) lt fit =
    let t = turn_suc rows i (omega (arith, lt)) fit.1 in
    record { row = t.row; fit = t.fit; front = ap (λ (w : List Row). row ∷ w) t.front; back = t.back }

turn : (rows : List Row) (i : ℕ) → i < length rows → AllByRecursion IsRow rows → Turn rows i (i + 1)
turn rows i lt fit = subst (λ (n : ℕ). Turn rows i n) (omega arith) (turn_suc rows i lt fit)

-- so far: those of the first rows that stay are in front, and the others stand where they stood
pub record IsMoved (rows : List Row) (horizon : ℤ) (bytes : List ℕ) (total i from to kept : ℕ) : Type 0 where
  pub len : length bytes ≡ total
  pub below : to ≤ from
  pub within : from ≤ length bytes
  pub kept_bytes : take to bytes ≡ rows_bytes (rows_from horizon (take i rows))
  pub left : drop from bytes ≡ rows_bytes (drop i rows)
  pub counted : kept ≡ length (rows_from horizon (take i rows))

-- the bytes of the row at a place, and of those behind it
turn_bytes : (rows : List Row) (i next : ℕ) (t : Turn rows i next) (bytes : List ℕ) → bytes ≡ rows_bytes (drop i rows) → bytes ≡ row_bytes t.row ++ rows_bytes (drop next rows)
turn_bytes rows i next t bytes e = e ∙ ap (λ (w : List Row). rows_bytes w) t.back ∙ flat_map-cons row_bytes t.row (drop next rows)

first_some : (rows : List Row) (i next : ℕ) (t : Turn rows i next) (bytes : List ℕ) → bytes ≡ rows_bytes (drop i rows) → IsSome (row_at bytes)
first_some rows i next t bytes e = some_read (row_at bytes) (t.row, rows_bytes (drop next rows)) (ap row_at (turn_bytes rows i next t bytes e) ∙ row_again t.row (rows_bytes (drop next rows)) t.fit)

slice_rest : (from : ℕ) (bytes : List ℕ) → take (length bytes - from) (drop from bytes) ≡ drop from bytes
slice_rest from bytes = ap (λ (n : ℕ). take n (drop from bytes)) (sym (length-drop from bytes)) ∙ take-length (drop from bytes)

-- where the first of those that are left stands, there is a row
pub row_there : (count : ℕ) (start : List ℕ) (rows : List Row) (horizon : ℤ) (bytes : List ℕ) (total i from to kept : ℕ) → IsPacked count start rows → IsMoved rows horizon bytes total i from to kept → i < count
    → IsSome (row_at (take (length bytes - from) (drop from bytes)))
row_there count start rows horizon bytes total i from to kept p m lt =
    first_some rows i (i + 1) (turn rows i (omega (arith, lt, p.counted)) p.rows_fit) (take (length bytes - from) (drop from bytes)) (slice_rest from bytes ∙ m.left)

-- what is known of a row's time and length
abbrev pub IsFirst : List ℕ → ℤ → ℕ → Type 0
IsFirst bytes time len = (row : Row) (rest : List ℕ) → IsRow row → bytes ≡ row_bytes row ++ rest → (time ≡ row.time) × (len ≡ length (row_bytes row))

-- the next row, and where it stands
pub record Step (rows : List Row) (bytes : List ℕ) (i from : ℕ) (time : ℤ) (len : ℕ) : Type 0 where
  pub row : Row
  pub front : take (i + 1) rows ≡ take i rows ++ row ∷ []
  pub time_is : time ≡ row.time
  pub fits : FitsSigned w64 time
  pub here : take len (drop from bytes) ≡ row_bytes row
  pub left : drop (from + len) bytes ≡ rows_bytes (drop (i + 1) rows)
  pub within : from + len ≤ length bytes

pub step : (count : ℕ) (start : List ℕ) (rows : List Row) (horizon : ℤ) (bytes : List ℕ) (total i from to kept : ℕ) (time : ℤ) (len : ℕ) → IsPacked count start rows → IsMoved rows horizon bytes total i from to kept → i < count
    → IsFirst (take (length bytes - from) (drop from bytes)) time len → Step rows bytes i from time len
step count start rows horizon bytes total i from to kept time len p m lt first =
    let t = turn rows i (omega (arith, lt, p.counted)) p.rows_fit in
    let rest = rows_bytes (drop (i + 1) rows) in
    let parts : drop from bytes ≡ row_bytes t.row ++ rest = turn_bytes rows i (i + 1) t (drop from bytes) m.left in
    let is = first t.row rest t.fit (slice_rest from bytes ∙ parts) in
    let long : length bytes - from ≡ length (row_bytes t.row) + length rest = sym (length-drop from bytes) ∙ ap length parts ∙ length-append (row_bytes t.row) rest in
    record {
      row = t.row;
      front = t.front;
      time_is = is.0;
      fits = subst (λ (z : ℤ). FitsSigned w64 z) (sym is.0) t.fit.time.1;
      here = ap (take len) parts ∙ take_at (row_bytes t.row) rest len (sym is.1);
      left = sym (drop-drop len from bytes) ∙ ap (drop len) parts ∙ drop_at (row_bytes t.row) rest len (sym is.1);
      within = omega (arith, long, is.1, m.within);
    }

from_front : (rows : List Row) (bytes : List ℕ) (i from : ℕ) (time : ℤ) (len : ℕ) (horizon : ℤ) (b : Bool) (s : Step rows bytes i from time len) → int_le horizon time ≡ b → rows_from horizon (take (i + 1) rows) ≡ rows_from horizon (take i rows) ++ cond b (s.row ∷ []) []
from_front rows bytes i from time len horizon b s e =
    ap (λ (w : List Row). rows_from horizon w) s.front ∙ filter-append (λ (row : Row). int_le horizon row.time) (take i rows) (s.row ∷ [])
    ∙ ap (λ (c : Bool). rows_from horizon (take i rows) ++ cond c (s.row ∷ []) []) (ap (λ (t : ℤ). int_le horizon t) (sym s.time_is) ∙ e)

-- a row that goes is passed over
pub goes_by : (rows : List Row) (horizon : ℤ) (bytes : List ℕ) (total i from to kept : ℕ) (time : ℤ) (len : ℕ) → IsMoved rows horizon bytes total i from to kept → Step rows bytes i from time len → int_lt (to_z w64 (of_z w64 time)) horizon ≡ true
    → IsMoved rows horizon bytes total (i + 1) (from + len) to kept
goes_by rows horizon bytes total i from to kept time len m s e =
    let same : rows_from horizon (take (i + 1) rows) ≡ rows_from horizon (take i rows) = from_front rows bytes i from time len horizon false s (goes horizon time s.fits e) ∙ append-nil (rows_from horizon (take i rows)) in
    record {
      len = m.len;
      below = omega (arith, m.below);
      within = s.within;
      kept_bytes = m.kept_bytes ∙ ap (λ (w : List Row). rows_bytes w) (sym same);
      left = s.left;
      counted = m.counted ∙ ap (λ (w : List Row). length w) (sym same);
    }

-- a row that stays is moved down
pub stays_down : (rows : List Row) (horizon : ℤ) (bytes now : List ℕ) (total i from to kept : ℕ) (time : ℤ) (len : ℕ) → IsMoved rows horizon bytes total i from to kept → Step rows bytes i from time len → int_lt (to_z w64 (of_z w64 time)) horizon ≡ false
    → length now ≡ length bytes → take (to + len) now ≡ take to bytes ++ take len (drop from bytes) → drop (from + len) now ≡ drop (from + len) bytes
    → IsMoved rows horizon now total (i + 1) (from + len) (to + len) (kept + 1)
stays_down rows horizon bytes now total i from to kept time len m s e long front back =
    let more : rows_from horizon (take (i + 1) rows) ≡ rows_from horizon (take i rows) ++ s.row ∷ [] = from_front rows bytes i from time len horizon true s (stays horizon time s.fits e) in
    let put : rows_bytes (rows_from horizon (take i rows)) ++ row_bytes s.row ≡ rows_bytes (rows_from horizon (take (i + 1) rows)) =
    ap (λ (w : List ℕ). rows_bytes (rows_from horizon (take i rows)) ++ w) (sym (append-nil (row_bytes s.row))) ∙ ap (λ (w : List ℕ). rows_bytes (rows_from horizon (take i rows)) ++ w) (sym (flat_map-cons row_bytes s.row []))
    ∙ sym (flat_map-append row_bytes (rows_from horizon (take i rows)) (s.row ∷ [])) ∙ ap (λ (w : List Row). rows_bytes w) (sym more) in
    record {
      len = long ∙ m.len;
      below = omega (arith, m.below);
      within = omega (arith, s.within, long);
      kept_bytes = front ∙ ap (λ (w : List ℕ). w ++ take len (drop from bytes)) m.kept_bytes ∙ ap (λ (w : List ℕ). rows_bytes (rows_from horizon (take i rows)) ++ w) s.here ∙ put;
      left = back ∙ s.left;
      counted = omega (arith, m.counted, ap (λ (w : List Row). length w) more, length-append (rows_from horizon (take i rows)) (s.row ∷ []));
    }

few_from : (horizon : ℤ) (rows : List Row) → length (rows_from horizon rows) ≤ length rows
few_from horizon [] = omega arith
few_from horizon (row ∷ rows) = by (int_le horizon row.time) (rows_from horizon rows) (few_from horizon rows)
  where
    by : (b : Bool) (kept : List Row) → length kept ≤ length rows → length (cond b (row ∷ kept) kept) ≤ suc (length rows)
    by true kept h = omega (arith, h)
    by false kept h = omega (arith, h)

pub few_kept : (rows : List Row) (horizon : ℤ) (bytes : List ℕ) (total i from to kept : ℕ) → IsMoved rows horizon bytes total i from to kept → kept ≤ i
few_kept rows horizon bytes total i from to kept m = omega (arith, m.counted, few_from horizon (take i rows), length-take i rows)

-- ---- what each method leaves

carried : (count : ℕ) (slice bytes : List ℕ) → slice ≡ bytes → IsPacked count slice (packed_rows count slice) → IsPacked count bytes (packed_rows count bytes)
carried count slice bytes e p = subst (λ (w : List ℕ). IsPacked count w (packed_rows count w)) e p

-- the same of the rows that a contract sees
pub seen : (count : ℕ) (slice bytes : List ℕ) (old : List Row) → packed_rows count bytes ≡ old → slice ≡ bytes → IsPacked count slice (packed_rows count slice) → IsPacked count bytes old
seen count slice bytes old view e p = subst (λ (rows : List Row). IsPacked count bytes rows) view (carried count slice bytes e p)

-- where the first of them end
end_seen : (all k len : ℕ) (slice bytes : List ℕ) (old : List Row) → packed_rows all bytes ≡ old → slice ≡ bytes → len ≡ length (rows_bytes (take k (packed_rows all slice))) → len ≡ length (rows_bytes (take k old))
end_seen all k len slice bytes old view e is = is ∙ ap (λ (w : List ℕ). length (rows_bytes (take k (packed_rows all w)))) e ∙ ap (λ (rows : List Row). length (rows_bytes (take k rows))) view

pub truncated : (all k len : ℕ) (first slice bytes now : List ℕ) (old : List Row) → packed_rows all bytes ≡ old → first ≡ bytes → slice ≡ bytes → IsPacked all first (packed_rows all first) → k ≤ length old
    → len ≡ length (rows_bytes (take k (packed_rows all slice))) → now ≡ take len bytes → IsPacked k now (take k old)
truncated all k len first slice bytes now old view e f p few is cut =
    let q = seen all first bytes old view e p in
    subst (λ (w : List ℕ). IsPacked k w (take k old)) (sym (cut ∙ ap (λ (n : ℕ). take n bytes) (end_seen all k len slice bytes old view f is)))
    (front_packed all k bytes old (omega (arith, few, q.counted)) q)

pub dropped : (all k len : ℕ) (first slice bytes now : List ℕ) (old : List Row) → packed_rows all bytes ≡ old → first ≡ bytes → slice ≡ bytes → IsPacked all first (packed_rows all first) → k ≤ length old
    → len ≡ length (rows_bytes (take k (packed_rows all slice))) → now ≡ drop len bytes → IsPacked (all - k) now (drop k old)
dropped all k len first slice bytes now old view e f p few is cut =
    let q = seen all first bytes old view e p in
    subst (λ (w : List ℕ). IsPacked (all - k) w (drop k old)) (sym (cut ∙ ap (λ (n : ℕ). drop n bytes) (end_seen all k len slice bytes old view f is)))
    (back_packed all k bytes old (omega (arith, few, q.counted)) q)

pub ends_within : (all k len : ℕ) (first slice bytes : List ℕ) (old : List Row) → packed_rows all bytes ≡ old → first ≡ bytes → slice ≡ bytes → IsPacked all first (packed_rows all first)
    → len ≡ length (rows_bytes (take k (packed_rows all slice))) → len ≤ length bytes
ends_within all k len first slice bytes old view e f p is =
    omega (arith, end_seen all k len slice bytes old view f is, front_length all k bytes old (seen all first bytes old view e p))

pub retained : (count kept : ℕ) (said horizon : ℤ) (first bytes now : List ℕ) (old : List Row) → packed_rows count bytes ≡ old → first ≡ bytes → IsPacked count first (packed_rows count first) → said ≡ horizon
    → now ≡ rows_bytes (rows_from said (packed_rows count bytes)) → kept ≡ length (rows_from said (packed_rows count bytes)) → IsPacked kept now (rows_from horizon old)
retained count kept said horizon first bytes now old view e p same put counted =
    let q = seen count first bytes old view e p in
    let rows : rows_from said (packed_rows count bytes) ≡ rows_from horizon old = ap (λ (h : ℤ). rows_from h (packed_rows count bytes)) same ∙ ap (λ (w : List Row). rows_from horizon w) view in
    packed_from count kept horizon bytes now old q (put ∙ ap (λ (w : List Row). rows_bytes w) rows) (counted ∙ ap (λ (w : List Row). length w) rows)

pub extended : (count added : ℕ) (said horizon : ℤ) (first bytes now : List ℕ) (old more : List Row) → packed_rows count bytes ≡ old → first ≡ bytes → IsPacked count first (packed_rows count first) → said ≡ horizon
    → AllByRecursion IsRow more → now ≡ bytes ++ rows_bytes (rows_from said more) → added ≡ length (rows_from said more) → IsPacked (count + added) now (old ++ rows_from horizon more)
extended count added said horizon first bytes now old more view e p same fit put counted =
    let rows : rows_from said more ≡ rows_from horizon more = ap (λ (h : ℤ). rows_from h more) same in
    more_packed count added bytes now old (rows_from horizon more) (seen count first bytes old view e p) (from-fit horizon more fit)
    (put ∙ ap (λ (w : List Row). bytes ++ rows_bytes w) rows) (counted ∙ ap (λ (w : List Row). length w) rows)

-- there are no more rows than bytes
pub no_more : (count : ℕ) (bytes : List ℕ) (rows : List Row) → IsPacked count bytes rows → count ≤ length bytes
no_more count bytes rows p = omega (arith, p.counted, few_rows rows, ap (λ (w : List ℕ). length w) p.spelled)
