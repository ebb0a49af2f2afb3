-- A text that is cut at line ends means what its parts mean.
use Rattle.std.proofs.Common.{◌≡◌, ◌<◌, ◌≤◌, ◌+◌, ◌-◌, ◌⊎◌, inl, inr, ℕ, suc, zero, List, [], ◌∷◌, ◌++◌, length, take, drop, map, refl, ap, sym, subst, ◌∙◌, arith, zero-add, Bool, true, false, eqb, Result, Ok, Err, Bor, add-zero, append_assoc, length-append}
use Rattle.std.specs.Prelude.{IfOk, IfErr}
use Rattle.std.specs.List.{AllByRecursion, AllZip, onto_first}
use Rattle.std.proofs.lemmas.Bool.{eqb-true}
use Rattle.std.proofs.lemmas.List.{append-nil, append_cancel_right, map-append, take-append-drop, take_at, drop_at, take_rest, length-map, length-drop}
use Rattle.row_model.specs.declared.rows.Row.{Row}
use Rattle.row_model.specs.Values.{IsRow}
use Rattle.row_model.specs.declared.row_fault.RowFault.{RowFault}
use Rattle.row_json.specs.Row.{row_of}
use Rattle.row_model.specs.declared.script_fault.ScriptFault.{ScriptFault}
use Rattle.row_model.specs.declared.script_fault.ScriptFault.TheVariants.{At, NoMemory}
use Rattle.row_model.specs.declared.script_fault.Why.TheVariants as why
use Rattle.text_lines.specs.Lines.{before, bytes_after, lines, lines_of, without_return}
use Rattle.script_text.specs.Commands.{Fault, on_line, rows_from}
use Rattle.script_text.specs.Script.{IfAt}
use Rattle.script_text.specs.Parts.{IsPartRead, fault_behind}
use Rattle.text_lines.specs.Parts.{lines_of_parts}
use Rattle.script_text.proofs.Steps.{joined, with_first}

-- ---- rows of lines one behind another

-- what was read, before what is read after it
abbrev rows_then : Result (List Row) Fault → Result (List Row) Fault → Result (List Row) Fault
rows_then (Ok rows) more = joined rows more
rows_then (Err found) more = Err found

then_first : (first : Result Row Fault) (rows more : Result (List Row) Fault) → with_first first (rows_then rows more) ≡ rows_then (with_first first rows) more
then_first (Ok row) (Ok rows) (Ok more) = refl
then_first (Ok row) (Ok rows) (Err found) = refl
then_first (Ok row) (Err found) more = refl
then_first (Err found) rows more = refl

then_none : (more : Result (List Row) Fault) → more ≡ joined [] more
then_none (Ok rows) = refl
then_none (Err found) = refl

rows_joined : (n : ℕ) (a b : List (List ℕ)) → rows_from n (a ++ b) ≡ rows_then (rows_from n a) (rows_from (n + length a) b)
rows_joined n [] b = ap (λ (k : ℕ). rows_from k b) (sym (add-zero n)) ∙ then_none (rows_from (n + 0) b)
rows_joined n (line ∷ a) b =
    let e : n + 1 + length a ≡ n + suc (length a) = omega arith in
    ap (with_first (on_line n why.Row (row_of line))) (rows_joined (n + 1) a b) ∙ then_first (on_line n why.Row (row_of line)) (rows_from (n + 1) a) (rows_from (n + 1 + length a) b)
    ∙ ap (λ (k : ℕ). rows_then (with_first (on_line n why.Row (row_of line)) (rows_from (n + 1) a)) (rows_from k b)) e

-- the same, behind so many lines more
abbrev later : ℕ → Result (List Row) Fault → Result (List Row) Fault
later m (Ok rows) = Ok rows
later m (Err found) = Err (m + found.0, found.1)

later_first : (m n : ℕ) (first : Result Row RowFault) (rows : Result (List Row) Fault) → with_first (on_line (m + n) why.Row first) (later m rows) ≡ later m (with_first (on_line n why.Row first) rows)
later_first m n (Ok row) (Ok rows) = refl
later_first m n (Ok row) (Err found) = refl
later_first m n (Err fault) rows = refl

rows_shifted : (m n : ℕ) (a : List (List ℕ)) → rows_from (m + n) a ≡ later m (rows_from n a)
rows_shifted m n [] = refl
rows_shifted m n (line ∷ a) =
    let e : m + n + 1 ≡ m + (n + 1) = omega arith in
    ap (λ (k : ℕ). with_first (on_line (m + n) why.Row (row_of line)) (rows_from k a)) e ∙ ap (with_first (on_line (m + n) why.Row (row_of line))) (rows_shifted m (n + 1) a)
    ∙ later_first m n (row_of line) (rows_from (n + 1) a)

-- as many rows as lines
count_first : (k : ℕ) (first : Result Row Fault) (rows : Result (List Row) Fault) → IfOk rows (λ rs. length rs ≡ k) → IfOk (with_first first rows) (λ rs. length rs ≡ suc k)
count_first k (Ok row) (Ok rows) is = ap suc is
count_first k (Ok row) (Err found) is = tt
count_first k (Err found) rows is = tt

rows_count : (n : ℕ) (a : List (List ℕ)) → IfOk (rows_from n a) (λ rs. length rs ≡ length a)
rows_count n [] = refl
rows_count n (line ∷ a) = count_first (length a) (on_line n why.Row (row_of line)) (rows_from (n + 1) a) (rows_count (n + 1) a)

-- a fault stands on one of the lines
fault_first : (n k : ℕ) (first : Result Row RowFault) (rows : Result (List Row) Fault) → IfErr rows (λ found. found.0 < n + 1 + k) → IfErr (with_first (on_line n why.Row first) rows) (λ found. found.0 < n + suc k)
fault_first n k (Ok row) (Ok rows) is = tt
fault_first n k (Ok row) (Err found) is = omega (arith, is)
fault_first n k (Err fault) rows is = omega arith

rows_fault : (n : ℕ) (a : List (List ℕ)) → IfErr (rows_from n a) (λ found. found.0 < n + length a)
rows_fault n [] = tt
rows_fault n (line ∷ a) = fault_first n (length a) (row_of line) (rows_from (n + 1) a) (rows_fault (n + 1) a)

-- ---- a text read by one thread, where so many lines stand before it

pub alone_read : (number : ℕ) (a : List (List ℕ)) (rows : List Row) → rows_from 1 a ≡ Ok rows → (rows_from (number + 1) a ≡ Ok rows) × (length rows ≡ length a)
alone_read number a rows is =
    (rows_shifted number 1 a ∙ ap (later number) is, subst (λ (r : Result (List Row) Fault). IfOk r (λ rs. length rs ≡ length a)) is (rows_count 1 a))

pub alone_fits : (number : ℕ) (a : List (List ℕ)) (fault : ScriptFault) (most : ℕ) → IfAt fault (λ line why. rows_from 1 a ≡ Err (line, why)) → number + length a < most → IfAt fault (λ line why. number + line < most)
alone_fits number a (At line why) most is place =
    let near : line < 1 + length a = subst (λ (r : Result (List Row) Fault). IfErr r (λ found. found.0 < 1 + length a)) is (rows_fault 1 a) in
    omega (arith, near, place)
alone_fits number a NoMemory most is place = tt

pub alone_refused : (number : ℕ) (a : List (List ℕ)) (fault told : ScriptFault) → IfAt fault (λ line why. rows_from 1 a ≡ Err (line, why)) → told ≡ fault_behind number fault → IfAt told (λ line why. rows_from (number + 1) a ≡ Err (line, why))
alone_refused number a fault told is same = subst (λ (f : ScriptFault). IfAt f (λ line why. rows_from (number + 1) a ≡ Err (line, why))) (sym same) (by fault is) where
  by : (f : ScriptFault) → IfAt f (λ line why. rows_from 1 a ≡ Err (line, why)) → IfAt (fault_behind number f) (λ line why. rows_from (number + 1) a ≡ Err (line, why))
  by (At line why) is = rows_shifted number 1 a ∙ ap (later number) is
  by NoMemory is = tt

-- ---- parts read one behind another

joined_joined : (rows more : List Row) (others : Result (List Row) Fault) → joined rows (joined more others) ≡ joined (rows ++ more) others
joined_joined rows more (Ok others) = ap Ok (sym (append_assoc rows more others))
joined_joined rows more (Err found) = refl

-- the parts in front have these rows, and what was read of the others is left
pub record AreRead (number : ℕ) (text : List ℕ) (rows : List Row) (read : List (Result (List Row) ScriptFault)) : Type 0 where
  pub left : List (Bor (List ℕ))
  pub whole : joined rows (rows_from (number + length rows + 1) (lines_of_parts left)) ≡ rows_from (number + 1) (lines_of text)
  pub count : length rows + length (lines_of_parts left) ≡ length (lines_of text)
  pub are_rows : AllByRecursion IsRow rows
  pub each : AllZip (λ (part : Bor (List ℕ)) one. IsPartRead part.now one) left read

pub none_read : (number : ℕ) (text : List ℕ) (rows : List Row) (parts : List (Bor (List ℕ))) (reads read : List (Result (List Row) ScriptFault)) → rows ≡ [] → read ≡ reads → lines_of_parts parts ≡ lines_of text
    → AllZip (λ (part : Bor (List ℕ)) one. IsPartRead part.now one) parts reads → AreRead number text rows read
none_read number text rows parts reads read none same cut each = rw (none, same) (record {
  left = parts;
  whole = sym (then_none (rows_from (number + 0 + 1) (lines_of_parts parts))) ∙ ap (λ (k : ℕ). rows_from (k + 1) (lines_of_parts parts)) (add-zero number) ∙ ap (rows_from (number + 1)) cut;
  count = zero-add (length (lines_of_parts parts)) ∙ ap length cut;
  are_rows = tt;
  each = each;
})

-- the part that was read next
record IsNext (one : Result (List Row) ScriptFault) (left : List (Bor (List ℕ))) (rest : List (Result (List Row) ScriptFault)) : Type 0 where
  part : List ℕ
  others : List (Bor (List ℕ))
  cut : lines_of_parts left ≡ lines_of part ++ lines_of_parts others
  is : IsPartRead part one
  each : AllZip (λ (p : Bor (List ℕ)) r. IsPartRead p.now r) others rest

next_of : (one : Result (List Row) ScriptFault) (left : List (Bor (List ℕ))) (rest : List (Result (List Row) ScriptFault)) → AllZip (λ (p : Bor (List ℕ)) r. IsPartRead p.now r) left (one ∷ rest) → IsNext one left rest
next_of one [] rest each = absurd each
next_of one (p ∷ left) rest each = record { part = p.now; others = left; cut = refl; is = each.0; each = each.1 }

all-append : (P : Row → Type 0) (a b : List Row) → AllByRecursion P a → AllByRecursion P b → AllByRecursion P (a ++ b)
all-append P [] b first others = others
all-append P (row ∷ a) b first others = (first.0, all-append P a b first.1 others)

shifted_ok : (m : ℕ) (rows more : List Row) (a b : List (List ℕ)) → rows_from 1 a ≡ Ok more → joined rows (rows_from (m + 1) (a ++ b)) ≡ joined (rows ++ more) (rows_from (m + 1 + length a) b)
shifted_ok m rows more a b is =
    let first : rows_from (m + 1) a ≡ Ok more = rows_shifted m 1 a ∙ ap (later m) is in
    ap (joined rows) (rows_joined (m + 1) a b ∙ ap (λ (r : Result (List Row) Fault). rows_then r (rows_from (m + 1 + length a) b)) first) ∙ joined_joined rows more (rows_from (m + 1 + length a) b)

shifted_err : (m : ℕ) (rows : List Row) (a b : List (List ℕ)) (found : Fault) → rows_from 1 a ≡ Err found → joined rows (rows_from (m + 1) (a ++ b)) ≡ Err (m + found.0, found.1)
shifted_err m rows a b found is =
    let first : rows_from (m + 1) a ≡ Err (m + found.0, found.1) = rows_shifted m 1 a ∙ ap (later m) is in
    ap (joined rows) (rows_joined (m + 1) a b ∙ ap (λ (r : Result (List Row) Fault). rows_then r (rows_from (m + 1 + length a) b)) first)

module _ (number : ℕ) (text : List ℕ) (rows : List Row) (read rest : List (Result (List Row) ScriptFault)) (one : Result (List Row) ScriptFault)
    (so_far : AreRead number text rows read) (front : read ≡ one ∷ rest) where
  next : IsNext one so_far.left rest
  next = next_of one so_far.left rest (subst (AllZip (λ (p : Bor (List ℕ)) r. IsPartRead p.now r) so_far.left) front so_far.each)

  whole_cut : joined rows (rows_from (number + length rows + 1) (lines_of next.part ++ lines_of_parts next.others)) ≡ rows_from (number + 1) (lines_of text)
  whole_cut = subst (λ (ls : List (List ℕ)). joined rows (rows_from (number + length rows + 1) ls) ≡ rows_from (number + 1) (lines_of text)) next.cut so_far.whole

  count_cut : length rows + (length (lines_of next.part) + length (lines_of_parts next.others)) ≡ length (lines_of text)
  count_cut = ap (λ (k : ℕ). length rows + k) (sym (length-append (lines_of next.part) (lines_of_parts next.others)) ∙ ap length (sym next.cut)) ∙ so_far.count

  pub one_read : (more now : List Row) → one ≡ Ok more → now ≡ rows ++ more → AreRead number text now rest
  one_read more now ok items =
      let is : IsPartRead next.part (Ok more) = subst (IsPartRead next.part) ok next.is in
      let many : length more ≡ length (lines_of next.part) = subst (λ (r : Result (List Row) Fault). IfOk r (λ rs. length rs ≡ length (lines_of next.part))) is.exact (rows_count 1 (lines_of next.part)) in
      let size : length (rows ++ more) ≡ length rows + length more = length-append rows more in
      let e : number + length rows + 1 + length (lines_of next.part) ≡ number + length (rows ++ more) + 1 = omega arith in
      subst (λ (rs : List Row). AreRead number text rs rest) (sym items) (record {
        left = next.others;
        whole = ap (λ (k : ℕ). joined (rows ++ more) (rows_from k (lines_of_parts next.others))) (sym e)
            ∙ sym (shifted_ok (number + length rows) rows more (lines_of next.part) (lines_of_parts next.others) is.exact) ∙ whole_cut;
        count = omega (arith, count_cut);
        are_rows = all-append IsRow rows more so_far.are_rows is.are_rows;
        each = next.each;
      })

  fault_fits_by : (fault : ScriptFault) → one ≡ Err fault → IsPartRead next.part (Err fault) → IfAt fault (λ line why. line < 1 + length (lines_of next.part))
  fault_fits_by (At line why) err is = subst (λ (r : Result (List Row) Fault). IfErr r (λ found. found.0 < 1 + length (lines_of next.part))) is.exact (rows_fault 1 (lines_of next.part))
  fault_fits_by NoMemory err is = tt

  fits_by : (fault : ScriptFault) (most bytes_after : ℕ) → bytes_after ≡ number + length rows → IfAt fault (λ line why. line < 1 + length (lines_of next.part)) → number + length (lines_of text) < most → IfAt fault (λ line why. bytes_after + line < most)
  fits_by (At line why) most bytes_after many is place = omega (arith, count_cut, is, place)
  fits_by NoMemory most bytes_after many is place = tt

  -- the fault's line has a number
  pub fault_fits : (fault : ScriptFault) (most bytes_after : ℕ) → one ≡ Err fault → bytes_after ≡ number + length rows → number + length (lines_of text) < most → IfAt fault (λ line why. bytes_after + line < most)
  fault_fits fault most bytes_after err many place = fits_by fault most bytes_after many (fault_fits_by fault err (subst (IsPartRead next.part) err next.is)) place

  refused_by : (fault : ScriptFault) → IsPartRead next.part (Err fault) → IfAt (fault_behind (number + length rows) fault) (λ line why. rows_from (number + 1) (lines_of text) ≡ Err (line, why))
  refused_by (At line why) is = sym whole_cut ∙ shifted_err (number + length rows) rows (lines_of next.part) (lines_of_parts next.others) (line, why) is.exact
  refused_by NoMemory is = tt

  -- the first fault
  pub part_refused : (fault told : ScriptFault) (bytes_after : ℕ) → one ≡ Err fault → bytes_after ≡ number + length rows → told ≡ fault_behind bytes_after fault → IfAt told (λ line why. rows_from (number + 1) (lines_of text) ≡ Err (line, why))
  part_refused fault told bytes_after err many is =
      subst (λ (f : ScriptFault). IfAt f (λ line why. rows_from (number + 1) (lines_of text) ≡ Err (line, why))) (sym (is ∙ ap (λ (k : ℕ). fault_behind k fault) many)) (refused_by fault (subst (IsPartRead next.part) err next.is))

none_left : (left : List (Bor (List ℕ))) (read : List (Result (List Row) ScriptFault)) → read ≡ [] → AllZip (λ (p : Bor (List ℕ)) r. IsPartRead p.now r) left read → left ≡ []
none_left [] read none each = refl
none_left (p ∷ left) read none each = absurd (subst (AllZip (λ (p : Bor (List ℕ)) r. IsPartRead p.now r) (p ∷ left)) none each)

-- all parts were read
pub all_read : (number : ℕ) (text : List ℕ) (rows : List Row) (read : List (Result (List Row) ScriptFault)) → AreRead number text rows read → read ≡ [] → (rows_from (number + 1) (lines_of text) ≡ Ok rows) × (length rows ≡ length (lines_of text))
all_read number text rows read are none =
    let empty = none_left are.left read none are.each in
    let whole : joined rows (Ok []) ≡ rows_from (number + 1) (lines_of text) = subst (λ (ps : List (Bor (List ℕ))). joined rows (rows_from (number + length rows + 1) (lines_of_parts ps)) ≡ rows_from (number + 1) (lines_of text)) empty are.whole in
    let count : length rows + 0 ≡ length (lines_of text) = subst (λ (ps : List (Bor (List ℕ))). length rows + length (lines_of_parts ps) ≡ length (lines_of text)) empty are.count in
    (sym whole ∙ ap Ok (append-nil rows), omega (arith, count))
