-- One more line, and one more part, of a text whose rows are counted.
use Rattle.std.proofs.Common.{◌≡◌, ℕ, suc, ◌+◌, ◌<◌, ◌≤◌, List, [], ◌∷◌, ◌++◌, map, length, Bool, true, false, cond, Result, Ok, Err, Bor, refl, ap, sym, subst, ◌∙◌, arith, zero-add, add-zero, add_assoc, length-append}
use Rattle.std.specs.List.{AllZip}
use Rattle.std.proofs.lemmas.List.Sums.{sum_by-cons}
use Rattle.row_model.specs.declared.rows.Row.{Row}
use Rattle.row_model.specs.declared.row_fault.RowFault.{RowFault}
use Rattle.row_json.specs.Row.{row_of}
use Rattle.row_count.specs.declared.count.CountError.{CountError}
use Rattle.row_count.specs.declared.count.CountError.TheVariants.{Fault, NoMemory}
use Rattle.row_count.specs.declared.count.LineFault.{LineFault}
use Rattle.row_count.specs.declared.count.PartCount.{PartCount}
use Rattle.row_count.specs.declared.count.Range.{Range}
use Rattle.text_lines.specs.Lines.{lines, lines_of, is_blank, without_return}
use Rattle.text_lines.specs.Parts.{lines_of_parts}
use Rattle.row_count.specs.Count.{IfFault, IsPartCounted, with_row, rows_of_lines, rows_of, is_in, count_in, count_of, error_behind}

-- how many rows are in the range, of the text that follows the line n
abbrev pub count_after : Range → ℕ → List ℕ → Result ℕ LineFault
count_after range n text = count_in range (rows_of_lines (n + 1) (map without_return (lines text)))

-- so many more, where there is no fault
abbrev pub more_by : ℕ → Result ℕ LineFault → Result ℕ LineFault
more_by k (Ok n) = Ok (k + n)
more_by k (Err found) = Err found

pub count_blank : (range : Range) (n : ℕ) (text piece rest : List ℕ) → lines text ≡ piece ∷ lines rest → is_blank (without_return piece) ≡ true → count_after range n text ≡ count_after range (n + 1) rest
count_blank range n text piece rest cut blank = rw (cut, blank)

counted : (range : Range) (n : ℕ) (row : Row) (rows : Result (List Row) LineFault) → count_in range (with_row n (Ok row) rows) ≡ more_by (cond (is_in range row) 1 0) (count_in range rows)
counted range n row (Ok rows) = ap Ok (sum_by-cons _ row rows)
counted range n row (Err found) = refl

pub count_fault : (range : Range) (n : ℕ) (text piece rest : List ℕ) (fault : RowFault) → lines text ≡ piece ∷ lines rest → is_blank (without_return piece) ≡ false → row_of (without_return piece) ≡ Err fault → count_after range n text ≡ Err (record { line = n + 1; fault = fault })
count_fault range n text piece rest fault cut blank is = rw (cut, blank, is)

more_more_first : (d k : ℕ) (more : Result ℕ LineFault) → more_by d (more_by k more) ≡ more_by (d + k) more
more_more_first d k (Ok n) = ap Ok (sym (add_assoc d k n))
more_more_first d k (Err found) = refl

-- a line that is a row, in the range or not
pub count_row : (range : Range) (d n : ℕ) (text piece rest : List ℕ) (row : Row) (is : Bool) → lines text ≡ piece ∷ lines rest → is_blank (without_return piece) ≡ false → row_of (without_return piece) ≡ Ok row → is_in range row ≡ is
    → more_by d (count_after range n text) ≡ more_by (d + cond is 1 0) (count_after range (n + 1) rest)
count_row range d n text piece rest row is cut blank found held =
    ap (more_by d) (rw (cut, blank, found) (counted range (n + 1) row (rows_of_lines (n + 1 + 1) (map without_return (lines rest)))))
    ∙ more_more_first d (cond (is_in range row) 1 0) (count_after range (n + 1) rest)
    ∙ ap (λ b. more_by (d + cond b 1 0) (count_after range (n + 1) rest)) held

from_none : (r : Result ℕ LineFault) → r ≡ more_by 0 r
from_none (Ok k) = ap Ok (sym (zero-add k))
from_none (Err found) = refl

-- from the first line on
pub count_start : (range : Range) (text : List ℕ) → count_of range text ≡ more_by 0 (count_after range 0 text)
unfolding rows_of
count_start range text = from_none (count_of range text)

pub one_line : (text line rest : List ℕ) → lines text ≡ line ∷ lines rest → length (lines_of text) ≡ suc (length (lines_of rest))
one_line text line rest cut = ap (λ (ls : List (List ℕ)). length (map without_return ls)) cut

-- ---- lines one behind another

-- how many rows are in the range, of lines that follow the line n
abbrev pub count_lines : Range → ℕ → List (List ℕ) → Result ℕ LineFault
count_lines range n a = count_in range (rows_of_lines (n + 1) a)

pub count_is : (range : Range) (text : List ℕ) → count_of range text ≡ count_lines range 0 (lines_of text)
unfolding rows_of
count_is range text = refl

-- what was counted, before what is counted after it
abbrev pub count_then : Result ℕ LineFault → Result ℕ LineFault → Result ℕ LineFault
count_then (Ok k) more = more_by k more
count_then (Err found) more = Err found

more_more : (d k : ℕ) (more : Result ℕ LineFault) → more_by d (more_by k more) ≡ more_by (d + k) more
more_more d k (Ok n) = ap Ok (sym (add_assoc d k n))
more_more d k (Err found) = refl

more_then : (d : ℕ) (first more : Result ℕ LineFault) → more_by d (count_then first more) ≡ count_then (more_by d first) more
more_then d (Ok k) more = more_more d k more
more_then d (Err found) more = refl

-- the count with one line more, which is blank, a row or neither
abbrev with_line : Range → ℕ → Bool → Result Row RowFault → Result (List Row) LineFault → Result ℕ LineFault
with_line range n true row rows = count_in range rows
with_line range n false row rows = count_in range (with_row n row rows)

line_is : (range : Range) (n : ℕ) (line : List ℕ) (a : List (List ℕ)) (is : Bool) → is_blank line ≡ is → count_lines range n (line ∷ a) ≡ with_line range (n + 1) (is_blank line) (row_of line) (rows_of_lines (n + 1 + 1) a)
line_is range n line a true is = rw is refl
line_is range n line a false is = rw is refl

then_line : (range : Range) (n : ℕ) (is : Bool) (row : Result Row RowFault) (both rows : Result (List Row) LineFault) (more : Result ℕ LineFault) → count_in range both ≡ count_then (count_in range rows) more
    → with_line range n is row both ≡ count_then (with_line range n is row rows) more
then_line range n true row both rows more later = later
then_line range n false (Ok row) both rows more later =
    counted range n row both ∙ ap (more_by (cond (is_in range row) 1 0)) later ∙ more_then (cond (is_in range row) 1 0) (count_in range rows) more ∙ ap (λ (r : Result ℕ LineFault). count_then r more) (sym (counted range n row rows))
then_line range n false (Err fault) both rows more later = refl

pub lines_joined : (range : Range) (n : ℕ) (a b : List (List ℕ)) → count_lines range n (a ++ b) ≡ count_then (count_lines range n a) (count_lines range (n + length a) b)
lines_joined range n [] b = from_none (count_lines range n b) ∙ ap (λ (k : ℕ). more_by 0 (count_lines range k b)) (sym (add-zero n))
lines_joined range n (line ∷ a) b =
    let e : n + 1 + length a ≡ n + suc (length a) = omega arith in
    line_is range n line (a ++ b) (is_blank line) refl
    ∙ then_line range (n + 1) (is_blank line) (row_of line) (rows_of_lines (n + 1 + 1) (a ++ b)) (rows_of_lines (n + 1 + 1) a) (count_lines range (n + 1 + length a) b) (lines_joined range (n + 1) a b)
    ∙ ap (λ (r : Result ℕ LineFault). count_then r (count_lines range (n + 1 + length a) b)) (sym (line_is range n line a (is_blank line) refl))
    ∙ ap (λ (k : ℕ). count_then (count_lines range n (line ∷ a)) (count_lines range k b)) e

-- the same, behind so many lines more
abbrev pub later : ℕ → Result ℕ LineFault → Result ℕ LineFault
later m (Ok k) = Ok k
later m (Err found) = Err (record { line = m + found.line; fault = found.fault })

later_more : (m d : ℕ) (more : Result ℕ LineFault) → more_by d (later m more) ≡ later m (more_by d more)
later_more m d (Ok k) = refl
later_more m d (Err found) = refl

later_line : (range : Range) (m n : ℕ) (is : Bool) (row : Result Row RowFault) (there here : Result (List Row) LineFault) → count_in range there ≡ later m (count_in range here)
    → with_line range (m + n) is row there ≡ later m (with_line range n is row here)
later_line range m n true row there here shifted = shifted
later_line range m n false (Ok row) there here shifted =
    counted range (m + n) row there ∙ ap (more_by (cond (is_in range row) 1 0)) shifted ∙ later_more m (cond (is_in range row) 1 0) (count_in range here) ∙ ap (later m) (sym (counted range n row here))
later_line range m n false (Err fault) there here shifted = refl

pub lines_shifted : (range : Range) (m n : ℕ) (a : List (List ℕ)) → count_lines range (m + n) a ≡ later m (count_lines range n a)
lines_shifted range m n [] = refl
lines_shifted range m n (line ∷ a) =
    let e : m + n + 1 ≡ m + (n + 1) = omega arith in
    line_is range (m + n) line a (is_blank line) refl ∙ ap (λ (k : ℕ). with_line range k (is_blank line) (row_of line) (rows_of_lines (k + 1) a)) e
    ∙ later_line range m (n + 1) (is_blank line) (row_of line) (rows_of_lines (m + (n + 1) + 1) a) (rows_of_lines (n + 1 + 1) a) (lines_shifted range m (n + 1) a)
    ∙ ap (later m) (sym (line_is range n line a (is_blank line) refl))

-- no more rows than lines, and a fault stands on one of them
abbrev pub Within : ℕ → ℕ → Result ℕ LineFault → Type 0
Within n most (Ok k) = k ≤ most
Within n most (Err found) = found.line < n + most

within_more : (n most d : ℕ) (r : Result ℕ LineFault) → d ≤ 1 → Within (n + 1) most r → Within n (suc most) (more_by d r)
within_more n most d (Ok k) few is = omega (arith, is)
within_more n most d (Err found) few is = omega (arith, is)

within_blank : (n most : ℕ) (r : Result ℕ LineFault) → Within (n + 1) most r → Within n (suc most) r
within_blank n most (Ok k) is = omega (arith, is)
within_blank n most (Err found) is = omega (arith, is)

at_most_one : (b : Bool) → cond b 1 0 ≤ 1
at_most_one true = omega arith
at_most_one false = omega arith

within_line : (range : Range) (n most : ℕ) (is : Bool) (row : Result Row RowFault) (rows : Result (List Row) LineFault) → Within (n + 1) most (count_in range rows) → Within n (suc most) (with_line range n is row rows)
within_line range n most true row rows is = within_blank n most (count_in range rows) is
within_line range n most false (Ok row) rows is =
    subst (Within n (suc most)) (sym (counted range n row rows)) (within_more n most (cond (is_in range row) 1 0) (count_in range rows) (at_most_one (is_in range row)) is)
within_line range n most false (Err fault) rows is = omega arith

pub lines_within : (range : Range) (n : ℕ) (a : List (List ℕ)) → Within (n + 1) (length a) (count_lines range n a)
lines_within range n [] = omega arith
lines_within range n (line ∷ a) =
    subst (Within (n + 1) (suc (length a))) (sym (line_is range n line a (is_blank line) refl)) (within_line range (n + 1) (length a) (is_blank line) (row_of line) (rows_of_lines (n + 1 + 1) a) (lines_within range (n + 1) a))

-- ---- parts counted one behind another

-- the parts in front have so many lines and rows, and what was counted of the others is left
pub record AreCounted (range : Range) (text : List ℕ) (lines rows : ℕ) (counts : List (Result PartCount CountError)) : Type 0 where
  pub left : List (Bor (List ℕ))
  pub whole : more_by rows (count_lines range lines (lines_of_parts left)) ≡ count_of range text
  pub count : lines + length (lines_of_parts left) ≡ length (lines_of text)
  pub within : rows ≤ lines
  pub each : AllZip (λ (part : Bor (List ℕ)) one. IsPartCounted range part.now one) left counts

pub none_counted : (range : Range) (text : List ℕ) (parts : List (Bor (List ℕ))) (all counts : List (Result PartCount CountError)) → lines_of_parts parts ≡ lines_of text → counts ≡ all
    → AllZip (λ (part : Bor (List ℕ)) one. IsPartCounted range part.now one) parts all → AreCounted range text 0 0 counts
none_counted range text parts all counts cut same each = record {
  left = parts;
  whole = sym (from_none (count_lines range 0 (lines_of_parts parts))) ∙ ap (count_lines range 0) cut ∙ sym (count_is range text);
  count = zero-add (length (lines_of_parts parts)) ∙ ap length cut;
  within = omega arith;
  each = subst (AllZip (λ (part : Bor (List ℕ)) one. IsPartCounted range part.now one) parts) (sym same) each;
}

-- the part that was counted next
record IsNext (range : Range) (one : Result PartCount CountError) (left : List (Bor (List ℕ))) (rest : List (Result PartCount CountError)) : Type 0 where
  part : List ℕ
  others : List (Bor (List ℕ))
  cut : lines_of_parts left ≡ lines_of part ++ lines_of_parts others
  is : IsPartCounted range part one
  each : AllZip (λ (p : Bor (List ℕ)) r. IsPartCounted range p.now r) others rest

next_of : (range : Range) (one : Result PartCount CountError) (left : List (Bor (List ℕ))) (rest : List (Result PartCount CountError)) → AllZip (λ (p : Bor (List ℕ)) r. IsPartCounted range p.now r) left (one ∷ rest)
    → IsNext range one left rest
next_of range one [] rest each = absurd each
next_of range one (p ∷ left) rest each = record { part = p.now; others = left; cut = refl; is = each.0; each = each.1 }

then_ok : (range : Range) (m rows k : ℕ) (a b : List (List ℕ)) → count_lines range 0 a ≡ Ok k → more_by rows (count_lines range m (a ++ b)) ≡ more_by (rows + k) (count_lines range (m + length a) b)
then_ok range m rows k a b is =
    let first : count_lines range m a ≡ Ok k = ap (λ (n : ℕ). count_lines range n a) (sym (add-zero m)) ∙ lines_shifted range m 0 a ∙ ap (later m) is in
    ap (more_by rows) (lines_joined range m a b ∙ ap (λ (r : Result ℕ LineFault). count_then r (count_lines range (m + length a) b)) first) ∙ more_more rows k (count_lines range (m + length a) b)

then_err : (range : Range) (m rows : ℕ) (a b : List (List ℕ)) (found : LineFault) → count_lines range 0 a ≡ Err found → more_by rows (count_lines range m (a ++ b)) ≡ Err (record { line = m + found.line; fault = found.fault })
then_err range m rows a b found is =
    let first : count_lines range m a ≡ Err (record { line = m + found.line; fault = found.fault }) = ap (λ (n : ℕ). count_lines range n a) (sym (add-zero m)) ∙ lines_shifted range m 0 a ∙ ap (later m) is in
    ap (more_by rows) (lines_joined range m a b ∙ ap (λ (r : Result ℕ LineFault). count_then r (count_lines range (m + length a) b)) first)

module _ (range : Range) (text : List ℕ) (lines rows : ℕ) (counts rest : List (Result PartCount CountError)) (one : Result PartCount CountError)
    (so_far : AreCounted range text lines rows counts) (front : counts ≡ one ∷ rest) where
  next : IsNext range one so_far.left rest
  next = next_of range one so_far.left rest (subst (AllZip (λ (p : Bor (List ℕ)) r. IsPartCounted range p.now r) so_far.left) front so_far.each)

  whole_cut : more_by rows (count_lines range lines (lines_of next.part ++ lines_of_parts next.others)) ≡ count_of range text
  whole_cut = subst (λ (a : List (List ℕ)). more_by rows (count_lines range lines a) ≡ count_of range text) next.cut so_far.whole

  count_cut : lines + (length (lines_of next.part) + length (lines_of_parts next.others)) ≡ length (lines_of text)
  count_cut = ap (λ (k : ℕ). lines + k) (sym (length-append (lines_of next.part) (lines_of_parts next.others)) ∙ ap length (sym next.cut)) ∙ so_far.count

  next_ok : (count : PartCount) → one ≡ Ok count → IsPartCounted range next.part (Ok count)
  next_ok count ok = subst (IsPartCounted range next.part) ok next.is

  few_rows : (count : PartCount) → one ≡ Ok count → count.rows ≤ length (lines_of next.part)
  few_rows count ok = subst (Within 1 (length (lines_of next.part))) (sym (count_is range next.part) ∙ (next_ok count ok).rows) (lines_within range 0 (lines_of next.part))

  -- the sums are no more than the lines of the text
  pub counts_fit : (count : PartCount) → one ≡ Ok count → (lines + count.lines ≤ length (lines_of text)) × (rows + count.rows ≤ length (lines_of text))
  counts_fit count ok =
      let many = (next_ok count ok).lines in
      let few = few_rows count ok in
      (omega (arith, count_cut, many), omega (arith, count_cut, few, so_far.within))

  pub one_counted : (count : PartCount) → one ≡ Ok count → AreCounted range text (lines + count.lines) (rows + count.rows) rest
  one_counted count ok =
      let many = (next_ok count ok).lines in
      let few = few_rows count ok in
      record {
        left = next.others;
        whole = ap (λ (k : ℕ). more_by (rows + count.rows) (count_lines range (lines + k) (lines_of_parts next.others))) many
            ∙ sym (then_ok range lines rows count.rows (lines_of next.part) (lines_of_parts next.others) (sym (count_is range next.part) ∙ (next_ok count ok).rows)) ∙ whole_cut;
        count = omega (arith, count_cut, many);
        within = omega (arith, many, few, so_far.within);
        each = next.each;
      }

  fits_by : (error : CountError) (most : ℕ) → IsPartCounted range next.part (Err error) → length (lines_of text) < most → IfFault error (λ found. lines + found.line < most)
  fits_by (Fault found) most is place =
      let within = subst (Within 1 (length (lines_of next.part))) (sym (count_is range next.part) ∙ is.refused) (lines_within range 0 (lines_of next.part)) in
      omega (arith, count_cut, within, place)
  fits_by NoMemory most is place = tt

  -- the fault's line has a number
  pub error_fits : (error : CountError) (most : ℕ) → one ≡ Err error → length (lines_of text) < most → IfFault error (λ found. lines + found.line < most)
  error_fits error most err place = fits_by error most (subst (IsPartCounted range next.part) err next.is) place

  refused_by : (error : CountError) → IsPartCounted range next.part (Err error) → IfFault (error_behind lines error) (λ found. count_of range text ≡ Err found)
  refused_by (Fault found) is = sym whole_cut ∙ then_err range lines rows (lines_of next.part) (lines_of_parts next.others) found (sym (count_is range next.part) ∙ is.refused)
  refused_by NoMemory is = tt

  -- the first fault
  pub part_refused : (error told : CountError) → one ≡ Err error → told ≡ error_behind lines error → IfFault told (λ found. count_of range text ≡ Err found)
  part_refused error told err is = subst (λ (e : CountError). IfFault e (λ found. count_of range text ≡ Err found)) (sym is) (refused_by error (subst (IsPartCounted range next.part) err next.is))

none_left : (range : Range) (left : List (Bor (List ℕ))) (counts : List (Result PartCount CountError)) → counts ≡ [] → AllZip (λ (p : Bor (List ℕ)) r. IsPartCounted range p.now r) left counts → left ≡ []
none_left range [] counts none each = refl
none_left range (p ∷ left) counts none each = absurd (subst (AllZip (λ (p : Bor (List ℕ)) r. IsPartCounted range p.now r) (p ∷ left)) none each)

-- the lines of all parts were counted
pub all_lines : (range : Range) (text : List ℕ) (lines rows : ℕ) (counts : List (Result PartCount CountError)) → AreCounted range text lines rows counts → counts ≡ [] → lines ≡ length (lines_of text)
all_lines range text lines rows counts are none =
    let empty = none_left range are.left counts none are.each in
    let whole : lines + length (lines_of_parts []) ≡ length (lines_of text) = subst (λ (ps : List (Bor (List ℕ))). lines + length (lines_of_parts ps) ≡ length (lines_of text)) empty are.count in
    sym (add-zero lines) ∙ whole

-- all parts were counted
pub all_counted : (range : Range) (text : List ℕ) (lines rows : ℕ) (counts : List (Result PartCount CountError)) → AreCounted range text lines rows counts → counts ≡ [] → count_of range text ≡ Ok rows
all_counted range text lines rows counts are none =
    let empty = none_left range are.left counts none are.each in
    let whole : more_by rows (count_lines range lines []) ≡ count_of range text = subst (λ (ps : List (Bor (List ℕ))). more_by rows (count_lines range lines (lines_of_parts ps)) ≡ count_of range text) empty are.whole in
    sym whole ∙ ap Ok (add-zero rows)
