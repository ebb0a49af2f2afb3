-- The rows of a text, and how many have a time in a range.
use Rattle.std.specs.Prelude.{◌≡◌, ℕ, ◌+◌, ◌&&◌, List, [], ◌∷◌, map, count_by, length, Bool, if◌then◌else◌, Result, Ok, Err, IfOk, IfErr}
use Rattle.std.specs.Int.RustNames.{int_le}
use Rattle.row_model.specs.declared.rows.Row.{Row}
use Rattle.row_model.specs.declared.row_fault.RowFault.{RowFault}
use Rattle.row_json.specs.Row.{row_of}
use Rattle.text_lines.specs.Lines.{lines, lines_of, without_return, is_blank}
use Rattle.row_count.specs.declared.count.CountError.{CountError}
use Rattle.row_count.specs.declared.count.CountError.TheVariants.{Fault, NoMemory}
use Rattle.row_count.specs.declared.count.LineFault.{LineFault}
use Rattle.row_count.specs.declared.count.PartCount.{PartCount}
use Rattle.row_count.specs.declared.count.Range.{Range}

-- the row of line n before the rows of the lines after it, or the first fault
abbrev pub with_row : ℕ → Result Row RowFault → Result (List Row) LineFault → Result (List Row) LineFault
with_row n (Ok row) (Ok rows) = Ok (row ∷ rows)
with_row n (Ok row) (Err found) = Err found
with_row n (Err fault) more = Err (record { line = n; fault = fault })

-- The rows of the lines from number n on, or the first line that is no row. Blank lines are no rows, but have numbers.
abbrev pub rows_of_lines : ℕ → List (List ℕ) → Result (List Row) LineFault
rows_of_lines n [] = Ok []
rows_of_lines n (line ∷ more) = if is_blank line then rows_of_lines (n + 1) more else with_row n (row_of line) (rows_of_lines (n + 1) more)

-- the rows of a text, or its first line that is no row
unfoldable pub rows_of : List ℕ → Result (List Row) LineFault
rows_of text = rows_of_lines 1 (map without_return (lines text))

abbrev pub is_in : Range → Row → Bool
is_in range row = int_le range.from row.time && int_le row.time range.to

-- how many of the rows are in the range
abbrev pub count_in : Range → Result (List Row) LineFault → Result ℕ LineFault
count_in range (Ok rows) = Ok (count_by (is_in range) rows)
count_in range (Err found) = Err found

-- how many rows of a text are in the range, or its first line that is no row
abbrev pub count_of : Range → List ℕ → Result ℕ LineFault
count_of range text = count_in range (rows_of text)

-- the property holds of the fault, unless memory ran out
abbrev pub IfFault : CountError → (LineFault → Type 0) → Type 0
IfFault (Fault found) P = P found
IfFault NoMemory P = Unit {0}

-- the count of a part of a text, whose first line has the number 1
pub record IsPartCounted (range : Range) (part : List ℕ) (counted : Result PartCount CountError) : Type 0 where
  pub lines : IfOk counted (λ count. count.lines ≡ length (lines_of part))
  pub rows : IfOk counted (λ count. count_of range part ≡ Ok count.rows)
  pub refused : IfErr counted (λ e. IfFault e (λ f. count_of range part ≡ Err f))

-- the error of a part that follows `lines` lines: the line of a fault counts from the first of all
abbrev pub error_behind : ℕ → CountError → CountError
error_behind lines (Fault found) = Fault (record { line = lines + found.line; fault = found.fault })
error_behind lines NoMemory = NoMemory

-- the count of a part, added to the count of what is before it
pub record IsCountedBehind (range : Range) (before : PartCount) (part : List ℕ) (counted : Result PartCount CountError) : Type 0 where
  pub lines : IfOk counted (λ count. count.lines ≡ before.lines + length (lines_of part))
  pub rows : IfOk counted (λ count. (k : ℕ) × (count_of range part ≡ Ok k) × (count.rows ≡ before.rows + k))
  pub refused : IfErr counted (λ e. (first : CountError) × (e ≡ error_behind before.lines first) × IfFault first (λ f. count_of range part ≡ Err f))
