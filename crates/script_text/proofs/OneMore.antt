-- One row more, or one part more, behind the rows so far.
use Rattle.std.proofs.Common.{◌≡◌, ◌<◌, ◌≤◌, ◌+◌, ℕ, List, [], ◌∷◌, ◌++◌, length, map, refl, ap, sym, subst, ◌∙◌, arith, Ok, length-append}
use Rattle.std.specs.List.{AllByRecursion}
use Rattle.row_model.specs.declared.rows.Row.{Row}
use Rattle.row_model.specs.Values.{IsRow}
use Rattle.row_json.specs.Row.{row_of}
use Rattle.row_model.specs.declared.script_fault.Why.TheVariants as why
use Rattle.text_lines.specs.Lines.{lines, lines_of, without_return}
use Rattle.script_text.specs.Commands.{on_line, rows_from}
use Rattle.script_text.proofs.Steps.{AllByRecursion-more, joined, joined_more, with_first}

-- a part behind no rows
pub none_before : (rows part : List Row) → length rows ≡ 0 → part ≡ rows ++ part
none_before [] part none = refl
none_before (row ∷ rows) part none = absurd (omega (arith, none))

-- the rows so far of a part, and the lines that are left of it
abbrev pub AreSoFar : List ℕ → List Row → List ℕ → Type 0
AreSoFar part rows rest = (joined rows (rows_from (length rows + 1) (lines_of rest)) ≡ rows_from 1 (lines_of part)) × (length rows + length rest ≤ length part) × AllByRecursion IsRow rows

-- the row of the next line
pub row_more : (part rest line bytes after : List ℕ) (rows now : List Row) (row lent : Row) (number : ℕ) → AreSoFar part rows rest → lines rest ≡ line ∷ lines after → length after < length rest
    → bytes ≡ without_return line → number ≡ length rows + 1 → on_line number why.Row (row_of bytes) ≡ Ok row → IsRow row → lent ≡ row → now ≡ rows ++ lent ∷ [] → AreSoFar part now after
row_more part rest line bytes after rows now row lent number so_far cut shorter is_bytes place read is_row same put =
    let others = rows_from (length rows + 1 + 1) (lines_of after) in
    let next : lines_of rest ≡ bytes ∷ lines_of after = ap (map without_return) cut ∙ ap (λ (b : List ℕ). b ∷ lines_of after) (sym is_bytes) in
    let first : on_line (length rows + 1) why.Row (row_of bytes) ≡ Ok row = ap (λ (n : ℕ). on_line n why.Row (row_of bytes)) (sym place) ∙ read in
    let whole : joined rows (rows_from (length rows + 1) (lines_of rest)) ≡ joined (rows ++ row ∷ []) others =
    ap (λ (ls : List (List ℕ)). joined rows (rows_from (length rows + 1) ls)) next ∙ ap (λ r. joined rows (with_first r others)) first ∙ joined_more rows row others in
    let size : length (rows ++ row ∷ []) ≡ length rows + 1 = length-append rows (row ∷ []) in
    let pushed : now ≡ rows ++ row ∷ [] = put ∙ ap (λ (r : Row). rows ++ r ∷ []) same in
    subst (λ (rs : List Row). AreSoFar part rs after) (sym pushed) (
      ap (λ (n : ℕ). joined (rows ++ row ∷ []) (rows_from (n + 1) (lines_of after))) size ∙ sym whole ∙ so_far.0,
      omega (arith, size, shorter, so_far.1),
      AllByRecursion-more IsRow rows row so_far.2 is_row,
    )
