-- Bytes have one reading.
use Rattle.std.proofs.Common.{◌≡◌, ℕ, List, length, Option, unwrap_or, sym, ap, ◌∙◌}
use Rattle.std.proofs.lemmas.List.FromFn.{length-map-range_with_len}
use Rattle.row_model.specs.declared.rows.Value.{Value}
use Rattle.column_bytes.specs.declared.form.Form.{Form}
use Rattle.column_bytes.specs.Cells.{cell_at, cells_of}
use Rattle.column_bytes.specs.Column.{HasCells, coded_in, codes_part, count_in, width_in}
use Rattle.column_bytes.proofs.Parts.{length-codes}

pub one_list : (bytes : List ℕ) (n m : ℕ) (a b : List (Option Value)) → HasCells bytes n a → HasCells bytes m b → a ≡ b
one_list bytes n m a b first second =
    let form : first.form ≡ second.form = ap (λ (found : Option Form). unwrap_or found first.form) (sym first.is.header.form_is ∙ second.is.header.form_is) in
    first.cells_are ∙ ap (λ (f : Form). cells_of (coded_in f bytes)) form ∙ sym second.cells_are

pub list_counted : (bytes : List ℕ) (n : ℕ) (cells : List (Option Value)) → HasCells bytes n cells → length cells ≡ n
list_counted bytes n cells has =
    ap length has.cells_are
    ∙ length-map-range_with_len (cell_at (coded_in has.form bytes)) 0 (length (coded_in has.form bytes).codes)
    ∙ length-codes (codes_part bytes) (width_in bytes) (count_in bytes)
    ∙ sym has.count
