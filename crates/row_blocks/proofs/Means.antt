-- Bytes mean one list of cells.
use Rattle.std.proofs.Common.{◌≡◌, ℕ, ◌<◌, ◌≤◌, List, length, Option, unwrap_or, sym, ap, subst, ◌∙◌, arith}
use Rattle.row_model.specs.declared.rows.Value.{Value}
use Rattle.column_bytes.specs.declared.form.Form.{Form}
use Rattle.column_bytes.specs.declared.form.Form.TheVariants.{Offset}
use Rattle.column_bytes.specs.Cells.{cells_of}
use Rattle.column_bytes.specs.Column.{HasCells, coded_in}
use Rattle.column_bytes.proofs.Reading.{list_counted}
use Rattle.row_blocks.specs.Columns.{MeanCells, cells_in, form_in}

pub means : (bytes : List ℕ) (n : ℕ) (cells : List (Option Value)) → HasCells bytes n cells → MeanCells bytes n × (cells ≡ cells_in bytes)
unfolding MeanCells cells_in
means bytes n cells has =
    let form : form_in bytes ≡ has.form = ap (λ (found : Option Form). unwrap_or found Offset) has.is.header.form_is in
    let same : cells ≡ cells_of (coded_in (form_in bytes) bytes) = has.cells_are ∙ ap (λ (f : Form). cells_of (coded_in f bytes)) (sym form) in
    (subst (HasCells bytes n) same has, same)

pub counted : (bytes : List ℕ) (n : ℕ) → MeanCells bytes n → length (cells_in bytes) ≡ n
unfolding MeanCells
counted bytes n mean = list_counted bytes n (cells_in bytes) mean

pub one_count : (bytes : List ℕ) (n m : ℕ) → MeanCells bytes n → MeanCells bytes m → n ≡ m
one_count bytes n m first second = sym (counted bytes n first) ∙ counted bytes m second

pub some_cells : (bytes : List ℕ) (n : ℕ) → MeanCells bytes n → 0 < n
unfolding MeanCells
some_cells bytes n mean = let count = mean.count in let some = mean.is.header.fields.some in omega arith

pub few_cells : (bytes : List ℕ) (n : ℕ) → MeanCells bytes n → n ≤ 65536
unfolding MeanCells
few_cells bytes n mean = let count = mean.count in let few = mean.is.header.fields.few in omega arith

-- what was written of some cells
pub written : (bytes made : List ℕ) (n : ℕ) (cells : List (Option Value)) → HasCells bytes n cells → made ≡ bytes → MeanCells made n × (cells_in made ≡ cells)
written bytes made n cells has same =
    let is = means bytes n cells has in
    (subst (λ (text : List ℕ). MeanCells text n) (sym same) is.0, ap cells_in same ∙ sym is.1)
