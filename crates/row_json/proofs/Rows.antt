-- Steps of reading a row.
use Rattle.std.proofs.Common.{◌≡◌, List, [], ◌++◌, ℕ, ℤ, Result, Ok, Err, Option, Some, None, Bool, true, false, cond, refl, ap, append_assoc}
use Rattle.std.specs.Prelude.{option_to_list, ok_or}
use Rattle.std.specs.Str.{is_utf8, IsUtf8}
use Rattle.std.proofs.lemmas.Str.{is_utf8-from_IsUtf8, IsUtf8-from_is_utf8}
use Rattle.serde_json.specs.Data.{Data}
use Rattle.serde_json.specs.Read.{read}
use Rattle.row_model.specs.declared.rows.Cell.{Cell}
use Rattle.row_model.specs.declared.rows.Row.{Row}
use Rattle.row_model.specs.declared.row_fault.RowFault.{RowFault}
use Rattle.row_model.specs.declared.row_fault.RowFault.TheVariants.{Json}
use Rattle.row_json.specs.Row.{row_of, row_of_data, and_then}

-- these cells, and then the others, where those have no fault
abbrev pub before : List Cell → Result (List Cell) RowFault → Result (List Cell) RowFault
before first rest = and_then rest (λ cells. Ok (first ++ cells))

-- the cells from one member on
abbrev pub with_cell : Result (Option Cell) RowFault → Result (List Cell) RowFault → Result (List Cell) RowFault
with_cell one rest = and_then one (λ cell. before (option_to_list cell) rest)

-- the row of this time and these cells, where those have no fault
abbrev pub row_with : ℤ → Result (List Cell) RowFault → Result Row RowFault
row_with time cells = and_then cells (λ cs. Ok (record { time = time; cells = cs }))

pub before_none : (rest : Result (List Cell) RowFault) → before [] rest ≡ rest
before_none (Ok cells) = refl
before_none (Err e) = refl

pub before_append : (first second : List Cell) (rest : Result (List Cell) RowFault) → before (first ++ second) rest ≡ before first (before second rest)
before_append first second (Ok rest) = ap Ok (append_assoc first second rest)
before_append first second (Err e) = refl

pub row_of-some : (text : List ℕ) (d : Data) → IsUtf8 text → read text ≡ Some d → row_of text ≡ row_of_data d
unfolding row_of
row_of-some text d utf8 is = rw (is_utf8-from_IsUtf8 text utf8, is)

refused : (utf8 : Bool) (found : Option Data) → (utf8 ≡ true → found ≡ None) → cond utf8 (and_then (ok_or found Json) row_of_data) (Err Json) ≡ Err Json
refused true found h = rw (h refl)
refused false found h = refl

pub row_of-none : (text : List ℕ) → (IsUtf8 text → read text ≡ None) → row_of text ≡ Err Json
unfolding row_of
row_of-none text h = refused (is_utf8 text) (read text) (λ t. h (IsUtf8-from_is_utf8 text t))
