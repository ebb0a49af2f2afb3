-- Cells that are lent, and the values that they mean.
use Rattle.std.proofs.Common.{◌≡◌, ℕ, ◌<◌, ◌∷◌, [], List, length, map, is_some, slice_index_or, Option, Some, None, IfSome, option_map, refl, sym, ap₂, subst, arith}
use Rattle.std.proofs.lemmas.List.{get_or-map, length-map}
use Rattle.column_bytes.specs.declared.kind.Kind.{Kind}
use Rattle.leaf_model.specs.declared.lent_cells.LentValue.{LentValue}
use Rattle.leaf_model.specs.Lent.{each_value, lent_value}
use Rattle.column_bytes.specs.Coding.{AreOfKind, IsOfKind}

pub length-values : (cells : List (Option LentValue)) → length (each_value cells) ≡ length cells
length-values cells = length-map cells (option_map lent_value)

pub value_here : (cells : List (Option LentValue)) (i : ℕ) → i < length cells → option_map lent_value (slice_index_or cells i None) ≡ slice_index_or (each_value cells) i None
value_here cells i within = sym (get_or-map (option_map lent_value) cells i None None within)

pub kind_here : (kind : Kind) (cells : List (Option LentValue)) (i : ℕ) → i < length cells → AreOfKind kind (each_value cells)
    → IfSome (option_map lent_value (slice_index_or cells i None)) (IsOfKind kind)
kind_here kind cells i within are = subst (λ value. IfSome value (IsOfKind kind)) (sym (value_here cells i within)) (are i (omega (arith, length-values cells)))

some_same : (cell : Option LentValue) → is_some cell ≡ is_some (option_map lent_value cell)
some_same None = refl
some_same (Some value) = refl

-- which cells are there, of the values too
pub there_same : (cells : List (Option LentValue)) → map is_some cells ≡ map is_some (each_value cells)
there_same [] = refl
there_same (cell ∷ cells) = ap₂ (λ x xs. x ∷ xs) (some_same cell) (there_same cells)
