-- The name at a place is the list's element there.
use Rattle.std.proofs.Common.{◌≡◌, ◌<◌, ℕ, zero, suc, List, [], ◌∷◌, length, slice_index_or, refl, arith}
use Rattle.printed_lines.specs.Lines.{name_at}

pub name_there : (names : List (List ℕ)) (place : ℕ) (other : List ℕ) → place < length names → slice_index_or names place other ≡ name_at names place
name_there [] place other below = elim below [ ]
name_there (name ∷ names) zero other below = refl
name_there (name ∷ names) (suc place) other below = name_there names place other (omega arith)
