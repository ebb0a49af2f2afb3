-- Tables of a directory that a leaf does not have.
use Rattle.std.specs.Prelude.{Bool, not, List, ℕ, Option, bytes_eq}
use Rattle.std.specs.List.{find, list_any}
use Rattle.region_layout.specs.declared.directory.TablePlaces.{TablePlaces}

-- the first of the second names that is none of the first names
abbrev pub stranger_of : List (List ℕ) → List (List ℕ) → Option (List ℕ)
stranger_of names others = find (λ name. not (list_any (bytes_eq name) names)) others

-- the table has none of these names
abbrev pub is_stranger : List (List ℕ) → TablePlaces → Bool
is_stranger names t = not (list_any (bytes_eq t.name) names)
