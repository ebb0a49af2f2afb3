-- Names in a list.
use Rattle.std.specs.Prelude.{ℕ, Bool, List, not, bytes_eq}
use Rattle.std.specs.List.{list_any}
use Rattle.row_model.specs.Values.{time_name}

-- the name is in the list
abbrev pub has : List ℕ → List (List ℕ) → Bool
has n names = list_any (bytes_eq n) names

-- any name but `time`
abbrev pub is_cell : List ℕ → Bool
is_cell n = not (bytes_eq n time_name)
