-- What is left of the tables of an image while they are taken one by one, by their names.
use Rattle.std.specs.Prelude.{ℕ, List, [], ◌∷◌, Bool, if◌then◌else◌}
use Rattle.std.specs.Str.{bytes_eq}
use Rattle.region_layout.specs.declared.drained.DrainTable.{DrainTable}

-- the table has this name
abbrev pub has_name : List ℕ → DrainTable → Bool
has_name name t = bytes_eq t.name name

-- all but the first of that name
abbrev pub without : List ℕ → List DrainTable → List DrainTable
without name [] = []
without name (t ∷ ts) = if has_name name t then ts else t ∷ without name ts
