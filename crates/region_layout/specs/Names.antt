-- The names of a leaf's tables.
use Rattle.std.specs.Prelude.{ℕ, ◌<◌, ◌≤◌, List, length, IsUtf8}
use Rattle.std.specs.List.{AllByRecursion}
use Rattle.row_model.specs.Names.{AreDistinct}

-- a name of at most 255 bytes of UTF-8
abbrev pub IsName : List ℕ → Type 0
IsName name = IsUtf8 name × (length name ≤ 255)

-- 1 to 16 distinct names
pub record AreNames (names : List (List ℕ)) : Type 0 where
  pub some : 0 < length names
  pub few : length names ≤ 16
  pub each : AllByRecursion IsName names
  pub distinct : AreDistinct names
