-- The rules of a directory as tests, which code computes.
use Rattle.std.specs.Prelude.{ℕ, ◌+◌, ◌^◌, List, [], ◌∷◌, map, Bool, true, false, not, ◌&&◌, ◌==◌, nat_lt, nat_le, if◌then◌else◌, Option, Some, None}
use Rattle.std.specs.Prelude as prelude
use Rattle.std.specs.List.{list_all}
use Rattle.std.specs.Str.{bytes_eq}
use Rattle.std.specs.Ordering.{is_gt}
use Rattle.row_model.specs.Values.{time_name}
use Rattle.row_model.specs.Texts.{text_cmp}
use Rattle.row_model.specs.Names.{are_distinct}
use Rattle.leaf_model.specs.Reading.{◌>>=◌}
use Rattle.region_layout.specs.declared.directory.Place.{Place}
use Rattle.region_layout.specs.declared.directory.BlockPlaces.{BlockPlaces}
use Rattle.region_layout.specs.declared.directory.TablePlaces.{TablePlaces}
use Rattle.region_layout.specs.declared.directory.Directory.{Directory}

-- ---- names

-- a name of a cell, of a text
abbrev pub has_cell_name : Place → Bool
has_cell_name p = nat_lt 0 (prelude.length p.name) && (nat_le (prelude.length p.name) 255 && not (bytes_eq p.name time_name))

-- no name is below the one before it, nor the first below `last`
abbrev pub do_not_fall : List ℕ → List Place → Bool
do_not_fall last [] = true
do_not_fall last (p ∷ rest) = not (is_gt (text_cmp last p.name)) && do_not_fall p.name rest

abbrev pub are_columns : List Place → Bool
are_columns [] = false
are_columns (times ∷ others) = bytes_eq times.name time_name && (list_all has_cell_name others && do_not_fall [] others)

abbrev pub has_columns : BlockPlaces → Bool
has_columns b = are_columns b.columns

abbrev pub places_are_named : List ℕ → TablePlaces → Bool
places_are_named name t = bytes_eq t.name name

abbrev pub table_names : List TablePlaces → List (List ℕ)
table_names tables = map (λ (t : TablePlaces). t.name) tables

-- ---- the rows that are cut away

abbrev pub is_skip_of : ℕ → List BlockPlaces → Bool
is_skip_of skip [] = skip == 0
is_skip_of skip (b ∷ blocks) = nat_lt skip b.rows

abbrev pub is_table_places : TablePlaces → Bool
is_table_places t = is_skip_of t.skip t.blocks && list_all has_columns t.blocks

-- ---- places

-- the place where the things end that begin here and follow one another, if each step is possible
abbrev pub end_by : {A : Type 0} → (ℕ → A → Option ℕ) → ℕ → List A → Option ℕ
end_by step from [] = Some from
end_by step from (x ∷ xs) = step from x >>= λ next. end_by step next xs

-- a column begins here, and ends at a place below 2^64
abbrev pub end_of_place : ℕ → Place → Option ℕ
end_of_place from p = if p.place == from then (if nat_lt (from + p.length) (2 ^ 64) then Some (from + p.length) else None) else None

abbrev pub end_of_block : ℕ → BlockPlaces → Option ℕ
end_of_block from b = end_by end_of_place from b.columns

abbrev pub end_of_table : ℕ → TablePlaces → Option ℕ
end_of_table from t = end_by end_of_block from t.blocks

abbrev pub ends_at : ℕ → Option ℕ → Bool
ends_at place None = false
ends_at place (Some end_place) = end_place == place

abbrev pub is_directory : ℕ → Directory → Bool
is_directory place d = are_distinct (table_names d.tables) && (list_all is_table_places d.tables && ends_at place (end_by end_of_table 16 d.tables))
