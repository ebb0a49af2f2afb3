-- Tables and their images.
use Rattle.std.specs.Prelude.{ℕ, ℤ, List, [], ◌∷◌, map, None, Option, unwrap_or, pos, Bool}
use Rattle.std.specs.List.{find}
use Rattle.std.specs.Str.{bytes_eq}
use Rattle.row_model.specs.declared.rows.Row.{Row}
use Rattle.leaf_model.specs.Content.{Contents}
use Rattle.row_blocks.specs.Held.{columns_count}
use Rattle.table_state.specs.Tables.{HeldTables, Table, no_store}

-- a table of an image: its name, its horizon, the number of writes that it accepted, its rows, and the number of
-- columns that hold them
pub record TableImage : Type 0 where
  pub name : List ℕ
  pub horizon : ℤ
  pub writes : ℕ
  pub rows : List Row
  pub columns : ℕ

-- a table of this name as an image has it
abbrev pub image_of : List ℕ → Table → TableImage
image_of name t = record { name = name; horizon = t.contents.horizon; writes = t.writes; rows = t.contents.rows; columns = columns_count t.store.blocks }

-- tables and their names, place by place
abbrev pub images_by_name : List (List ℕ) → List Table → List TableImage
images_by_name [] tables = []
images_by_name (name ∷ names) [] = []
images_by_name (name ∷ names) (t ∷ tables) = image_of name t ∷ images_by_name names tables

-- what a table of an image holds
abbrev pub contents_of : TableImage → Contents
contents_of t = record { rows = t.rows; horizon = t.horizon }

-- the table that a table of an image is
abbrev pub table_of : TableImage → Table
table_of t = record { contents = contents_of t; writes = t.writes; pending = None; store = no_store }

-- a table that had no write
abbrev pub empty_image : List ℕ → TableImage
empty_image name = record { name = name; horizon = pos 0; writes = 0; rows = []; columns = 0 }

-- the table has this name
abbrev pub is_named : List ℕ → TableImage → Bool
is_named name t = bytes_eq t.name name

-- the table of that name, or an empty one
abbrev pub table_named : List TableImage → List ℕ → TableImage
table_named images name = unwrap_or (find (is_named name) images) (empty_image name)

-- the table of an image for each name, in the order of the names; an empty one if the image has none
abbrev pub tables_of : List (List ℕ) → List TableImage → List Table
tables_of names images = map (λ name. table_of (table_named images name)) names

-- the same, with the number of columns of each
abbrev pub held_of : List (List ℕ) → List TableImage → HeldTables
held_of names images = record { each = tables_of names images; columns = map (λ name. (table_named images name).columns) names }

-- the names of the tables of an image
abbrev pub image_names : List TableImage → List (List ℕ)
image_names tables = map (λ (t : TableImage). t.name) tables
