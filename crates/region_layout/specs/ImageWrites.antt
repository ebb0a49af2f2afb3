-- Which writes an image has of each name.
use Rattle.std.specs.Prelude.{◌≡◌, ◌+◌, ◌≤◌, ℕ, List, length}
use Rattle.leaf_model.specs.declared.writes.Write.{Write}
use Rattle.leaf_model.specs.Content.{content}
use Rattle.table_state.specs.Tables.{added_count}
use Rattle.region_layout.specs.Images.{TableImage}
use Rattle.region_layout.specs.Images.{contents_of, table_named}

-- the table in an image comes of these writes, and has at most one column for each row and each cell that they add, and
-- the spare ones
pub record IsImageOf (spare : ℕ) (writes : List Write) (t : TableImage) : Type 0 where
  pub contents : contents_of t ≡ content writes
  pub count : t.writes ≡ length writes
  pub few : t.columns ≤ spare + added_count writes

-- for each name an image has the table of these writes, with so many spare columns at most
abbrev pub AreImagesOf : (List ℕ → ℕ) → (List ℕ → List Write) → List TableImage → Type 0
AreImagesOf spare writes images = (name : List ℕ) → IsImageOf (spare name) (writes name) (table_named images name)
