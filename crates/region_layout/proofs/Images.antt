-- Images of the same bytes are one, and their tables have distinct names.
use Rattle.std.proofs.Common.{◌≡◌, ℕ, List, map, drop, sym, ap, ◌∙◌}
use Rattle.leaf_model.proofs.Fields.{some_is}
use Rattle.region_layout.specs.Images.{TableImage}
use Rattle.berth_face.specs.Berth.{IsClosed}
use Rattle.region_head.proofs.Heads.{closed_head}
use Rattle.region_layout.specs.declared.directory.TablePlaces.{TablePlaces}
use Rattle.region_layout.specs.declared.directory.Directory.{Directory}
use Rattle.region_layout.specs.Region.{HasDirectory, IsAdoptable, directory_from, image_of_parts, parts_in}
use Rattle.region_layout.proofs.Found.{kept_again}

-- a table of a directory, by its columns in the region
abbrev pub table_in : List ℕ → TablePlaces → TableImage
table_in region t = image_of_parts t.name (parts_in region t)

-- a region has one directory
pub same_directory : (region : List ℕ) (v w : ℕ) (d e : Directory) → HasDirectory v region d → HasDirectory w region e → d ≡ e
same_directory region v w d e has also =
    let place = directory_from region in
    some_is d e (sym (kept_again (drop place region) place d has.bytes has.itself) ∙ kept_again (drop place region) place e also.bytes also.itself)

one_directory : (region : List ℕ) (s t : List TableImage) (d e : ℕ) (a : IsAdoptable region s d) (b : IsAdoptable region t e) → a.is.directory ≡ b.is.directory
one_directory region s t d e a b = same_directory region a.version b.version a.is.directory b.is.directory a.is.has b.is.has

pub one_tables : (region : List ℕ) (s t : List TableImage) (d e : ℕ) → IsAdoptable region s d → IsAdoptable region t e → s ≡ t
one_tables region s t d e a b = a.is.tables_are ∙ ap (λ (dir : Directory). map (table_in region) dir.tables) (one_directory region s t d e a b) ∙ sym b.is.tables_are

pub one_log_end : (region : List ℕ) (s t : List TableImage) (d e : ℕ) → IsAdoptable region s d → IsAdoptable region t e → d ≡ e
one_log_end region s t d e a b = a.is.log_end_is ∙ ap (λ (dir : Directory). dir.log_end) (one_directory region s t d e a b) ∙ sym b.is.log_end_is

pub not_closed : (region : List ℕ) (s : List TableImage) (d : ℕ) → IsClosed region → IsAdoptable region s d → ⊥
not_closed region s d closed a = closed_head region closed a.version a.is.has.head
