-- The image that was planned is one.
use Rattle.std.proofs.Common.{◌≡◌, ℕ, ◌+◌, ◌<◌, ◌^◌, false, ltb, List, ◌++◌, length, take, drop, map, refl, sym, ap, ◌∙◌, subst, arith, append_assoc, length-append}
use Rattle.std.specs.Prelude.{codes}
use Rattle.std.specs.List.{AllByRecursion}
use Rattle.std.proofs.Math.Seq.{drop-append_seam}
use Rattle.std.proofs.lemmas.Bool.{le-ltb}
use Rattle.std.proofs.lemmas.Nat.{from_le_bytes-to_le_bytes_8}
use Rattle.row_model.specs.Names.{AreDistinct}
use Rattle.column_bytes.specs.Coding.{joined}
use Rattle.region_head.specs.declared.head.Head.TheVariants.{Version}
use Rattle.region_head.specs.Head.{head_bytes, head_of}
use Rattle.table_state.specs.Tables.{IsParts}
use Rattle.region_layout.specs.declared.drained.DrainTable.{DrainTable}
use Rattle.region_layout.specs.Directory.{IsDirectory}
use Rattle.region_layout.specs.Drained.{all_columns, images_of}
use Rattle.region_layout.specs.Region.{layout, directory_from, IsAdoptable}
use Rattle.region_layout.specs.Written.{MayBeWritten, directory_bytes}
use Rattle.drain_copy.specs.Draining.{image_bytes, directory_of}
use Rattle.drain_copy.specs.Planned.{tables_size, planned_directory}
use Rattle.drain_copy.proofs.Laying.{tables_back, tables_length, is_directory}

pub place_found : (place : ℕ) (columns : List (List ℕ)) (directory : List ℕ) → place < 2 ^ 64 → directory_from (image_bytes place columns directory) ≡ place
unfolding image_bytes
place_found place columns directory fits = from_le_bytes-to_le_bytes_8 place fits

behind_place : (place : ℕ) (columns : List (List ℕ)) (directory : List ℕ) → place ≡ 16 + length (joined columns) → drop place (image_bytes place columns directory) ≡ directory
unfolding image_bytes
behind_place place columns directory is =
    let front = head_bytes layout place ++ joined columns in
    let long : length front ≡ place = omega (arith, is, length-append (head_bytes layout place) (joined columns)) in
    subst (λ (n : ℕ). drop n (front ++ directory) ≡ directory) long (drop-append_seam front directory)

pub directory_found : (place : ℕ) (columns : List (List ℕ)) (directory : List ℕ) → place ≡ 16 + length (joined columns) → place < 2 ^ 64 → directory_of (image_bytes place columns directory) ≡ directory
unfolding directory_of
directory_found place columns directory is fits =
    ap (λ (n : ℕ). drop n (image_bytes place columns directory)) (place_found place columns directory fits) ∙ behind_place place columns directory is

pub image_head : (place : ℕ) (columns : List (List ℕ)) (directory : List ℕ) → head_of (image_bytes place columns directory) ≡ Version layout
unfolding image_bytes
image_head place columns directory =
    let long : ltb (length (image_bytes place columns directory)) 16 ≡ false = le-ltb _ _ (omega arith) in
    rw long refl

image_letters : (place : ℕ) (columns : List (List ℕ)) (directory : List ℕ) → take 3 (drop 1 (image_bytes place columns directory)) ≡ codes "SCB"
unfolding image_bytes
image_letters place columns directory = refl

image_parts : (place : ℕ) (columns : List (List ℕ)) (directory : List ℕ) → image_bytes place columns directory ≡ head_bytes layout place ++ (joined columns ++ directory)
unfolding image_bytes
image_parts place columns directory = append_assoc (head_bytes layout place) (joined columns) directory

head_long : (place : ℕ) → length (head_bytes layout place) ≡ 16
head_long place = refl

pub adoptable : (tables : List DrainTable) (log_end place : ℕ) (directory : List ℕ) → AreDistinct (map (λ (t : DrainTable). t.name) tables) → AllByRecursion (λ (t : DrainTable). IsParts t.parts) tables
    → MayBeWritten (planned_directory tables log_end) → place ≡ 16 + tables_size tables → place < 2 ^ 64 → directory ≡ directory_bytes (planned_directory tables log_end)
    → IsAdoptable (image_bytes place (all_columns tables) directory) (images_of tables) log_end
adoptable tables log_end place directory distinct each written is fits spelled =
    let columns = all_columns tables in
    let image = image_bytes place columns directory in
    let long : place ≡ 16 + length (joined columns) = is ∙ ap (λ (n : ℕ). 16 + n) (sym (tables_length tables)) in
    let found : directory_from image ≡ place = place_found place columns directory fits in
    let behind : drop (directory_from image) image ≡ directory = ap (λ (n : ℕ). drop n image) found ∙ behind_place place columns directory long in
    let back = tables_back tables (head_bytes layout place) directory image 16 (image_parts place columns directory) (head_long place) each in
    record {
      version = layout;
      reads_it = refl;
      is = record {
        directory = planned_directory tables log_end;
        has = record {
          head = image_head place columns directory;
          letters = image_letters place columns directory;
          bytes = behind ∙ spelled;
          itself = subst (λ (n : ℕ). IsDirectory n (planned_directory tables log_end)) (sym found) (is_directory tables log_end place distinct each written is fits);
        };
        each = back.0;
        tables_are = back.1;
        log_end_is = refl;
      };
    }
