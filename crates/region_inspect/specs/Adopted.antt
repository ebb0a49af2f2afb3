-- What a start comes to if an image is shown.
use Rattle.std.specs.Prelude.{◌≡◌, ℕ, List, Err, ⊤}
use Rattle.region_layout.specs.Images.{TableImage, tables_of}
use Rattle.region_layout.specs.Region.{IsAdoptable}
use Rattle.adopt.specs.Adopting.{IsStranger}
use Rattle.leaf_words.specs.declared.ways.Way.{Way}
use Rattle.leaf_words.specs.declared.ways.Way.TheVariants.{Memory}
use Rattle.leaf_opening.specs.declared.ways.OpenFault.{OpenFault}
use Rattle.leaf_opening.specs.declared.ways.OpenFault.TheVariants.{RegionFault, Stranger, NoMemory}
use Rattle.leaf_opening.specs.OpenedLeaf.{OpenedLeaf}
use Rattle.leaf_opening.specs.Starts.{IsCome}
use Rattle.leaf_opening.specs.Answers.{IsExact}
use Rattle.region_inspect.specs.declared.seen.TableLine.{TableLine}
use Rattle.region_inspect.specs.declared.seen.Seen.TheVariants as seen
use Rattle.region_inspect.specs.Shows.{Shows}

-- the leaf has just the tables and the log of the image, by the way Memory
pub record AdoptsAll (names : List (List ℕ)) (region : List ℕ) (log_end : ℕ) (s : OpenedLeaf) (way : Way) : Type 0 where
  pub way_is : way ≡ Memory
  pub images : List TableImage
  pub image : IsAdoptable region images log_end
  pub tables : s.tables ≡ tables_of names images
  pub log : s.log.end ≡ log_end

-- if an image is shown, each start that comes to its end comes to that image
abbrev pub ImageIsAdopted : Type 0
ImageIsAdopted = (names : List (List ℕ)) (region disk : List ℕ) (version log_end : ℕ) (lines : List TableLine) (s : OpenedLeaf) (way : Way)
    → Shows region (seen.Image version log_end lines) → IsCome names region disk s way → AdoptsAll names region log_end s way

-- what may still refuse a start over such a region: its calls, a table that the leaf does not have, or memory
abbrev pub MayRefuse : List (List ℕ) → List ℕ → OpenFault → Type 0
MayRefuse names region RegionFault = ⊤
MayRefuse names region NoMemory = ⊤
MayRefuse names region (Stranger name) = IsStranger names region name
MayRefuse names region _ = ⊥

-- if an image is shown, no start is refused for what the disk holds, nor because the disk failed
abbrev pub DiskIsNotAsked : Type 0
DiskIsNotAsked = (names : List (List ℕ)) (region disk : List ℕ) (version log_end : ℕ) (lines : List TableLine) (fault : OpenFault)
    → Shows region (seen.Image version log_end lines) → IsExact names region disk (Err fault) → MayRefuse names region fault
