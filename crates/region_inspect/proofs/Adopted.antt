-- An image that is shown is adopted.
use Rattle.std.proofs.Common.{◌≡◌, ℕ, List, refl, ap, subst, ◌∙◌, inl, inr}
use Rattle.table_state.specs.Tables.{HeldTables}
use Rattle.region_layout.specs.Region.{IsAdoptable}
use Rattle.region_layout.proofs.Images.{one_log_end}
use Rattle.leaf_words.specs.declared.ways.Way.TheVariants.{Memory, Disk}
use Rattle.leaf_opening.specs.declared.ways.OpenFault.TheVariants.{RegionFault, DiskFault, DiskDamaged, Stranger, NoMemory}
use Rattle.leaf_opening.proofs.OneAnswer.{image_alone, image_why}
use Rattle.region_inspect.specs.declared.seen.TableLine.{TableLine}
use Rattle.region_inspect.specs.Shows.{ShowsImage}
use Rattle.region_inspect.specs.Adopted.{DiskIsNotAsked, ImageIsAdopted}

adoptable : (region : List ℕ) (version log_end : ℕ) (lines : List TableLine) (s : ShowsImage region version log_end lines) → IsAdoptable region s.images log_end
adoptable region version log_end lines s = record { version = version; reads_it = s.reads_it; is = s.image }

pub adopted : ImageIsAdopted
adopted names region disk version log_end lines s Memory shown come =
    let same : come.1 ≡ log_end = one_log_end region come.0 shown.images come.1 log_end come.2 (adoptable region version log_end lines shown) in
    record {
      way_is = refl;
      images = come.0;
      image = subst (λ (e : ℕ). IsAdoptable region come.0 e) same come.2;
      tables = ap (λ (h : HeldTables). h.each) come.4;
      log = ap (λ l. l.end) come.5 ∙ same;
    }
adopted names region disk version log_end lines s (Disk w) shown come =
    absurd (image_alone region shown.images log_end w (adoptable region version log_end lines shown) come.0)

pub disk_not_asked : DiskIsNotAsked
disk_not_asked names region disk version log_end lines RegionFault shown exact = tt
disk_not_asked names region disk version log_end lines NoMemory shown exact = tt
disk_not_asked names region disk version log_end lines DiskFault shown exact =
    image_why names region shown.images log_end exact.0 (adoptable region version log_end lines shown) exact.1
disk_not_asked names region disk version log_end lines DiskDamaged shown exact =
    image_why names region shown.images log_end exact.0.0 (adoptable region version log_end lines shown) exact.0.1
disk_not_asked names region disk version log_end lines (Stranger name) shown exact = elim exact [
  | inl stranger ↦ stranger
  | inr log ↦ absurd (image_why names region shown.images log_end log.0.0 (adoptable region version log_end lines shown) log.0.1)
]
