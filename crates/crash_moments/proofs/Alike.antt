-- What an image, a log and a region have of some writes, they have of the same writes; and which regions are no image.
use Rattle.std.proofs.Common.{◌≡◌, ◌∙◌, ℕ, Bool, false, List, sym, ap, subst}
use Rattle.std.proofs.lemmas.Bool.{false≢true}
use Rattle.leaf_model.specs.declared.writes.Write.{Write}
use Rattle.leaf_history.specs.History.{HistoryState}
use Rattle.berth_face.specs.Berth.{Pair}
use Rattle.region_layout.specs.Images.{TableImage, table_named}
use Rattle.region_head.specs.declared.head.Head.TheVariants.{Version}
use Rattle.region_head.specs.Head.{head_of}
use Rattle.region_layout.specs.Region.{IsAdoptable, reads}
use Rattle.region_layout.specs.ImageWrites.{AreImagesOf, IsImageOf}
use Rattle.disk_backup.specs.Settling.{HasLog}
use Rattle.crash_moments.specs.Left.{NamedStates, RegionLeft, closed, other_version, image}

pub images_alike : (few many : List ℕ → ℕ) (a b : List ℕ → List Write) (images : List TableImage) → ((name : List ℕ) → few name ≡ many name) → ((name : List ℕ) → a name ≡ b name)
    → AreImagesOf few a images → AreImagesOf many b images
images_alike few many a b images spare same are name =
    subst (λ (n : ℕ). IsImageOf n (b name) (table_named images name)) (spare name) (subst (λ (writes : List Write). IsImageOf (few name) writes (table_named images name)) (same name) (are name))

pub log_alike : (a b : List ℕ → List Write) (end : ℕ) (disk : List ℕ) → ((name : List ℕ) → a name ≡ b name) → HasLog a end disk → HasLog b end disk
log_alike a b end disk same had = (had.0, had.1, λ name. had.2 name ∙ same name)

pub region_alike : (reads : ℕ → Bool) (a b : NamedStates) (pair : Pair) → ((name : List ℕ) → a name ≡ b name) → RegionLeft reads a pair → RegionLeft reads b pair
region_alike reads a b pair same (closed shut) = closed shut
region_alike reads a b pair same (other_version version head other) = other_version version head other
region_alike reads a b pair same (image version images end reads_it is are had) =
    image version images end reads_it is
    (images_alike (λ name. (a name).spare) (λ name. (b name).spare) (λ name. (a name).writes) (λ name. (b name).writes) images (λ name. ap (λ (s : HistoryState). s.spare) (same name))
    (λ name. ap (λ (s : HistoryState). s.writes) (same name)) are)
    (log_alike (λ name. (a name).writes) (λ name. (b name).writes) end pair.disk (λ name. ap (λ (s : HistoryState). s.writes) (same name)) had)

same_version : (u v : ℕ) → Version u ≡ Version v → u ≡ v
same_version u v same = cc

-- a region of a version that is not read is no image that a start adopts
pub not_read : (version : ℕ) (region : List ℕ) (images : List TableImage) (end : ℕ) → head_of region ≡ Version version → reads version ≡ false → IsAdoptable region images end → ⊥
not_read version region images end head other is =
    absurd (false≢true (sym other ∙ ap reads (same_version version is.version (sym head ∙ is.is.has.head)) ∙ is.reads_it))
