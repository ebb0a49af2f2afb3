-- A pair that a crash may leave, by its log and its region.
use Rattle.std.proofs.Common.{◌≡◌, inl, inr, ℕ, true, false, List, length, sym, subst, ◌∙◌}
use Rattle.leaf_model.specs.declared.writes.Write.{Write}
use Rattle.berth_face.specs.Berth.{Pair, Meaning, IsClosed}
use Rattle.region_layout.specs.Images.{TableImage}
use Rattle.region_layout.specs.Region.{reads, IsAdoptable}
use Rattle.disk_backup.specs.Settling.{HasLog}
use Rattle.leaf_history.specs.History.{HistoryState}
use Rattle.region_layout.specs.ImageWrites.{AreImagesOf}
use Rattle.disk_backup.specs.SoundLogs.{HasSoundLog}
use Rattle.crash_moments.specs.Left.{NamedStates, Left, RegionLeft, closed, image}
use Rattle.crash_moments.proofs.Alike.{images_alike, log_alike}
use Rattle.crash_states.specs.Standing.{RegionRests, StandsNow}
use Rattle.crash_states.proofs.States.{IsFrontOf, front_within}

-- a shut table is not open
pub not_open : (s : HistoryState) (p : Pair) → s.live ≡ false → s.live ≡ true → IsClosed p.region
not_open s p shut open_now = absurd cc

pub left_by : (tables : NamedStates) (held : List ℕ → List Write) (p : Pair) (log : HasSoundLog held p.disk) → ((name : List ℕ) → IsFrontOf (held name) (tables name))
    → ((name : List ℕ) → (tables name).live ≡ true → IsClosed p.region) → RegionLeft reads tables p → Left reads tables p
left_by tables held p log fronts serving region = record {
  sound = log.sound;
  front = λ name.
      let is : IsFrontOf (held name) (tables name) = fronts name in
      (length (held name), front_within (held name) (tables name) is, is.flushed, log.each name ∙ is.front);
  region = region;
  serving = serving;
}

-- the region is an image of the tables, and the log has all of their writes
pub image_left : (tables : NamedStates) (spare : List ℕ → ℕ) (writes : List ℕ → List Write) (p : Pair) (images : List TableImage) (log_end : ℕ) → ((name : List ℕ) → (tables name).spare ≡ spare name)
    → ((name : List ℕ) → (tables name).writes ≡ writes name) → IsAdoptable p.region images log_end → AreImagesOf spare writes images → HasLog writes log_end p.disk → RegionLeft reads tables p
image_left tables spare writes p images log_end few same is are had =
    image is.version images log_end is.reads_it is.is
    (images_alike spare (λ name. (tables name).spare) writes (λ name. (tables name).writes) images (λ name. sym (few name)) (λ name. sym (same name)) are)
    (log_alike writes (λ name. (tables name).writes) log_end p.disk (λ name. sym (same name)) had)

-- what may be left of a region that rests
pub rests_region : (tables : NamedStates) (m : Meaning) (p : Pair) → StandsNow m → RegionRests tables m → m.leaves m.clock p → RegionLeft reads tables p
rests_region tables m p stands rests left = elim (stands.regions p left) [
  | inl same ↦ subst (λ (region : List ℕ). RegionLeft reads tables (record { region = region; disk = p.disk })) (sym same) (rests p left)
  | inr shut ↦ closed shut
]
