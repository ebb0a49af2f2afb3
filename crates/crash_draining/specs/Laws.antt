-- Laws of a leaf that copies its tables into its region, as statements.
use Rattle.std.specs.Prelude.{◌≡◌, ℕ, List, Some, None, length, slice_get, map, false}
use Rattle.leaf_model.specs.declared.writes.Write.{Write}
use Rattle.berth_face.specs.Berth.{Meaning, Passes}
use Rattle.berth_face.specs.Moments.{Throughout}
use Rattle.table_state.specs.Tables.{Table}
use Rattle.region_layout.specs.Region.{IsAdoptable}
use Rattle.region_layout.specs.Images.{images_by_name}
use Rattle.disk_backup.specs.State.{LogState}
use Rattle.drain_copy.specs.declared.step.Next.TheVariants as next
use Rattle.drain_copy.specs.Draining.{DrainState, DrainsFrom}
use Rattle.crash_moments.specs.Left.{NamedStates}
use Rattle.crash_moments.specs.Watched.{Watched, IsFoundation, now_of}
use Rattle.crash_moments.specs.Told.{SeenMore}
use Rattle.crash_states.specs.Standing.{Rests, Copies, Holds, IsContentOf, StandsNow}
use Rattle.crash_states.specs.Entries.{HandsAll}

-- each table is shut, all of its writes were taken, and its content is at the same place of these tables
pub record AreTaken (ws : List Watched) (tables : List Table) : Type 0 where
  pub count : length tables ≡ length ws
  pub shut : (place : ℕ) (w : Watched) → slice_get ws place ≡ Some w → ((now_of w).live ≡ false) × ((now_of w).taken ≡ length (now_of w).writes)
  pub contents : (place : ℕ) (w : Watched) (t : Table) → slice_get ws place ≡ Some w → slice_get tables place ≡ Some t → IsContentOf (now_of w) t

-- the copy of these tables was planned, and nothing of it is in the region yet
pub record IsPlanned (ws : List Watched) (tables : List Table) (log : LogState) (drain : DrainState) : Type 0 where
  pub image : IsAdoptable drain.image (images_by_name (map (λ (w : Watched). w.name) ws) tables) log.end
  pub begins : drain.next ≡ next.Begin

-- a step of the drain, whatever comes of it
pub record DrainStepped (drain : DrainState) (a b : Meaning) : Type 0 where
  pub passes : Passes a b
  pub stands : StandsNow b
  pub moments : Throughout (DrainsFrom drain a) a b

-- what is left of a leaf whose copy ended, or was given up
abbrev pub LeftAt : List Watched → (List ℕ → List Write) → Meaning → Type 0
LeftAt ws writes m = (others : NamedStates) → ((name : List ℕ) → IsFoundation (others name)) → Rests ws others writes None m

-- the leaf's tables were handed over
pub record HandsOver (ws ws' : List Watched) (writes : List ℕ → List Write) (m : Meaning) : Type 0 where
  pub rests : LeftAt ws' writes m
  pub more : SeenMore m.clock m.clock ws ws'

-- what happens to a leaf that copies its tables, while no call on the berth goes on
pub record CopiesOn (m : Meaning) : Type 0 where
  pub killed : (ws : List Watched) (drain : DrainState) (writes : List ℕ → List Write) → Copies ws drain writes m → LeftAt ws writes m
  pub handed : (ws ws' : List Watched) (image : List ℕ) (writes : List ℕ → List Write) → Holds ws image writes m → HandsAll m.clock ws ws' → HandsOver ws ws' writes m
