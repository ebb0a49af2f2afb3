-- What an adoption of all columns takes, and what it leaves of a region.
use Rattle.std.proofs.Common.{◌≡◌, ℕ, ◌<◌, ◌^◌, List, length, map, Option, Some, None, Ok, Err, IsTrue, refl, sym, ap, subst, ◌∙◌}
use Rattle.std.specs.List.{AllByRecursion}
use Rattle.berth_face.specs.Berth.{Meaning, IsClosed, Passes, Ended, SameDisk}
use Rattle.berth_face.specs.Moments.{KeepsRegion, Throughout}
use Rattle.berth_face.proofs.Moments.{passes_none, passes_on}
use Rattle.table_state.specs.Tables.{HeldTables, Table}
use Rattle.region_head.proofs.Heads.{closed_head}
use Rattle.region_layout.specs.Region.{IsAdoptable}
use Rattle.region_layout.specs.Drained.{images_of}
use Rattle.region_reading.specs.declared.fault.AdoptFault.{AdoptFault}
use Rattle.region_reading.specs.declared.fault.AdoptFault.TheVariants as fault
use Rattle.adopt.specs.declared.found.AdoptStep.{AdoptStep}
use Rattle.adopt.specs.declared.found.AdoptStep.TheVariants as step
use Rattle.leaf_words.specs.declared.ways.WhyDisk.TheVariants as why
use Rattle.adopt.specs.declared.found.ImageTables.{ImageTables}
use Rattle.adopt.specs.declared.found.Adopted.{Adopted}
use Rattle.adopt.specs.declared.found.Adoption.TheVariants.{NoTables, Tables}
use Rattle.adopt.specs.Adopting.{Adopting, AdoptsOn, AreAdopted, Finds, HasNoStranger, KeepsOn, cut_at}
use Rattle.region_strangers.specs.Strangers.{stranger_of}
use Rattle.region_head.specs.Closing.{AdoptsFrom, ClosedFrom, closed_flag}
use Rattle.adopt.specs.declared.found.Found.TheVariants as found
use Rattle.region_layout.specs.declared.directory.Directory.{Directory}
use Rattle.region_layout.specs.declared.directory.TablePlaces.{TablePlaces}
use Rattle.region_layout.proofs.Images.{same_directory}
use Rattle.adopt.specs.Starting.{Adopts, AreArranged, HasTables, IsDrained, TakesAll, TookSome}
use Rattle.adopt.specs.Taken.{AdoptState}
use Rattle.adopt.proofs.Arranging.{all_known, each_adopted, tables_size}
use Rattle.adopt.proofs.Ending.{ended_on}
use Rattle.region_head.proofs.Closing.{closed_breaks, cut_closed, flag_closed}
use Rattle.region_head.proofs.Moments.{adopts_closed, closed_on, closed_start}

-- ---- column after column

-- between two steps the region is closed
adopting_closed : (region now : List ℕ) (a : AdoptState) → Adopting region a now → IsClosed now
adopting_closed region now a adopting = subst IsClosed (sym adopting.rest) (cut_closed (cut_at a region) (closed_flag region) (flag_closed _))

pub none_taken : (a : AdoptState) (m : Meaning) → (IsTrue m.tells → KeepsRegion m) → TookSome a a m m
none_taken a m keeps = record {
  names = refl;
  told = λ region told adopting. adopting;
  moments = λ region told adopting. closed_start m (adopting_closed region m.held.region a adopting) (keeps told);
  disk = λ told. refl;
  disks = λ told p left. (p, left, refl);
  time = passes_none m;
  reads = refl;
}

-- Some columns were taken, and a step follows.
module _ (first a : AdoptState) (old mid new : Meaning) (so_far : TookSome first a old mid) where
  told_mid : IsTrue old.tells → IsTrue mid.tells
  told_mid told = subst IsTrue (sym so_far.time.tells) told

  pub moments_on : (IsTrue mid.tells → IsClosed mid.held.region → Throughout (ClosedFrom mid) mid new) → (region : List ℕ) → IsTrue old.tells → Adopting region first old.held.region → Throughout (ClosedFrom old) old new
  moments_on moments region told adopting =
      closed_on old mid new (so_far.moments region told adopting) (moments (told_mid told) (adopting_closed region mid.held.region a (so_far.told region told adopting)))

  pub disks_on : (IsTrue mid.tells → Ended SameDisk mid new) → IsTrue old.tells → Ended SameDisk old new
  disks_on disks told = ended_on old mid new (so_far.disks told) (disks (told_mid told))

  pub disk_on : (IsTrue mid.tells → new.held.disk ≡ mid.held.disk) → IsTrue old.tells → new.held.disk ≡ old.held.disk
  disk_on disk told = disk (told_mid told) ∙ so_far.disk told

  pub time_on : Passes mid new → Passes old new
  time_on time = passes_on old mid new so_far.time time

  pub more_taken : (b : AdoptState) (made : AdoptStep) → made ≡ step.More b → KeepsOn a made
      → ((region : List ℕ) → IsTrue mid.tells → Adopting region a mid.held.region → AdoptsOn region a new.held.region (Ok made))
      → (IsTrue mid.tells → IsClosed mid.held.region → Throughout (ClosedFrom mid) mid new) → (IsTrue mid.tells → new.held.disk ≡ mid.held.disk) → (IsTrue mid.tells → Ended SameDisk mid new)
      → Passes mid new → new.disk_reads ≡ mid.disk_reads → TookSome first b old new
  more_taken b made is kept told moments disk disks time reads = record {
    names = (subst (KeepsOn a) is kept).0 ∙ so_far.names;
    told = λ region t adopting. (subst (λ (s : AdoptStep). AdoptsOn region a new.held.region (Ok s)) is (told region (told_mid t) (so_far.told region t adopting))).0;
    moments = moments_on moments;
    disk = disk_on disk;
    disks = disks_on disks;
    time = time_on time;
    reads = reads ∙ so_far.reads;
  }

  pub none_made : (made : AdoptStep) → made ≡ step.NoImage → ((region : List ℕ) → IsTrue mid.tells → Adopting region a mid.held.region → AdoptsOn region a new.held.region (Ok made))
      → (region : List ℕ) → IsTrue old.tells → Adopting region first old.held.region → TakesAll region new.held.region (Ok None)
  none_made made is told region t adopting =
      let none = subst (λ (s : AdoptStep). AdoptsOn region a new.held.region (Ok s)) is (told region (told_mid t) (so_far.told region t adopting)) in
      (none.1, none.2)

  pub all_made : (d : ImageTables) (made : AdoptStep) → made ≡ step.Finished d.tables d.log_end → ((region : List ℕ) → IsTrue mid.tells → Adopting region a mid.held.region → AdoptsOn region a new.held.region (Ok made))
      → (region : List ℕ) → IsTrue old.tells → Adopting region first old.held.region → TakesAll region new.held.region (Ok (Some d))
  all_made d made is told region t adopting = subst (λ (s : AdoptStep). AdoptsOn region a new.held.region (Ok s)) is (told region (told_mid t) (so_far.told region t adopting))

  pub all_drained : (d : ImageTables) (made : AdoptStep) → made ≡ step.Finished d.tables d.log_end → AreAdopted a.names (Ok made) → IsDrained first.names d
  all_drained d made is adopted = subst (λ (names : List (List ℕ)). IsDrained names d) so_far.names (subst (λ (s : AdoptStep). AreAdopted a.names (Ok s)) is adopted)

  pub step_fails : (e : AdoptFault) → ((region : List ℕ) → IsTrue mid.tells → Adopting region a mid.held.region → AdoptsOn region a new.held.region (Err e))
      → (region : List ℕ) → IsTrue old.tells → Adopting region first old.held.region → TakesAll region new.held.region (Err e)
  step_fails e told region t adopting = by e (told region (told_mid t) (so_far.told region t adopting))
    where
      by : (e : AdoptFault) → AdoptsOn region a new.held.region (Err e) → TakesAll region new.held.region (Err e)
      by fault.RegionFault is = is
      by fault.NoMemory left = left

-- ---- the tables of a leaf

none_some : {X : Type 0} (o : Option X) (x : X) → o ≡ None → o ≡ Some x → ⊥
none_some o x a b = cc

-- The region had an image, of whose columns these were left.
module _ (names : List (List ℕ)) (region before new : List ℕ) (a : AdoptState) (adopting : Adopting region a before) where
  pub image_fails : (e : AdoptFault) → TakesAll region new (Err e) → Adopts names region new (Err e)
  image_fails fault.RegionFault is = closed_breaks region new a.version adopting.has.head is
  image_fails fault.NoMemory left = left

  pub image_none : a.names ≡ names → TakesAll region new (Ok None) → Adopts names region new (Ok (NoTables why.NoImage))
  image_none same none = (((a.version, adopting.has.head, adopting.reads_it, none.0), no_stranger), none.1)
    where
      no_stranger : HasNoStranger names region
      no_stranger name s =
          let one : s.1 ≡ a.directory = same_directory region s.0 a.version s.1 a.directory s.3 adopting.has in
          let known : stranger_of names (map (λ (t : TablePlaces). t.name) s.1.tables) ≡ None =
          subst (λ (d : Directory). stranger_of names (map (λ (t : TablePlaces). t.name) d.tables) ≡ None) (sym one)
          (subst (λ (ns : List (List ℕ)). stranger_of ns (map (λ (t : TablePlaces). t.name) a.directory.tables) ≡ None) same adopting.known) in
          none_some (stranger_of names (map (λ (t : TablePlaces). t.name) s.1.tables)) name known s.4

-- no directory was found
pub none_adopted : (names : List (List ℕ)) (region new : List ℕ) → Finds names region new (Ok found.NoImage) → Adopts names region new (Ok (NoTables why.NoImage))
none_adopted names region new none = (
  ((none.0.0, none.0.1, none.0.2, λ images log_end is. none.1 is.version is.is.directory is.is.has), λ name s. none.1 s.0 s.1 s.3),
  none.2,
)

pub image_adopted : (names : List (List ℕ)) (region new : List ℕ) (d : ImageTables) (got : Adopted) → IsDrained names d → AreArranged names d got → TakesAll region new (Ok (Some d)) → Adopts names region new (Ok (Tables got))
image_adopted names region new d got drained arranged took = (
  (images_of d.tables, subst (λ (n : ℕ). IsAdoptable region (images_of d.tables) n) (sym arranged.log_end) took.0, all_known names d.tables drained.0.known, arranged.tables),
  took.1,
)

pub has_tables : (names : List (List ℕ)) (d : ImageTables) (got : Adopted) → IsDrained names d → AreArranged names d got → HasTables (length names) (Tables got)
has_tables names d got drained arranged = (
  ap (λ (h : HeldTables). length h.each) arranged.tables ∙ tables_size names (images_of d.tables),
  subst (λ (h : HeldTables). AllByRecursion (λ (t : Table). (t.pending ≡ None) × (t.writes < 2 ^ 63)) h.each) (sym arranged.tables) (each_adopted names d.tables drained.0.writes),
  subst (λ (n : ℕ). n < 2 ^ 63) (sym arranged.log_end) drained.1,
)

-- an image was found, and then its columns were taken
pub image_moments : (a b c : Meaning) (image : AdoptState) → Throughout (AdoptsFrom a) a b → Adopting a.held.region image b.held.region → Throughout (ClosedFrom b) b c → Throughout (AdoptsFrom a) a c
image_moments a b c image first adopting all = adopts_closed a b c (λ closed. closed_head a.held.region closed image.version adopting.has.head) first all
