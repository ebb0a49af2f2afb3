-- Files of which a crash may leave any closed region keep what the others keep.
use Rattle.std.proofs.Common.{◌≡◌, ◌⊎◌, ◌↔◌, inl, inr, ◌∙◌, ℕ, List, [], ◌∷◌, length, Ok, Err, refl, sym, subst, arith}
use Rattle.std.specs.Prelude.{Result, IfOk, OnOk}
use Rattle.berth_face.specs.Berth.{Pair, Meaning, IsClosed, Stays, Ticks, Torn, Inside, Ended, RegionStep, SameDisk, DiskStep, RegionWritten, RegionCut, DiskWritten, DiskSynced}
use Rattle.berth_face.specs.Moments.{EachNow, KeepsRegion}
use Rattle.berth_files.specs.declared.leaf_file.LeafFile.{LeafFile}
use Rattle.berth_files.specs.declared.leaf_file.LeafFile.TheVariants.{Region, Disk}
use Rattle.berth_files.specs.Files.{FileWritten, GivesSome, FilesGoOn, file_content}
use Rattle.files_tests.specs.Torn.{torn}

-- ---- calls

module _ (old new : Meaning) where
  -- pairs of two moments that are the same
  pairs : (t u : ℕ) → ((q : Pair) → new.leaves t q ↔ old.leaves u q) → (p : Pair) → (torn new).leaves t p ↔ (torn old).leaves u p
  pairs t u same p = (λ left. (left.0, (same left.0).0 left.1, left.2, left.3), λ left. (left.0, (same left.0).1 left.1, left.2, left.3))

  pub goes_on : FilesGoOn old new → FilesGoOn (torn old) (torn new)
  goes_on time = record { tells = time.tells; later = time.later; past = λ t p le. pairs t t (λ q. time.past t q le) p; past_regions = time.past_regions }

  pub stays : Stays old new → Stays (torn old) (torn new)
  stays same = record { held = same.held; leaves = λ t p from to. pairs t old.clock (λ q. same.leaves t q from to) p; regions = same.regions }

  stays_or : {X : Type 0} → X ⊎ Stays old new → X ⊎ Stays (torn old) (torn new)
  stays_or (inl x) = inl x
  stays_or (inr same) = inr (stays same)

  ticks : {T E : Type 0} (result : Result T E) → Ticks result old new → Ticks result (torn old) (torn new)
  ticks (Ok value) took = took
  ticks (Err e) took = (tt, stays_or took.1)

  -- a step of the region, and then the region may be torn
  region_inside : (makes : List ℕ → Type 0) → Inside (RegionStep makes) old new → Inside (RegionStep makes) (torn old) (torn new)
  region_inside makes inside t p after before left =
      let came = inside t left.0 after before left.1 in (
        came.0,
        (came.0, came.1, refl, inl refl),
        (
          elim left.3 [
            | inl same ↦ subst (λ (r : List ℕ). makes r ⊎ IsClosed r) (sym same) came.2.0
            | inr shut ↦ inr shut
          ],
          left.2 ∙ came.2.1,
        ),
      )

  region_ended : Ended SameDisk old new → Ended SameDisk (torn old) (torn new)
  region_ended ended p left = let came = ended left.0 left.1 in (came.0, (came.0, came.1, refl, inl refl), left.2 ∙ came.2)

  -- a step of the disk, beside the region as it may be torn
  disk_step : (makes : List ℕ → List ℕ → Type 0) (p q : Pair) → p.disk ≡ q.disk → (p.region ≡ q.region) ⊎ IsClosed p.region → (s : Pair) × old.leaves old.clock s × DiskStep makes s q
      → (s : Pair) × (torn old).leaves old.clock s × DiskStep makes s p
  disk_step makes p q disk region came = (
    record { region = p.region; disk = came.0.disk },
    (
      came.0,
      came.1,
      refl,
      elim region [
        | inl same ↦ inl (same ∙ came.2.0)
        | inr shut ↦ inr shut
      ],
    ),
    (refl, subst (makes came.0.disk) (sym disk) came.2.1),
  )

  region_written : {T E : Type 0} (at : ℕ) (bytes : List ℕ) (result : Result T E) → RegionWritten at bytes result old new → RegionWritten at bytes result (torn old) (torn new)
  region_written at bytes result wrote = record {
    disk = wrote.disk;
    ok = wrote.ok;
    err = wrote.err;
    too_far = λ far. stays (wrote.too_far far);
    ticks = ticks result wrote.ticks;
    inside = region_inside _ wrote.inside;
    ended = region_ended wrote.ended;
    meanwhile = wrote.meanwhile;
  }

  disk_written : {T E : Type 0} (at : ℕ) (bytes : List ℕ) (result : Result T E) → DiskWritten at bytes result old new → DiskWritten at bytes result (torn old) (torn new)
  disk_written at bytes result wrote = record {
    region = wrote.region;
    ok = wrote.ok;
    err = wrote.err;
    too_far = λ far. stays (wrote.too_far far);
    ticks = ticks result wrote.ticks;
    inside = λ t p after before left. disk_step (Torn at (length bytes)) p left.0 left.2 left.3 (wrote.inside t left.0 after before left.1);
    ended = λ p left. disk_step (Torn at (length bytes)) p left.0 left.2 left.3 (wrote.ended left.0 left.1);
    meanwhile = wrote.meanwhile;
  }

  pub written : {T E : Type 0} (file : LeafFile) (at : ℕ) (bytes : List ℕ) (result : Result T E) → FileWritten file at bytes result old new → FileWritten file at bytes result (torn old) (torn new)
  written Region at bytes result wrote = region_written at bytes result wrote
  written Disk at bytes result wrote = disk_written at bytes result wrote

  pub region_cut : {T E : Type 0} (len : ℕ) (result : Result T E) → RegionCut len result old new → RegionCut len result (torn old) (torn new)
  region_cut len result made = record {
    disk = made.disk;
    ok = made.ok;
    err = made.err;
    ticks = ticks result made.ticks;
    inside = region_inside _ made.inside;
    ended = region_ended made.ended;
    meanwhile = made.meanwhile;
  }

  kept_disk : {T E : Type 0} (result : Result T E) → OnOk result ((p : Pair) → new.leaves new.clock p → p.disk ≡ old.held.disk) → OnOk result ((p : Pair) → (torn new).leaves new.clock p → p.disk ≡ old.held.disk)
  kept_disk (Ok value) all = λ p left. left.2 ∙ all left.0 left.1
  kept_disk (Err e) all = tt

  pub disk_synced : {T E : Type 0} (result : Result T E) → DiskSynced result old new → DiskSynced result (torn old) (torn new)
  disk_synced result made = record {
    held = made.held;
    ticks = ticks result made.ticks;
    inside = λ t p after before left. (left.0, made.inside t left.0 after before left.1, left.2, left.3);
    ended = λ p left. (left.0, made.ended left.0 left.1, left.2, left.3);
    durable = kept_disk result made.durable;
    meanwhile = made.meanwhile;
  }

-- ---- what reads give

pub len_told : {E : Type 0} (file : LeafFile) (result : Result ℕ E) (m : Meaning) → IfOk result (λ n. n ≡ length (file_content file m)) → IfOk result (λ n. n ≡ length (file_content file (torn m)))
len_told Region result m is = is
len_told Disk result m is = is

pub read_told : {E : Type 0} (file : LeafFile) (at : ℕ) (buf : List ℕ) (result : Result ℕ E) (m : Meaning) → IfOk result (λ n. GivesSome at (file_content file m) buf n) → IfOk result (λ n. GivesSome at (file_content file (torn m)) buf n)
read_told Region at buf result m gives = gives
read_told Disk at buf result m gives = gives

-- ---- a flag that is closed

pub shut_now : {T E : Type 0} (result : Result T E) (old new : Meaning) → KeepsRegion new → RegionWritten 0 (0 ∷ []) result old new → OnOk result (EachNow (λ p. IsClosed p.region) new)
shut_now (Ok value) old new keeps wrote = λ p left. elim (keeps p left) [
  | inl same ↦ subst IsClosed (sym (same ∙ wrote.ok)) (inr (λ one. omega (arith, one)))
  | inr shut ↦ shut
]
shut_now (Err e) old new keeps wrote = tt
