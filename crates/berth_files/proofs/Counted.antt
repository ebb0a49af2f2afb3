-- What a berth over files says of its calls, by what the files say of theirs.
use Rattle.std.proofs.Common.{◌≡◌, inl, inr, ℕ, ◌≤◌, List, [], ◌∷◌, length, Ok, Err, refl, subst, sym, arith}
use Rattle.std.specs.Prelude.{◌⊎◌, Result}
use Rattle.std.proofs.lemmas.List.{take_min}
use Rattle.berth_face.specs.Berth.{Meaning, Torn, Passes, Stays, Ticks, RegionWritten, RegionCut, DiskWritten, DiskSynced}
use Rattle.berth_face.proofs.Moments as moments
use Rattle.berth_files.specs.declared.leaf_file.LeafFile.{LeafFile}
use Rattle.berth_files.specs.declared.leaf_file.LeafFile.TheVariants.{Region, Disk}
use Rattle.berth_files.specs.Files.{FileWritten, FilesGoOn, counting}

-- ---- no call, and two calls

pub time_none : (m : Meaning) → FilesGoOn m m
time_none m = record { tells = refl; later = omega arith; past = λ t p le. (λ x. x, λ x. x); past_regions = λ t r le. (λ x. x, λ x. x) }

pub time_on : (a b c : Meaning) → FilesGoOn a b → FilesGoOn b c → FilesGoOn a c
time_on a b c ab bc = record {
  tells = subst (λ x. x ≡ a.tells) (sym bc.tells) ab.tells;
  later = omega (arith, ab.later, bc.later);
  past = λ t p le. (λ x. (ab.past t p le).0 ((bc.past t p (omega (arith, le, ab.later))).0 x), λ x. (bc.past t p (omega (arith, le, ab.later))).1 ((ab.past t p le).1 x));
  past_regions = λ t r le. (
    λ x. (ab.past_regions t r le).0 ((bc.past_regions t r (omega (arith, le, ab.later))).0 x),
    λ x. (bc.past_regions t r (omega (arith, le, ab.later))).1 ((ab.past_regions t r le).1 x),
  );
}

pub stays_none : (m : Meaning) → Stays m m
stays_none m = moments.stays_none m

pub stays_on : (a b c : Meaning) → FilesGoOn a b → Stays a b → FilesGoOn b c → Stays b c → Stays a c
stays_on a b c ga ab gb bc = moments.stays_over a b c ga.later gb.past gb.past_regions ab bc

-- ---- a write that is not made

torn_same : (at n : ℕ) (old : List ℕ) → Torn at n old old
torn_same at n old = record { before = take_min at old; after = refl; no_shorter = omega arith; no_longer = omega arith }

pub unwritten : (T E : Type 0) (file : LeafFile) (at : ℕ) (bytes : List ℕ) (e : E) (m : Meaning) → FileWritten {T = T} {E = E} file at bytes (Err e) m m
unwritten T E Region at bytes e m = record {
  disk = refl;
  ok = tt;
  err = torn_same at (length bytes) m.held.region;
  too_far = λ far. stays_none m;
  ticks = (tt, inr (stays_none m));
  inside = λ t p after before left. absurd (omega (arith, after, before));
  ended = λ p left. (p, left, refl);
  meanwhile = λ t r after before stands. absurd (omega (arith, after, before));
}
unwritten T E Disk at bytes e m = record {
  region = refl;
  ok = tt;
  err = torn_same at (length bytes) m.held.disk;
  too_far = λ far. stays_none m;
  ticks = (tt, inr (stays_none m));
  inside = λ t p after before left. absurd (omega (arith, after, before));
  ended = λ p left. (p, left, (refl, torn_same at (length bytes) p.disk));
  meanwhile = λ t r after before stands. absurd (omega (arith, after, before));
}

-- a write of no bytes
pub lengthened : {T E : Type 0} (file : LeafFile) (at : ℕ) (bytes : List ℕ) (result : Result T E) (old new : Meaning) → length bytes ≡ 0 → FileWritten file at [] result old new → FileWritten file at bytes result old new
lengthened file at [] result old new none wrote = wrote
lengthened file at (b ∷ bytes) result old new none wrote = absurd cc

-- ---- with counts

module _ (old new : Meaning) (rf df dr rf' df' dr' : ℕ) where
  abbrev before : Meaning
  before = counting old rf df dr

  abbrev after : Meaning
  after = counting new rf' df' dr'

  pub passes_counting : FilesGoOn old new → rf ≤ rf' → df ≤ df' → Passes before after
  passes_counting time region disk = record { tells = time.tells; later = time.later; past = time.past; past_regions = time.past_regions; region_faults = region; disk_faults = disk }

  pub stays_counting : Stays old new → Stays before after
  stays_counting same = record { held = same.held; leaves = same.leaves; regions = same.regions }

  stays_or : {X : Type 0} → X ⊎ Stays old new → X ⊎ Stays before after
  stays_or (inl x) = inl x
  stays_or (inr same) = inr (stays_counting same)

  ticks_counting : {T E : Type 0} (result : Result T E) → Ticks result old new → Ticks result before after
  ticks_counting (Ok value) ticks = ticks
  ticks_counting (Err e) ticks = (tt, stays_or ticks.1)

  pub region_written : {T E : Type 0} (at : ℕ) (bytes : List ℕ) (result : Result T E) → RegionWritten at bytes result old new → RegionWritten at bytes result before after
  region_written at bytes result wrote = record {
    disk = wrote.disk;
    ok = wrote.ok;
    err = wrote.err;
    too_far = λ far. stays_counting (wrote.too_far far);
    ticks = ticks_counting result wrote.ticks;
    inside = wrote.inside;
    ended = wrote.ended;
    meanwhile = wrote.meanwhile;
  }

  pub region_cut : {T E : Type 0} (len : ℕ) (result : Result T E) → RegionCut len result old new → RegionCut len result before after
  region_cut len result made = record {
    disk = made.disk;
    ok = made.ok;
    err = made.err;
    ticks = ticks_counting result made.ticks;
    inside = made.inside;
    ended = made.ended;
    meanwhile = made.meanwhile;
  }

  pub disk_written : {T E : Type 0} (at : ℕ) (bytes : List ℕ) (result : Result T E) → DiskWritten at bytes result old new → DiskWritten at bytes result before after
  disk_written at bytes result wrote = record {
    region = wrote.region;
    ok = wrote.ok;
    err = wrote.err;
    too_far = λ far. stays_counting (wrote.too_far far);
    ticks = ticks_counting result wrote.ticks;
    inside = wrote.inside;
    ended = wrote.ended;
    meanwhile = wrote.meanwhile;
  }

  pub disk_synced : {T E : Type 0} (result : Result T E) → DiskSynced result old new → DiskSynced result before after
  disk_synced result made = record {
    held = made.held;
    ticks = ticks_counting result made.ticks;
    inside = made.inside;
    ended = made.ended;
    durable = made.durable;
    meanwhile = made.meanwhile;
  }
