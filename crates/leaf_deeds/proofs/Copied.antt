-- The copy of a leaf's tables, step by step.
use Rattle.std.proofs.Common.{◌≡◌, ℕ, zero, suc, ◌+◌, ◌<◌, ◌≤◌, Bool, true, false, ltb, List, [], ◌∷◌, ◌++◌, length, drop, replicate, Option, Result, Ok, Err, refl, sym, ap, subst, ◌∙◌, le_refl, arith, inl, inr}
use Rattle.std.specs.Prelude.{IsTrue, slice_index}
use Rattle.std.proofs.lemmas.Bool.{le-ltb, ltb-true, ltb-false}
use Rattle.std.proofs.lemmas.List.{length-drop}
use Rattle.leaf_model.specs.declared.writes.Write.{Write}
use Rattle.berth_face.specs.Berth.{Meaning, Passes}
use Rattle.berth_face.specs.Causes.{HasCause}
use Rattle.berth_face.proofs.Moments.{passes_none, passes_on}
use Rattle.region_head.specs.declared.head.Head.TheVariants as head
use Rattle.region_layout.specs.Images.{TableImage}
use Rattle.region_head.specs.Head.{head_of}
use Rattle.region_head.proofs.Heads.{closed_head}
use Rattle.region_layout.specs.Region.{IsAdoptable}
use Rattle.drain_copy.specs.declared.step.Next.{Next}
use Rattle.drain_copy.specs.declared.step.Next.TheVariants as next
use Rattle.drain_copy.specs.declared.step.RegionFault.{RegionFault}
use Rattle.drain_copy.specs.Draining.{DrainState, Draining, RegionStandsAt, directory_of, left_from}
use Rattle.crash_moments.specs.Left.{NamedStates}
use Rattle.crash_moments.specs.Told as moments
use Rattle.crash_moments.proofs.Telling.{none_more, told_join}
use Rattle.crash_states.specs.Standing.{Copies}
use Rattle.crash_states.proofs.Lefts.{copies_told}
use Rattle.leaf_words.specs.declared.note.Note.{Note}
use Rattle.leaf_steward.specs.Seated.{Seated, AreFounded, watched_by}
use Rattle.leaf_steward.specs.Making.{Makes, EachNoted, IsHandedNote}
use Rattle.leaf_steward.proofs.Keeping.{makes_since}
use Rattle.leaf_machine.specs.declared.copying.Copied.{Copied}
use Rattle.leaf_machine.specs.declared.copying.Copied.TheVariants as copied
use Rattle.leaf_machine.specs.States.{Copying, GoesOnCopying, RestsOn, Shutting, columns_added, columns_seen}
use Rattle.leaf_machine.specs.Prepares.{IsCopyOf}
use Rattle.leaf_machine.specs.Copies.{CopyGoesOn, IsCopyStep, LeavesRegion, berth_of_copy, seats_of_copy, IsUnderWay}
use Rattle.printed_lines.specs.declared.line.Ending.TheVariants as ending
use Rattle.transcript.specs.Life.{MayMake}
use Rattle.transcript.specs.Life as life
use Rattle.leaf_moves.specs.Steps.{AreShut, HasCopyLength, RegionStopped}
use Rattle.leaf_deeds.specs.Steps.{AreLeft, Spends, copy_left}
use Rattle.leaf_deeds.specs.Moves as move
use Rattle.leaf_deeds.specs.Moves.{CopyDone, CopyEnds, CopyRests, CopyingStands, MakesCopies}
use Rattle.leaf_deeds.proofs.Counted.{none_made, spent, may_make, all_made}

-- ---- the copy so far

-- a copy that stood stands on, and at each moment a crash left what belongs to its tables
abbrev pub CopyTold : Copying → Copying → Meaning → Meaning → Type 0
CopyTold c d m n = CopyingStands d n × ((base : NamedStates) → moments.Told base (watched_by c.seated) (watched_by d.seated) m n)

-- behind no step the region is untouched
abbrev pub IsReached : ℕ → Meaning → Meaning → Next → Type 0
IsReached zero m n at = n.held.region ≡ m.held.region
IsReached (suc made) m n at = IsUnderWay at

-- So many steps were made and the others are left, none of those that were made was the last, nothing was noted, and
-- the disk was not read.
pub record CopiedSoFar (c : Copying) (m : Meaning) (stop : Option ℕ) (d : Copying) (n : Meaning) (left : Option ℕ) (notes : List Note) : Type 0 where
  pub seated : d.seated ≡ c.seated
  pub made : ℕ
  pub steps : MakesCopies (copy_left c) made
  pub count : made + copy_left d ≡ copy_left c
  pub left_are : AreLeft stop made left
  pub none : notes ≡ []
  pub image : d.drain.image ≡ c.drain.image
  pub reached : IsReached made m n d.drain.next
  pub copies : IsTrue m.tells → AreFounded c.seated → CopyingStands c m → CopyTold c d m n
  pub reads : n.disk_reads ≡ m.disk_reads
  pub passes : Passes m n

copy_told : (base : NamedStates) (c : Copying) (m : Meaning) → CopyingStands c m → moments.Told base (watched_by c.seated) (watched_by c.seated) m m
copy_told base c m stands = copies_told (watched_by c.seated) (watched_by c.seated) base c.drain stands.0 m stands.1 (none_more m.clock m.clock (watched_by c.seated))

pub copied_none : (c : Copying) (m : Meaning) (stop : Option ℕ) (notes : List Note) → notes ≡ [] → CopiedSoFar c m stop c m stop notes
copied_none c m stop notes empty = record {
  seated = refl;
  made = 0;
  steps = λ more. more;
  count = omega arith;
  left_are = none_made stop;
  none = empty;
  image = refl;
  reached = refl;
  copies = λ tells founded stands. (stands, λ base. copy_told base c m stands);
  reads = refl;
  passes = passes_none m;
}

-- what a step does
pub record CopySteps {B : Type 0} (meaning : B → Meaning) (d : Copying) (n : Meaning) (notes : List Note) (r : Result (Copied B) ((Seated × B) × RegionFault)) : Type 0 where
  pub one : IsCopyStep d notes r
  pub made : Makes n.clock (meaning (berth_of_copy r)).clock d.seated notes (seats_of_copy r)
  pub crash : IsTrue n.tells → AreFounded d.seated → CopyGoesOn meaning d n r
  pub region : IsTrue n.tells → AreFounded d.seated → (writes : List ℕ → List Write) → Copies (watched_by d.seated) d.drain writes n → LeavesRegion meaning d r
  pub reads : (meaning (berth_of_copy r)).disk_reads ≡ n.disk_reads
  pub time : Passes n (meaning (berth_of_copy r))
  pub cause : HasCause n.region_faults (meaning (berth_of_copy r)).region_faults r

abbrev pub more_copy : {B : Type 0} → Copying × B → Result (Copied B) ((Seated × B) × RegionFault)
more_copy leaf = Ok (copied.More leaf)

abbrev pub last_copy : {B : Type 0} → Seated × B → Result (Copied B) ((Seated × B) × RegionFault)
last_copy leaf = Ok (copied.Finished leaf)

abbrev pub failed_copy : {B : Type 0} → Seated × B → RegionFault → Result (Copied B) ((Seated × B) × RegionFault)
failed_copy leaf fault = Err (leaf, fault)

-- ---- how many steps it takes

-- a copy that begins takes three steps and one for each column; of founded tables there are no more than rows and cells
-- that were added
pub copy_long : (x : Shutting) (c : Copying) → IsCopyOf x c → AreShut x.serving.seated → HasCopyLength x.serving.seated (copy_left c)
copy_long x c is shut = (
  subst (λ (n : Next). 3 + columns_seen x.serving.seated.tables x.serving.seated.seats ≤ left_from n c.drain.heap) (sym is.next) (let columns = is.columns in omega (arith, columns)),
  λ founded. subst (λ (n : Next). left_from n c.drain.heap ≤ 3 + columns_added x.serving.seated.tables x.serving.seated.seats) (sym is.next) (let few = is.few founded in omega (arith, few)),
  shut,
)

last_left : (c : Copying) → c.drain.next ≡ next.Flag → copy_left c ≡ 1
last_left c last = ap (λ (n : Next). left_from n c.drain.heap) last

more_left : (n : Next) (heap : List (List ℕ)) → IsUnderWay n → 0 < left_from n heap
more_left next.Begin heap is = absurd is
more_left next.Copy heap is = omega arith
more_left next.Flag heap is = omega arith
more_left next.Nothing heap is = absurd is

-- and one step fewer is left
pub copy_fewer : {B : Type 0} (d : Copying) (notes : List Note) (later : Copying × B) → IsCopyStep d notes (more_copy later) → copy_left later.0 < copy_left d
copy_fewer d notes later is = omega (arith, is.0)

-- ---- the region of a copy that is stopped

closed_at_zero : (rest : List ℕ) → 15 ≤ length rest → head_of (0 ∷ rest) ≡ head.Closed 0
closed_at_zero rest enough =
    let long : ltb (length (0 ∷ rest)) 16 ≡ false = le-ltb _ _ (omega (arith, enough)) in
    rw long refl

-- what begins with a byte of zero, and is as long as a head
closed_columns : (region columns directory others : List ℕ) → 16 ≤ length region → (region ++ columns) ++ directory ≡ 0 ∷ others → head_of region ≡ head.Closed 0
closed_columns [] columns directory others long same = absurd (omega (arith, long))
closed_columns (byte ∷ rest) columns directory others long same =
    subst (λ (b : ℕ). head_of (b ∷ rest) ≡ head.Closed 0) (sym (ap (λ (bytes : List ℕ). slice_index bytes 0) same)) (closed_at_zero rest (omega (arith, long)))

long_image : (image : List ℕ) (images : List TableImage) (log_end : ℕ) → IsAdoptable image images log_end → 16 ≤ length image
long_image image images log_end is = by (ltb (length image) 16) refl
  where
    by : (short : Bool) → ltb (length image) 16 ≡ short → 16 ≤ length image
    by true e = absurd (closed_head image (inl (ltb-true (length image) 16 e)) is.version is.is.has.head)
    by false e = omega (arith, ltb-false (length image) 16 e)

closed_now : (at : Next) (image : List ℕ) (heap : List (List ℕ)) (region : List ℕ) → IsUnderWay at → 16 ≤ length image → RegionStandsAt at image heap region → head_of region ≡ head.Closed 0
closed_now next.Begin image heap region is long stands = absurd is
closed_now next.Copy image heap region is long stands =
    closed_columns region _ (directory_of image) (replicate 15 0 ++ drop 16 image) stands.0 stands.1
closed_now next.Flag image heap region is long stands =
    subst (λ (r : List ℕ). head_of r ≡ head.Closed 0) (sym stands.0) (closed_at_zero (drop 1 image) (omega (arith, length-drop 1 image, long)))
closed_now next.Nothing image heap region is long stands = absurd is

-- it is as it was before the first step, and closed behind that
region_stopped : (made : ℕ) (d : DrainState) (m n : Meaning) (images : List TableImage) (log_end : ℕ)
    → IsReached made m n d.next → IsAdoptable d.image images log_end → Draining d n.held.region → RegionStopped (life.Copying made) m n
region_stopped zero d m n images log_end reached is stands = reached
region_stopped (suc made) d m n images log_end reached is stands =
    closed_now d.next d.image d.heap n.held.region reached (long_image d.image images log_end is) stands

-- ---- one step more, or how it ends

module _ (c : Copying) (m : Meaning) (stop left left' : Option ℕ) (d : Copying) (n : Meaning) (before : List Note) (so_far : CopiedSoFar c m stop d n left before) where
  founded_still : AreFounded c.seated → AreFounded d.seated
  founded_still founded = subst AreFounded (sym so_far.seated) founded

  tells_still : IsTrue m.tells → IsTrue n.tells
  tells_still tells = so_far.passes.tells ∙ tells

  -- no step is left
  copied_stopped : Spends left false left' → CopyEnds c stop m n before ending.Stopped d.seated
  copied_stopped spends =
      move.stopped so_far.made so_far.steps (all_made stop left so_far.made 0 so_far.made so_far.left_are spends (omega arith)) so_far.none so_far.seated
      (λ tells founded stands.
      let now : CopyTold c d m n = so_far.copies tells founded stands in
      region_stopped so_far.made d.drain m n now.0.1.images now.0.1.log_end so_far.reached now.0.1.image now.0.1.draining)
      refl

  -- a leaf that the copy left at rest
  rests_then : (y : Seated) (notes : List Note) (o : Meaning) → Passes n o → o.disk_reads ≡ n.disk_reads → Makes n.clock o.clock d.seated notes y
      → (IsTrue n.tells → AreFounded d.seated → (writes : List ℕ → List Write) → Copies (watched_by d.seated) d.drain writes n → RestsOn d.seated y n o) → CopyRests c y notes m o
  rests_then y notes o time same made rests = record {
    made = makes_since m.clock n.clock o.clock c.seated notes y so_far.passes.later (subst (λ (s : Seated). Makes n.clock o.clock s notes y) so_far.seated made);
    reads = same ∙ so_far.reads;
    stands = λ base tells founded sound stands.
        let now : CopyTold c d m n = so_far.copies tells founded stands in
        let on : RestsOn d.seated y n o = rests (tells_still tells) (founded_still founded) now.0.0 now.0.1 in
        ((on.least, on.next, on.rests base sound), told_join base (watched_by c.seated) (watched_by d.seated) (watched_by y) m n o (now.1 base) (on.told base));
  }

  -- it is given up
  stopped_rests : ((writes : List ℕ → List Write) → AreFounded d.seated → Copies (watched_by d.seated) d.drain writes n → RestsOn d.seated d.seated n n) → CopyRests c d.seated before m n
  stopped_rests rests =
      rests_then d.seated before n (passes_none n) refl (Makes.none n.clock n.clock d.seated before d.seated (le_refl n.clock) so_far.none refl) (λ tells founded writes copies. rests writes founded copies)

  pub copy_stopped : Spends left false left' → ((writes : List ℕ → List Write) → AreFounded d.seated → Copies (watched_by d.seated) d.drain writes n → RestsOn d.seated d.seated n n) → CopyDone c stop m n before ending.Stopped d.seated
  copy_stopped spends rests = record { ends = copied_stopped spends; rests = stopped_rests rests; time = so_far.passes; cause = tt }

  module _ {B : Type 0} (meaning : B → Meaning) (notes : List Note) (spends : Spends left true left') where
    left_now : AreLeft stop (suc so_far.made) left'
    left_now = spent stop left left' so_far.made so_far.left_are spends

    may_now : MayMake stop (suc so_far.made)
    may_now = may_make stop left' (suc so_far.made) left_now

    -- one step more
    pub copied_more : (later : Copying × B) → CopySteps meaning d n notes (more_copy later) → CopiedSoFar c m stop later.0 (meaning later.1) left' notes
    copied_more later steps = record {
      seated = steps.one.1 ∙ so_far.seated;
      made = suc so_far.made;
      steps = λ more. omega (arith, so_far.count, steps.one.0, more_left later.0.drain.next later.0.drain.heap way);
      count = omega (arith, so_far.count, steps.one.0);
      left_are = left_now;
      none = steps.one.3;
      image = steps.one.2 ∙ so_far.image;
      reached = way;
      copies = λ tells founded stands.
          let now : CopyTold c d m n = so_far.copies tells founded stands in
          let on : GoesOnCopying d.seated later.0 n (meaning later.1) = steps.crash (tells_still tells) (founded_still founded) now.0.0 now.0.1 in
          ((on.writes, on.copies), λ base. told_join base (watched_by c.seated) (watched_by d.seated) (watched_by later.0.seated) m n (meaning later.1) (now.1 base) (on.told base));
      reads = steps.reads ∙ so_far.reads;
      passes = passes_on m n (meaning later.1) so_far.passes steps.time;
    }
      where
        way : IsUnderWay later.0.drain.next
        way = steps.one.4

    -- the last step
    copied_done : (down : Seated × B) → CopySteps meaning d n notes (last_copy down) → CopyEnds c stop m (meaning down.1) notes ending.Done down.0
    copied_done down steps =
        move.done so_far.made (omega (arith, so_far.count, last_left d steps.one.0)) may_now
        (subst (λ (s : Seated). EachNoted IsHandedNote 0 (length s.tables) notes) so_far.seated steps.one.1)
        (λ tells founded stands.
        let now : CopyTold c d m n = so_far.copies tells founded stands in
        (steps.crash (tells_still tells) (founded_still founded) now.0.0 now.0.1).1)
        (λ tells founded stands.
        let now : CopyTold c d m n = so_far.copies tells founded stands in
        inr (steps.region (tells_still tells) (founded_still founded) now.0.0 now.0.1 ∙ so_far.image))
        refl

    -- the region failed
    copied_failed : (down : Seated × B) (fault : RegionFault) → CopySteps meaning d n notes (failed_copy down fault) → CopyEnds c stop m (meaning down.1) notes ending.FaultRegion down.0
    copied_failed down fault steps =
        move.failed so_far.made so_far.steps may_now steps.one.1 (steps.one.0 ∙ so_far.seated)
        (λ tells founded stands.
        let now : CopyTold c d m n = so_far.copies tells founded stands in
        elim (steps.region (tells_still tells) (founded_still founded) now.0.0 now.0.1) [
          | inl closed ↦ inl closed
          | inr whole ↦ inr (whole ∙ so_far.image)
        ])
        refl

    pub copy_done : (down : Seated × B) → CopySteps meaning d n notes (last_copy down) → CopyDone c stop m (meaning down.1) notes ending.Done down.0
    copy_done down steps = record {
      ends = copied_done down steps;
      rests = rests_then down.0 notes (meaning down.1) steps.time steps.reads steps.made (λ tells founded writes copies. (steps.crash tells founded writes copies).0);
      time = passes_on m n (meaning down.1) so_far.passes steps.time;
      cause = tt;
    }

    pub copy_failed : (down : Seated × B) (fault : RegionFault) → CopySteps meaning d n notes (failed_copy down fault) → CopyDone c stop m (meaning down.1) notes ending.FaultRegion down.0
    copy_failed down fault steps = record {
      ends = copied_failed down fault steps;
      rests = rests_then down.0 notes (meaning down.1) steps.time steps.reads steps.made steps.crash;
      time = passes_on m n (meaning down.1) so_far.passes steps.time;
      cause = let more = so_far.passes.region_faults in let rose = steps.cause.failed in omega (arith, more, rose);
    }
