-- What a drain's parts come to.
use Rattle.std.proofs.Common.{◌≡◌, ℕ, suc, ◌+◌, ◌*◌, ◌-◌, ◌<◌, ◌≤◌, true, false, List, [], ◌++◌, length, Option, Result, Ok, Err, refl, sym, ap, subst, ◌∙◌, arith}
use Rattle.std.specs.Prelude.{IsTrue}
use Rattle.std.proofs.lemmas.Option.{slice_get_within}
use Rattle.std.proofs.lemmas.List.{append-nil, length-append}
use Rattle.berth_face.specs.Berth.{Meaning, Passes}
use Rattle.berth_face.specs.Causes.{Rose}
use Rattle.berth_face.proofs.Moments.{passes_on}
use Rattle.leaf_model.specs.declared.writes.Write.{Write}
use Rattle.crash_moments.proofs.Telling.{told_join}
use Rattle.crash_states.specs.Standing.{Runs}
use Rattle.leaf_words.specs.declared.note.Note.{Note}
use Rattle.leaf_table.specs.Calls.{base_seen, state_seen}
use Rattle.leaf_steward.specs.Seated.{Seated, AreFounded, AtEach, watched_by}
use Rattle.leaf_steward.specs.Making.{Makes, EachNoted, IsClosedNote}
use Rattle.leaf_steward.proofs.Keeping.{makes_join, makes_tables}
use Rattle.leaf_machine.specs.declared.preparing.Prepared.{Prepared}
use Rattle.leaf_machine.specs.declared.preparing.Prepared.TheVariants as prepared
use Rattle.leaf_machine.specs.declared.preparing.PrepareFault.{PrepareFault}
use Rattle.leaf_machine.specs.declared.preparing.PrepareFault.TheVariants as fault
use Rattle.leaf_machine.specs.States.{Shutting, Copying, GoesOnCopying, IsShutAndTaken, RestsOn, GoesOnServing, treated}
use Rattle.leaf_machine.specs.Prepares.{AllTreated, CrowdsStep, PreparingIsCrowded, IsTreatingStep, RoseStep, StepGoesOn, berth_of_step, seats_of_step}
use Rattle.printed_lines.specs.declared.line.Ending.{Ending}
use Rattle.printed_lines.specs.declared.line.Ending.TheVariants as ending
use Rattle.transcript.specs.Life.{MayMake, Treats}
use Rattle.transcript.specs.Life as life
use Rattle.leaf_moves.specs.Stage.{IsPreparing}
use Rattle.leaf_moves.specs.Modes.{HasShut, mode_of, progress_of}
use Rattle.leaf_moves.specs.Steps.{AreShut, DrainMoves, Reaches}
use Rattle.leaf_deeds.specs.declared.drain.Shut.{Shut}
use Rattle.leaf_deeds.specs.declared.drain.Shut.TheVariants as how
use Rattle.leaf_deeds.specs.Steps.{AreLeft, Spends}
use Rattle.leaf_deeds.specs.Moves as move
use Rattle.leaf_deeds.specs.Moves.{CarriesCopy, Drains, RoseShut, ShuttingIsKilled, Treated, berth_left, end_of}
use Rattle.leaf_deeds.proofs.Counted.{steps_more, none_made, spent, may_make, all_made}
use Rattle.leaf_deeds.proofs.Copied.{copy_long}
use Rattle.leaf_deeds.proofs.Fewer.{treated_by, treats_few}
use Rattle.leaf_deeds.proofs.Moved.{rests_carried}
use Rattle.leaf_deeds.proofs.Lives.{halts, one_treated, starves, treats}
use Rattle.leaf_deeds.proofs.Treated.{GoesFar, far_none, far_on, far_founded, far_tells, far_carries}

-- ---- the shutting so far

-- Tables were treated up to this, with a step each, by these notes.
pub record SoFar (x : Shutting) (m : Meaning) (stop : Option ℕ) (y : Shutting) (n : Meaning) (left : Option ℕ) (notes : List Note) : Type 0 where
  pub made : ℕ
  pub treated_so : Treated x made notes y
  pub left_are : AreLeft stop made left
  pub few : length notes ≤ 3 * treated y
  pub far : GoesFar x y notes m n

abbrev pub more_step : {B : Type 0} → Shutting × B → Result (Prepared B) ((Shutting × B) × PrepareFault)
more_step leaf = Ok (prepared.More leaf)

abbrev pub ready_step : {B : Type 0} → Copying × B → Result (Prepared B) ((Shutting × B) × PrepareFault)
ready_step leaf = Ok (prepared.Ready leaf)

abbrev pub failed_step : {B : Type 0} → Shutting × B → PrepareFault → Result (Prepared B) ((Shutting × B) × PrepareFault)
failed_step leaf f = Err (leaf, f)

-- nothing was treated yet
pub so_far_none : (x : Shutting) (m : Meaning) (stop : Option ℕ) → SoFar x m stop x m stop []
so_far_none x m stop = record {
  made = 0;
  treated_so = record { steps = λ copy. (refl, refl); part = record { from = m.clock; to = m.clock; made = (far_none x m).made } };
  left_are = none_made stop;
  few = omega arith;
  far = far_none x m;
}

-- what a step does
pub record Stepped {B : Type 0} (meaning : B → Meaning) (y : Shutting) (n : Meaning) (notes : List Note) (r : Result (Prepared B) ((Shutting × B) × PrepareFault)) : Type 0 where
  pub one : IsTreatingStep y notes r
  pub crowds : CrowdsStep y r
  pub made : Makes n.clock (meaning (berth_of_step r)).clock y.serving.seated notes (seats_of_step r)
  pub crash : IsTrue n.tells → AreFounded y.serving.seated → StepGoesOn meaning y n r
  pub region : IsTrue n.tells → (meaning (berth_of_step r)).held.region ≡ n.held.region
  pub reads : (meaning (berth_of_step r)).disk_reads ≡ n.disk_reads
  pub time : Passes n (meaning (berth_of_step r))
  pub cause : RoseStep n.disk_faults (meaning (berth_of_step r)).disk_faults r

-- the loop goes on after a step, or ends
abbrev pub ended : {B : Type 0} → Shut B → Result (Shutting × B) (Shut B)
ended s = Err s

abbrev pub goes_on : {B : Type 0} → Shutting × B → Result (Shutting × B) (Shut B)
goes_on leaf = Ok leaf

same_end : {B : Type 0} (t s : Shut B) → ended s ≡ ended t → t ≡ s
same_end t s is = cc

same_leaf : {B : Type 0} (more leaf : Shutting × B) → goes_on leaf ≡ goes_on more → more ≡ leaf
same_leaf more leaf is = cc

pub more_of : {B : Type 0} (r : Result (Prepared B) ((Shutting × B) × PrepareFault)) (leaf : Shutting × B) → goes_on leaf ≡ end_of r → r ≡ more_step leaf
more_of (Ok (prepared.More more)) leaf is = ap (λ l. more_step l) (same_leaf more leaf is)
more_of (Ok (prepared.Ready copy)) leaf is = absurd cc
more_of (Err (half, fault.DiskFault)) leaf is = absurd cc
more_of (Err (half, fault.NoMemory)) leaf is = absurd cc
more_of (Err (half, fault.NoRoom)) leaf is = absurd cc

-- one table fewer is left behind a step
pub fewer_left : {B : Type 0} (meaning : B → Meaning) (leaf more : Shutting × B) (notes : List Note) → HasShut leaf.0 → Stepped meaning leaf.0 (meaning leaf.1) notes (more_step more)
    → length more.0.serving.seated.tables - treated more.0 < length leaf.0.serving.seated.tables - treated leaf.0
fewer_left meaning leaf more notes shut stepped =
    let same = ap (λ ts. length ts) (makes_tables (meaning leaf.1).clock (meaning more.1).clock leaf.0.serving.seated notes more.0.serving.seated stepped.made) in
    omega (arith, same, one_treated leaf.0 more.0 notes (treats leaf.0 more.0 notes shut stepped.one.1), stepped.one.0)

module _ {B : Type 0} (meaning : B → Meaning) (x : Shutting) (m : Meaning) (stop left left' : Option ℕ) (leaf : Shutting × B)
    (before : List Note) (so_far : SoFar x m stop leaf.0 (meaning leaf.1) left before) (shut : HasShut leaf.0) where
  -- no step is left
  pub shut_stopped : Spends left false left' → move.ShutsTables meaning x m stop before (how.Stopped leaf) left'
  shut_stopped spends = record {
    made = so_far.made;
    all = all_made stop left so_far.made 0 so_far.made so_far.left_are spends (omega arith);
    so_far = so_far.treated_so;
    shut = shut;
    carries = far_carries x leaf.0 before m (meaning leaf.1) so_far.far;
    region = so_far.far.region;
    reads = so_far.far.reads;
  }

  module _ (spends : Spends left true left') (notes : List Note) where
    left_now : AreLeft stop (suc so_far.made) left'
    left_now = spent stop left left' so_far.made so_far.left_are spends

    may_now : MayMake stop (suc so_far.made)
    may_now = may_make stop left' (suc so_far.made) left_now

    abbrev tables : ℕ
    tables = length x.serving.seated.tables

    same_tables : length leaf.0.serving.seated.tables ≡ tables
    same_tables = ap (λ ts. length ts) (makes_tables m.clock (meaning leaf.1).clock x.serving.seated before leaf.0.serving.seated so_far.far.made)

    far_then : (z : Shutting) (o : Meaning) → GoesFar leaf.0 z notes (meaning leaf.1) o → GoesFar x z (before ++ notes) m o
    far_then z o goes = far_on x leaf.0 before m (meaning leaf.1) so_far.far z notes o goes

    -- one table more
    pub shut_more : (more : Shutting × B) → Stepped meaning leaf.0 (meaning leaf.1) notes (more_step more) → SoFar x m stop more.0 (meaning more.1) left' (before ++ notes)
    shut_more more stepped = record {
      made = suc so_far.made;
      treated_so = record {
        steps = λ copy. steps_more tables copy so_far.made (life.Shutting (progress_of x)) before (life.Shutting (progress_of leaf.0)) notes (life.Shutting (progress_of more.0))
            (so_far.treated_so.steps copy) (omega (arith, stepped.one.0, same_tables), step);
        part = record { from = m.clock; to = (meaning more.1).clock; made = far.made };
      };
      left_are = left_now;
      few = omega (arith, length-append before notes, so_far.few, treats_few (progress_of leaf.0) (progress_of more.0) notes step, one_treated leaf.0 more.0 notes step);
      far = far;
    }
      where
        step : Treats (progress_of leaf.0) notes (progress_of more.0)
        step = treats leaf.0 more.0 notes shut stepped.one.1

        far : GoesFar x more.0 (before ++ notes) m (meaning more.1)
        far = far_then more.0 (meaning more.1) (record { made = stepped.made; goes = stepped.crash; region = stepped.region; reads = stepped.reads; passes = stepped.time })

    -- all are treated, and the copy is planned
    shut_ready : (copy : Copying × B) → (AllTreated leaf.0 → AreShut leaf.0.serving.seated) → Stepped meaning leaf.0 (meaning leaf.1) notes (ready_step copy) → move.ShutsTables meaning x m stop (before ++ notes) (how.Ready copy) left'
    shut_ready copy are_shut stepped = record {
      whole = leaf.0;
      made = so_far.made;
      so_far = subst (λ (ns : List Note). Treated x so_far.made ns leaf.0) (sym (append-nil before) ∙ ap (λ (ns : List Note). before ++ ns) (sym stepped.one.1)) so_far.treated_so;
      left_are = left_now;
      all = stepped.one.0;
      long = copy_long leaf.0 copy.0 stepped.one.2 (are_shut stepped.one.0);
      copy = stepped.one.2;
      carries = copy_carries;
      region = λ tells. stepped.region (tells_then tells) ∙ so_far.far.region tells;
      reads = stepped.reads ∙ so_far.far.reads;
    }
      where
        tells_then : IsTrue m.tells → IsTrue (meaning leaf.1).tells
        tells_then = far_tells x leaf.0 before m (meaning leaf.1) so_far.far

        copy_carries : CarriesCopy x copy.0 (before ++ notes) m (meaning copy.1)
        copy_carries = record {
          made = makes_join m.clock (meaning leaf.1).clock (meaning copy.1).clock x.serving.seated leaf.0.serving.seated copy.0.seated before notes so_far.far.made stepped.made;
          stands = λ base tells founded stands.
              let now : GoesOnServing x.serving leaf.0.serving m (meaning leaf.1) = so_far.far.goes tells founded stands.0 stands.1 in
              let on : GoesOnCopying leaf.0.serving.seated copy.0 (meaning leaf.1) (meaning copy.1) = stepped.crash (tells_then tells) (far_founded x leaf.0 before m (meaning leaf.1) so_far.far founded) now.later now.runs in (
                (on.writes, on.copies),
                told_join base (watched_by x.serving.seated) (watched_by leaf.0.serving.seated) (watched_by copy.0.seated) m (meaning leaf.1) (meaning copy.1) (now.told base) (on.told base),
              );
        }

    -- the step failed, and with it the drain
    module _ (half : Shutting × B) (f : PrepareFault) (stepped : Stepped meaning leaf.0 (meaning leaf.1) notes (failed_step half f)) where
      half_far : GoesFar x half.0 (before ++ notes) m (meaning half.1)
      half_far = far_then half.0 (meaning half.1) (record { made = stepped.made; goes = stepped.crash; region = stepped.region; reads = stepped.reads; passes = stepped.time })

      abbrev reached : Reaches (IsPreparing x) (IsPreparing half.0) (before ++ notes) 0 (life.Shutting (progress_of leaf.0))
      reached = record {
        made = so_far.made;
        treating = before;
        last = notes;
        notes_are = refl;
        comes = (progress_of x, refl, so_far.treated_so.steps 0);
        between = leaf.0.serving.seated;
        treats = so_far.treated_so.part;
        ends = record { from = (meaning leaf.1).clock; to = (meaning half.1).clock; made = stepped.made };
      }

      drained : (ends : Ending) → DrainMoves m (meaning half.1) (IsPreparing x) stop (before ++ notes) ends (IsPreparing half.0)
          → Drains m (meaning half.1) (IsPreparing x) stop (before ++ notes) ends (IsPreparing half.0)
      drained ends moves = record { moves = moves; carries = far_carries x half.0 (before ++ notes) m (meaning half.1) half_far; reads = half_far.reads }

    shut_halted : (half : Shutting × B) → Stepped meaning leaf.0 (meaning leaf.1) notes (failed_step half fault.DiskFault) → move.ShutsTables meaning x m stop (before ++ notes) (how.Halted half) left'
    shut_halted half stepped =
        drained half fault.DiskFault stepped ending.FaultDisk (
          progress_of leaf.0,
          progress_of half.0,
          reached half fault.DiskFault stepped,
          may_now,
          omega (arith, stepped.one.0, same_tables),
          halts leaf.0 half.0 notes stepped.one.1,
          refl,
          (half_far half fault.DiskFault stepped).region,
        )

    shut_starved : (half : Shutting × B) → Stepped meaning leaf.0 (meaning leaf.1) notes (failed_step half fault.NoMemory) → move.ShutsTables meaning x m stop (before ++ notes) (how.Starved half) left'
    shut_starved half stepped =
        drained half fault.NoMemory stepped ending.FaultMemory
        (progress_of leaf.0, progress_of half.0, reached half fault.NoMemory stepped, may_now, starves tables leaf.0 half.0 notes same_tables stepped.one, refl, (half_far half fault.NoMemory stepped).region)

    shut_roomless : (half : Shutting × B) → (AllTreated leaf.0 → AreShut leaf.0.serving.seated) → Stepped meaning leaf.0 (meaning leaf.1) notes (failed_step half fault.NoRoom) → move.ShutsTables meaning x m stop (before ++ notes) (how.Roomless half) left'
    shut_roomless half are_shut stepped =
        let one = stepped.one in
        let same : leaf.0 ≡ half.0 = sym one.3 in
        drained half fault.NoRoom stepped ending.FaultRoom (
          progress_of leaf.0,
          reached half fault.NoRoom stepped,
          may_now,
          one.0 ∙ same_tables,
          subst (λ (z : Shutting). AreShut z.serving.seated) same (are_shut one.0),
          subst (λ (z : Shutting). PreparingIsCrowded z.serving.seated) same stepped.crowds,
          one.2,
          ap (λ (z : Shutting). mode_of (IsPreparing z)) one.3,
          (half_far half fault.NoRoom stepped).region,
        )

    -- how the loop ends
    module _ (are_shut : AllTreated leaf.0 → AreShut leaf.0.serving.seated) (few : length (before ++ notes) ≤ 51) where
      abbrev Ends : Shut B → Type 0
      Ends s = move.ShutEnds meaning x m stop (before ++ notes) s left'

      ends_as : (s : Shut B) → move.ShutsTables meaning x m stop (before ++ notes) s left' → Passes (meaning leaf.1) (meaning (berth_left s)) → RoseShut m.disk_faults (meaning (berth_left s)).disk_faults s → Ends s
      ends_as s shuts time cause = record { shuts = shuts; few = few; time = passes_on m (meaning leaf.1) (meaning (berth_left s)) so_far.far.passes time; cause = cause }

      -- a fault that rose in this step rose in the loop
      rose : (now : ℕ) → Rose (meaning leaf.1).disk_faults now → Rose m.disk_faults now
      rose now is = let more = so_far.far.passes.disk_faults in omega (arith, more, is)

      pub shut_ends : (r : Result (Prepared B) ((Shutting × B) × PrepareFault)) (s : Shut B) → ended s ≡ end_of r → Stepped meaning leaf.0 (meaning leaf.1) notes r → Ends s
      shut_ends (Ok (prepared.More more)) s is stepped = absurd cc
      shut_ends (Ok (prepared.Ready copy)) s is stepped = subst Ends (same_end (how.Ready copy) s is) (ends_as (how.Ready copy) (shut_ready copy are_shut stepped) stepped.time tt)
      shut_ends (Err (half, fault.DiskFault)) s is stepped =
          subst Ends (same_end (how.Halted half) s is) (ends_as (how.Halted half) (shut_halted half stepped) stepped.time (rose (meaning half.1).disk_faults stepped.cause))
      shut_ends (Err (half, fault.NoMemory)) s is stepped = subst Ends (same_end (how.Starved half) s is) (ends_as (how.Starved half) (shut_starved half stepped) stepped.time tt)
      shut_ends (Err (half, fault.NoRoom)) s is stepped = subst Ends (same_end (how.Roomless half) s is) (ends_as (how.Roomless half) (shut_roomless half are_shut stepped) stepped.time tt)

-- ---- all are treated

-- so each is shut
pub all_shut : (x : Shutting) → AtEach (λ place t v. place < length x.closed → IsShutAndTaken (state_seen (base_seen t) v)) x.serving.seated → AllTreated x → AreShut x.serving.seated
all_shut x closed all place t v at was =
    let below = slice_get_within x.serving.seated.tables place t at in
    let few = treated_by x x.waits in
    (closed place t v at was (omega (arith, below, all, few))).shut

-- ---- a leaf that is killed

pub kills : (x : Shutting) (m m' : Meaning) (y : Seated) (notes : List Note)
    → ((count : ℕ) × (length x.closed + count ≡ length x.serving.seated.tables) × EachNoted IsClosedNote (length x.closed) count notes)
    → Makes m.clock m'.clock x.serving.seated notes y
    → ((writes : List ℕ → List Write) → AreFounded x.serving.seated → Runs (watched_by x.serving.seated) x.serving.owing.owner x.serving.owing.log writes m → RestsOn x.serving.seated y m m')
    → ShuttingIsKilled x y notes m m'
kills x m m' y notes each made rests = record {
  count = each.0;
  all = each.1;
  each = each.2;
  carries = rests_carried (IsPreparing x) y notes m m' made (λ base founded stands. rests stands.0 founded stands.1);
}
