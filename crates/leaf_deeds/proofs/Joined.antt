-- A drain, of its two parts.
use Rattle.std.proofs.Common.{◌≡◌, ℕ, zero, suc, ◌+◌, ◌<◌, ◌≤◌, List, [], ◌++◌, length, Option, refl, sym, ap, subst, ◌∙◌, arith}
use Rattle.std.specs.Prelude.{IsTrue}
use Rattle.std.proofs.lemmas.List.{append-nil}
use Rattle.berth_face.specs.Berth.{Meaning, Passes}
use Rattle.adopt.specs.Adopting.{HasNoStranger}
use Rattle.crash_moments.specs.Left.{NamedStates}
use Rattle.crash_moments.proofs.Telling.{told_join}
use Rattle.leaf_words.specs.declared.note.Note.{Note}
use Rattle.leaf_table.specs.Turns.{Shared}
use Rattle.leaf_steward.specs.Seated.{Seated, AreFounded, AreSeated, watched_by}
use Rattle.leaf_steward.specs.Making.{Makes, EachNoted, IsClosedNote, IsHandedNote}
use Rattle.leaf_steward.proofs.Keeping.{makes_join, makes_tables}
use Rattle.leaf_machine.specs.States.{Serving, Shutting, Copying}
use Rattle.leaf_machine.specs.Prepares.{begins}
use Rattle.leaf_machine.proofs.StartMakes.{makes_names}
use Rattle.printed_lines.specs.declared.line.Ending.{Ending}
use Rattle.printed_lines.specs.declared.line.Ending.TheVariants as ending
use Rattle.transcript.specs.Life.{MayMake, StageOfDrain, StepsOfDrain}
use Rattle.transcript.specs.Life as life
use Rattle.leaf_moves.specs.Stage.{Leaf, IsDown, IsUp, IsPreparing, LeafStands, Carries, seated_of}
use Rattle.leaf_moves.specs.Modes.{progress_of}
use Rattle.leaf_moves.specs.Steps.{DrainMoves, HasCopyLength, Reaches, RegionStopped, Stops}
use Rattle.leaf_moves.proofs.Drains.{by_endings}
use Rattle.leaf_deeds.specs.Held.{KeepsSeats}
use Rattle.leaf_deeds.specs.Steps.{copy_left}
use Rattle.leaf_deeds.specs.Moves as move
use Rattle.leaf_deeds.specs.Moves.{CopyEnds, CopyRests, CopyingStands, Drains, IsCopied, IsCopyReady, ShuttingIsKilled, IsStopped}
use Rattle.leaf_deeds.proofs.Carrying.{carries_on, founded_on, makes_keeps}
use Rattle.leaf_deeds.proofs.Counted.{all_made, copies_on, may_make_more, steps_more}
use Rattle.leaf_steward.proofs.Seating.{few_tables}
use Rattle.leaf_steward.proofs.Passing.{noted_length}
use Rattle.leaf_deeds.proofs.OwnImages.{copied_own}

-- ---- all tables are treated, and then they are copied

-- the region was as it had been when the copy began
stopped_since : (made : ℕ) (m n o : Meaning) → n.held.region ≡ m.held.region → RegionStopped (life.Copying made) n o → RegionStopped (life.Copying made) m o
stopped_since zero m n o same stopped = stopped ∙ same
stopped_since (suc made) m n o same stopped = stopped

-- how many notes there are where there are none
nothing : (notes : List Note) → notes ≡ [] → length notes ≤ 16
nothing notes none =
    let size : length notes ≡ 0 = ap (λ (ns : List Note). length ns) none in
    omega (arith, size)

module _ (x : Shutting) (m n o : Meaning) (stop left : Option ℕ) (before notes : List Note) (c : Copying) (z : Seated) (ends : Ending)
    (ready : IsCopyReady x m stop before c n left) (passes : Passes m n) (rests : CopyRests c z notes n o) where
  copy_tables : c.seated.tables ≡ x.serving.seated.tables
  copy_tables = makes_tables m.clock n.clock x.serving.seated before c.seated ready.carries.made

  same_count : length c.seated.tables ≡ length x.serving.seated.tables
  same_count = ap (λ (ts : List Shared). length ts) copy_tables

  -- the copy stands, of a leaf that stood
  copy_stands : (base : NamedStates) → IsTrue m.tells → AreFounded x.serving.seated → LeafStands base (IsPreparing x) m → IsTrue n.tells × AreFounded c.seated × CopyingStands c n
  copy_stands base tells founded stands = (passes.tells ∙ tells, founded_on x.serving.seated c.seated copy_tables founded, (ready.carries.stands base tells founded stands).0)

  copy_carries : Carries (IsPreparing x) (IsDown z) (before ++ notes) m o
  copy_carries = record {
    made = makes_join m.clock n.clock o.clock x.serving.seated c.seated z before notes ready.carries.made rests.made;
    stands = λ base tells founded sound stands.
        let copies = ready.carries.stands base tells founded stands in
        let down = rests.stands base (passes.tells ∙ tells) (founded_on x.serving.seated c.seated copy_tables founded) sound copies.0 in
        record { stands = down.0; told = told_join base (watched_by x.serving.seated) (watched_by c.seated) (watched_by z) m n o copies.1 down.1 };
  }

  -- the plan is a step more
  planned : (copy : ℕ) → StepsOfDrain (length x.serving.seated.tables) copy (suc ready.made) (life.Shutting (progress_of x)) before (life.Copying 0)
  planned copy =
      let all = ready.all ∙ (ap (λ (y : Seated). length y.tables) (sym ready.copy.seated) ∙ same_count) in
      subst (λ (ns : List Note). StepsOfDrain (length x.serving.seated.tables) copy (suc ready.made) (life.Shutting (progress_of x)) ns (life.Copying 0)) (append-nil before)
      (steps_more (length x.serving.seated.tables) copy ready.made (life.Shutting (progress_of x)) before (life.Shutting (progress_of ready.whole)) [] (life.Copying 0)
      (ready.so_far.steps copy) (all, refl, refl))

  -- so many steps of a copy
  abbrev copied_to : (copy made : ℕ) → made < copy → Reaches (IsPreparing x) (IsDown z) (before ++ notes) copy (life.Copying made)
  copied_to copy made below = record {
    made = suc ready.made + made;
    treating = before;
    last = notes;
    notes_are = refl;
    comes = (progress_of x, refl, copies_on (length x.serving.seated.tables) copy (suc ready.made) made (life.Shutting (progress_of x)) before below (planned copy));
    between = ready.whole.serving.seated;
    treats = ready.so_far.part;
    ends = record { from = n.clock; to = o.clock; made = subst (λ (s : Seated). Makes n.clock o.clock s notes z) ready.copy.seated rests.made };
  }

  may_copy : (made : ℕ) → MayMake left (suc made) → MayMake stop (suc (suc ready.made + made))
  may_copy made may = may_make_more stop left (suc ready.made) (suc made) (suc (suc ready.made + made)) ready.left_are may (omega arith)

  -- a copy that ended is an image of the leaf's tables, or closed
  copy_own : IsCopied c o → HasNoStranger x.serving.seated.names o.held.region
  copy_own copied =
      subst (λ (names : List (List ℕ)). HasNoStranger names o.held.region)
      (makes_names ready.so_far.part.from ready.so_far.part.to x.serving.seated before ready.whole.serving.seated ready.so_far.part.made)
      (copied_own ready.whole.serving.seated.names ready.copy.tables c.drain.image o.held.region ready.whole.serving.owing.log.end ready.copy.are.names_are ready.copy.image copied)

  -- the copy's seats, where it noted nothing
  long_as : z ≡ c.seated → HasCopyLength z (copy_left c)
  long_as same = subst (λ (s : Seated). HasCopyLength s (copy_left c)) (sym (same ∙ ready.copy.seated)) ready.long

  some_left : 0 < copy_left c
  some_left = let long = ready.long.0 in omega (arith, long)

  copy_moves : CopyEnds c left n o notes ends z → DrainMoves m o (IsPreparing x) stop (before ++ notes) ends (IsDown z)
  copy_moves (move.done made last may noted memory copied ended) =
      subst (λ (e : Ending). DrainMoves m o (IsPreparing x) stop (before ++ notes) e (IsDown z)) (sym ended) (
        made,
        copied_to (suc made) made (omega arith),
        may_copy made may,
        subst (λ (k : ℕ). HasCopyLength ready.whole.serving.seated k) (sym last) ready.long,
        subst (λ (k : ℕ). EachNoted IsHandedNote 0 k notes) same_count noted,
        refl,
        λ base tells founded stands. let copies = copy_stands base tells founded stands in memory copies.0 copies.1 copies.2,
        λ base tells founded stands. let copies = copy_stands base tells founded stands in copy_own (copied copies.0 copies.1 copies.2),
      )
  copy_moves (move.failed made below may none same copied ended) =
      subst (λ (e : Ending). DrainMoves m o (IsPreparing x) stop (before ++ notes) e (IsDown z)) (sym ended) (
        copy_left c,
        made,
        copied_to (copy_left c) made (below some_left),
        may_copy made may,
        long_as same,
        none,
        refl,
        λ base tells founded stands. let copies = copy_stands base tells founded stands in copy_own (copied copies.0 copies.1 copies.2),
      )
  copy_moves (move.stopped made below all none same stopped ended) =
      subst (λ (e : Ending). DrainMoves m o (IsPreparing x) stop (before ++ notes) e (IsDown z)) (sym ended) (
        copy_left c,
        life.Copying made,
        copied_to (copy_left c) made (below some_left),
        all_made stop left (suc ready.made) made (suc ready.made + made) ready.left_are all refl,
        (
          long_as same,
          none,
          λ base tells founded stood.
              let copies = copy_stands base tells founded stood in
              stopped_since made m n o (ready.region tells) (stopped copies.0 copies.1 copies.2),
        ),
        refl,
      )

  -- all tables were copied, or the region failed, or no step was left for the copy
  pub drain_copied : CopyEnds c left n o notes ends z → Drains m o (IsPreparing x) stop (before ++ notes) ends (IsDown z)
  drain_copied copied = record { moves = copy_moves copied; carries = copy_carries; reads = rests.reads ∙ ready.reads }

  -- each table is handed over, or nothing is noted
  pub copy_few : AreSeated x.serving.seated → CopyEnds c left n o notes ends z → length notes ≤ 16
  copy_few seated (move.CopyEnds.done made last may noted memory copied ended) =
      omega (arith, noted_length IsHandedNote 0 (length c.seated.tables) notes noted, same_count, few_tables seated)
  copy_few seated (move.CopyEnds.failed made below may none stays copied ended) = nothing notes none
  copy_few seated (move.CopyEnds.stopped made below all none stays stopped ended) = nothing notes none

-- ---- no step was left for a table or the copy, and the leaf was killed

module _ (x : Shutting) (m m' : Meaning) (stop : Option ℕ) (before closing : List Note) (y : Shutting) (z : Seated) (stopped : IsStopped x m stop before y m') where
  same_tables : length y.serving.seated.tables ≡ length x.serving.seated.tables
  same_tables = ap (λ (ts : List Shared). length ts) (makes_tables m.clock m'.clock x.serving.seated before y.serving.seated stopped.carries.made)

  pub drain_stopped : ShuttingIsKilled y z closing m' m' → Drains m m' (IsPreparing x) stop (before ++ closing) ending.Stopped (IsDown z)
  drain_stopped killed = record {
    moves = (
      0,
      life.Shutting (progress_of y),
      record {
        made = stopped.made;
        treating = before;
        last = closing;
        notes_are = refl;
        comes = (progress_of x, refl, stopped.so_far.steps 0);
        between = y.serving.seated;
        treats = stopped.so_far.part;
        ends = record { from = m'.clock; to = m'.clock; made = killed.carries.made };
      },
      stopped.all,
      (
        killed.count,
        refl,
        ap (λ (k : ℕ). k + killed.count) (sym stopped.shut) ∙ (killed.all ∙ same_tables),
        subst (λ (k : ℕ). EachNoted IsClosedNote k killed.count closing) stopped.shut killed.each,
        stopped.region,
        λ base tells founded sound stood. (y.serving, refl, refl, (stopped.carries.stands base tells founded sound stood).stands),
      ),
      refl,
    );
    carries = carries_on (IsPreparing x) (IsPreparing y) (IsDown z) before closing m m' m' stopped.carries killed.carries;
    reads = stopped.reads;
  }

  -- each table that was open is closed
  pub kill_few : (n o : Meaning) → AreSeated x.serving.seated → ShuttingIsKilled y z closing n o → length closing ≤ 16
  kill_few n o seated killed = omega (arith, noted_length IsClosedNote (length y.closed) killed.count closing killed.each, killed.all, same_tables, few_tables seated)

-- ---- a leaf that is up begins to shut its tables

module _ (s : Serving) (m m' : Meaning) (stop : Option ℕ) (notes : List Note) (leaf' : Leaf) where
  abbrev reaches_up : (copy : ℕ) (t : StageOfDrain) → Reaches (IsPreparing (begins s)) leaf' notes copy t → Reaches (IsUp s) leaf' notes copy t
  reaches_up copy t r = record {
    made = r.made;
    treating = r.treating;
    last = r.last;
    notes_are = r.notes_are;
    comes = (r.comes.0, r.comes.1, r.comes.2);
    between = r.between;
    treats = r.treats;
    ends = r.ends;
  }

  stops_up : (copy : ℕ) (t : StageOfDrain) (r : Reaches (IsPreparing (begins s)) leaf' notes copy t) → Stops m m' (IsPreparing (begins s)) leaf' notes copy t r
      → Stops m m' (IsUp s) leaf' notes copy t (reaches_up copy t r)
  stops_up copy (life.Shutting p) r h = h
  stops_up copy (life.Copying made) r h = h

  moves_up : (ends : Ending) → DrainMoves m m' (IsPreparing (begins s)) stop notes ends leaf' → DrainMoves m m' (IsUp s) stop notes ends leaf'
  moves_up ends moves =
      by_endings (λ (e : Ending). DrainMoves m m' (IsPreparing (begins s)) stop notes e leaf' → DrainMoves m m' (IsUp s) stop notes e leaf')
      (λ h. (h.0, reaches_up (suc h.0) (life.Copying h.0) h.1, h.2, h.3, h.4, h.5, h.6, h.7))
      (λ h. (h.0, h.1, reaches_up h.0 (life.Copying h.1) h.2, h.3, h.4, h.5, h.6, h.7))
      (λ h. (h.0, reaches_up 0 (life.Shutting h.0) h.1, h.2, h.3, h.4, h.5, h.6, h.7, h.8))
      (λ h. (h.0, h.1, reaches_up 0 (life.Shutting h.0) h.2, h.3, h.4, h.5, h.6))
      (λ h. (h.0, h.1, reaches_up 0 (life.Shutting h.0) h.2, h.3, h.4, h.5, h.6, h.7))
      (λ h. (h.0, h.1, reaches_up h.0 h.1 h.2, h.3, stops_up h.0 h.1 h.2 h.4, h.5))
      (λ h. absurd h.0) m m' (IsPreparing (begins s)) stop notes ends leaf' moves moves

  pub up_drained : (ends : Ending) → Drains m m' (IsPreparing (begins s)) stop notes ends leaf' → Drains m m' (IsUp s) stop notes ends leaf'
  up_drained ends drains = record {
    moves = moves_up ends drains.moves;
    carries = record {
      made = drains.carries.made;
      stands = λ base tells founded sound stands.
          let on = drains.carries.stands base tells founded sound stands in
          record { stands = on.stands; told = on.told };
    };
    reads = drains.reads;
  }

-- the steward's seats stay at their tables
pub drain_keeps : (m m' : Meaning) (leaf : Leaf) (stop : Option ℕ) (notes : List Note) (ends : Ending) (leaf' : Leaf)
    → Drains m m' leaf stop notes ends leaf' → KeepsSeats (seated_of leaf) (seated_of leaf')
drain_keeps m m' leaf stop notes ends leaf' drains = makes_keeps m.clock m'.clock (seated_of leaf) notes (seated_of leaf') drains.carries.made
