-- The life behind a deed, by what it does to a leaf: starts, flushes and kills.
use Rattle.std.proofs.Common.{◌≡◌, ℕ, ◌+◌, ◌<◌, Bool, true, false, ◌&&◌, List, [], ◌∷◌, length, map, refl, sym, ap, subst, ◌∙◌, arith, Option, Some, None, inl, inr}
use Rattle.std.specs.Prelude.{◌≢◌, IfSome, IsSome, IsTrue, is_some, option_map}
use Rattle.row_records.specs.Records.{LogRecord}
use Rattle.berth_face.specs.Berth.{Meaning}
use Rattle.adopt.specs.Adopting.{IsLeftBehind}
use Rattle.region_layout.specs.Names.{IsName}
use Rattle.leaf_words.specs.declared.ways.Way.{Way}
use Rattle.leaf_words.specs.declared.ways.Way.TheVariants.{Memory}
use Rattle.leaf_opening.specs.Starts.{IsWayLeft, IsWayOf, way_after}
use Rattle.printed_lines.specs.declared.line.Ending.{Ending}
use Rattle.printed_lines.specs.declared.line.Ending.TheVariants as ending
use Rattle.crash_moments.specs.Left.{NamedStates}
use Rattle.leaf_words.specs.declared.note.Note.{Note}
use Rattle.leaf_words.specs.declared.note.What.TheVariants as what
use Rattle.leaf_steward.specs.Seated.{Seated, AreFounded}
use Rattle.leaf_steward.specs.Making.{EachNoted, IsClosedNote}
use Rattle.leaf_machine.specs.declared.faults.StartFault.{StartFault}
use Rattle.leaf_machine.specs.declared.faults.StartFault.TheVariants as fault
use Rattle.leaf_machine.specs.declared.up.FlushReply.{FlushReply}
use Rattle.leaf_machine.specs.States.{Serving}
use Rattle.leaf_machine.specs.Starts.{IsExactRefusal, IsOpenedNote}
use Rattle.leaf_machine.specs.Flushes.{OwedNotes}
use Rattle.leaf_machine.specs.Flushes as flushing
use Rattle.printed_lines.specs.declared.line.Deed.{Deed}
use Rattle.printed_lines.specs.declared.line.Deed.TheVariants.{Start, Flush, Drain, Kill}
use Rattle.transcript.specs.Life.{Columns, Life, LifeMode, Down, Up, BeginsAt, Does, MayCome, NotesFrom, Owed, Progress, IsStartRefusal, claimed, durable_with, failed, first_open, on, way_refused}
use Rattle.transcript.specs.Transcript.{Known}
use Rattle.leaf_moves.specs.Stage.{Leaf, IsDown, IsUp, Carries, LeafStands, seated_of}
use Rattle.leaf_moves.specs.Steps.{FlushMoves, IsTrueOf, KillMoves, Moves, RefusalTold, RegionRefused, StartMoves, StartsTold, ending_of}
use Rattle.leaf_moves.specs.Steps as steps
use Rattle.leaf_moves.specs.Modes.{mode_of, owed_of, progress_of}
use Rattle.leaf_moves.proofs.Modes.{owed_none, owed_some}
use Rattle.leaf_moves.proofs.NoteLines.{closed_noted, opened_noted, tells, tells_owed}
use Rattle.transcript_leaf.specs.Session.{IsDurable}
use Rattle.transcript_leaf.specs.Acting.{FitsWay, Lived, loses_counts}
use Rattle.transcript_leaf.specs.Acting as acting
use Rattle.transcript_leaf.proofs.Lists.{clash_bool, within}
use Rattle.transcript_leaf.proofs.Owned.{never_stranger}
use Rattle.transcript_leaf.proofs.Ways.{after_start, comes_known, found_way, left_as, may_come, not_memory, same_way, way_left}
use Rattle.transcript_leaf.proofs.Modes.{Stood, down_leaf, refused_life, resting_mode, same_held, some_weaken, stood_as, told_refused, up_leaf, way_stays, where_known}
use Rattle.transcript_leaf.proofs.CountingNotes.{all_closed, are_founded, as_many, durable_still}
use Rattle.transcript_leaf.proofs.DurableStart.{opened_counts, opened_durable}
use Rattle.transcript_leaf.proofs.Handing.{hands_nothing}
use Rattle.transcript_leaf.proofs.Drains.{drain_lives, left_lives}

-- ---- a start that opens

-- the counts that it opens with: those that are claimed, where any are
record Opening (durable : Option (List ℕ)) (tables : ℕ) (notes : List Note) : Type 0 where
  counts : List ℕ
  claimed_are : IfSome durable (λ (cs : List ℕ). counts ≡ cs)
  size : length counts ≡ tables
  told : NotesFrom 0 (map what.Opened counts) notes

opening : (durable : Option (List ℕ)) (tables : ℕ) (notes : List Note) → IfSome durable (λ (cs : List ℕ). (length cs ≡ tables) × NotesFrom 0 (map what.Opened cs) notes)
    → EachNoted IsOpenedNote 0 tables notes → Opening durable tables notes
opening None tables notes is each =
    let c = opened_noted 0 tables notes each in
    record { counts = c.0; claimed_are = tt; size = c.1; told = c.2 }
opening (Some cs) tables notes is each = record { counts = cs; claimed_are = refl; size = is.0; told = is.1 }

way_claimed : (claim : Option Way) (region : List ℕ) (way : Way) → IsWayOf region way → IfSome claim (IsWayOf region) → IfSome claim (λ (v : Way). way ≡ v)
way_claimed None region way is h = tt
way_claimed (Some v) region way is h = same_way region way v is h

module _ (names : List (List ℕ)) (life : Life) (m m' : Meaning) (x : Seated) (s : Serving) (notes : List Note) (way : Way) where
  abbrev Told : Option Known → Type 0
  Told known = IfSome known (λ (k : Known). StartsTold x m m' s notes way)

  -- what its counts are claimed to be
  counts_claimed : (known : Option Known) → Stood names known life (IsDown x) m → Told known
      → IfSome life.durable (λ (cs : List ℕ). (length cs ≡ length x.tables) × NotesFrom 0 (map what.Opened cs) notes)
  counts_claimed None given told = subst (λ (d : Option (List ℕ)). IfSome d (λ (cs : List ℕ). (length cs ≡ length x.tables) × NotesFrom 0 (map what.Opened cs) notes)) (sym given.next.1) tt
  counts_claimed (Some k) given told =
      some_weaken life.durable (λ (cs : List ℕ). IsDurable k.base cs (IsDown x) m) (λ (cs : List ℕ). (length cs ≡ length x.tables) × NotesFrom 0 (map what.Opened cs) notes)
      (λ cs durable. opened_counts names k cs m m' x s notes way given.in_place given.known_base given.stands durable told) given.next.1

  way_opens : (known : Option Known) → Stood names known life (IsDown x) m → Told known → IfSome life.way (λ (v : Way). way ≡ v)
  way_opens None given told = subst (λ (w : Option Way). IfSome w (λ (v : Way). way ≡ v)) (sym given.next.0) tt
  way_opens (Some k) given told = way_claimed life.way m.held.region way told.way_is (found_way life.begun m.held.region life.way given.next.0)

  abbrev opened_life : Bool → List ℕ → Life
  opened_life told counts = record { mode = Up None; way = claimed told (way_after way); durable = claimed told counts; begun = true }

  -- the way of the next start
  way_opened : (known : Option Known) (counts : List ℕ) → Told known → FitsWay known (opened_life (is_some known) counts) m'
  way_opened None counts told = refl
  way_opened (Some k) counts told = left_as true m'.held.region (way_after way) (way_left m.held.region m'.held.region way told.came.started.region told.way_is) (after_start way)

  -- what was found is what a leaf may find
  way_may : (known : Option Known) → Stood names known life (IsDown x) m → Told known → MayCome (is_some known) way
  way_may None given told = may_come way
  way_may (Some k) given told = comes_known k.base x m way given.stands.stands told.way_is

  -- what it counts is flushed
  counts_durable : (known : Option Known) (counts : List ℕ) → Stood names known life (IsDown x) m → Carries (IsDown x) (IsUp s) notes m m' → s.owing.log.owed ≡ None → Told known
      → NotesFrom 0 (map what.Opened counts) notes → length counts ≡ length x.tables → IfSome known (λ (k : Known). IsDurable k.base counts (IsUp s) m')
  counts_durable None counts given carries none told noted size = tt
  counts_durable (Some k) counts given carries none told noted size =
      opened_durable names k counts m m' x s notes way given.in_place given.known_base given.stewards given.stands carries none told noted size

  start_opened : (known : Option Known) → Stood names known life (IsDown x) m → Carries (IsDown x) (IsUp s) notes m m' → s.owing.log.owed ≡ None
      → EachNoted IsOpenedNote 0 (length x.tables) notes → Told known → Lived known (length names) Start life notes (ending.Started way) (IsUp s) m'
  start_opened known given carries none each told =
      let o = opening life.durable (length x.tables) notes (counts_claimed known given told) each in record {
        next = opened_life (is_some known) o.counts;
        hands = hands_nothing (IsUp s);
        does = λ columns few more. (o.counts, given.mode, way_may known given told, way_opens known given told, o.claimed_are, o.size ∙ as_many names x.tables given.in_place.named, o.told, refl);
        counts = acting.opened o.counts refl (counts_durable known o.counts given carries none told o.told o.size);
        mode = sym (ap (λ (o : Option Owed). Up o) (owed_none s.owing none));
        way = way_opened known o.counts told;
      }

-- ---- a start that is refused

refusal : (told : Bool) (tables : ℕ) (life : Life) (f : StartFault) → (f ≡ fault.DiskFault → life.way ≢ Some Memory) → (told ≡ true → f ≢ fault.DiskDamaged) → (told ≡ true → life.begun ≡ true → (name : List ℕ) → f ≢ fault.Stranger name)
    → ((table : ℕ) → f ≡ fault.Worn table → table < tables) → ((name : List ℕ) → f ≡ fault.Stranger name → IsName name) → IsStartRefusal told tables life (ending_of f)
refusal told tables life fault.RegionFault goes not own among named = tt
refusal told tables life fault.DiskFault goes not own among named = goes refl
refusal told tables life fault.DiskDamaged goes not own among named = by told not
  where
    by : (b : Bool) → (b ≡ true → fault.DiskDamaged ≢ fault.DiskDamaged) → b ≡ false
    by true h = absurd (h refl refl)
    by false h = refl
refusal told tables life (fault.Stranger name) goes not own among named = (by told life.begun own, named name refl)
  where
    by : (a b : Bool) → (a ≡ true → b ≡ true → (n : List ℕ) → fault.Stranger name ≢ fault.Stranger n) → (a && b) ≡ false
    by true true h = absurd (h refl refl name refl)
    by a b h = refl
refusal told tables life fault.NoMemory goes not own among named = tt
refusal told tables life (fault.Worn table) goes not own among named = among table refl

-- a seat that is worn is one of the leaf's
worn_among : (x : Seated) (f : StartFault) → IsTrueOf x f → (table : ℕ) → f ≡ fault.Worn table → table < length x.seats
worn_among x (fault.Worn t) worn table e =
    let same : t ≡ table = cc in
    subst (λ (n : ℕ). n < length x.seats) same (within x.seats t worn.0 worn.1)
worn_among x f worn table e = cc

-- a stranger's name is one
name_told : (x : Seated) (f : StartFault) → IsTrueOf x f → (name : List ℕ) → f ≡ fault.Stranger name → IsName name
name_told x (fault.Stranger other) is name e = let same : other ≡ name = cc in subst IsName same is
name_told x f is name e = absurd cc

left_way : (begun : Bool) (way : Option Way) (m m' : Meaning) → IsLeftBehind m.held.region m'.held.region → IfSome way (IsWayLeft begun m.held.region)
    → IfSome (option_map way_after way) (IsWayLeft begun m'.held.region)
left_way begun None m m' e h = tt
left_way begun (Some w) m m' e h = left_as begun m'.held.region (way_after w) (way_left m.held.region m'.held.region w e h.0) (after_start w)

refused_way : (f : StartFault) (begun : Bool) (way : Option Way) (m m' : Meaning) → RegionRefused f m m' → IfSome way (IsWayLeft begun m.held.region)
    → IfSome (way_refused (ending_of f) way) (IsWayLeft begun m'.held.region)
refused_way fault.RegionFault begun way m m' e h = tt
refused_way (fault.Worn table) begun way m m' e h = subst (λ (region : List ℕ). IfSome way (IsWayLeft begun region)) (sym e) h
refused_way f begun way m m' e h = left_way begun way m m' e h

-- where nothing is claimed of it, nothing is
refused_unknown : (f : StartFault) → way_refused (ending_of f) None ≡ None
refused_unknown fault.RegionFault = refl
refused_unknown f = refl

module _ (names : List (List ℕ)) (life : Life) (m m' : Meaning) (x : Seated) (f : StartFault) where
  abbrev Heard : Option Known → Type 0
  Heard known = IfSome known (λ (k : Known). RefusalTold x m m' f)

  undamaged : (known : Option Known) → Stood names known life (IsDown x) m → ((base : NamedStates) → IsTrue m.tells → AreFounded x → LeafStands base (IsDown x) m → f ≢ fault.DiskDamaged)
      → is_some known ≡ true → f ≢ fault.DiskDamaged
  undamaged None given sound e = absurd (clash_bool false e refl)
  undamaged (Some k) given sound e = sound k.base given.stands.tells (are_founded names x given.in_place k.base given.known_base) given.stands.stands

  -- the disk is told to fail only where no image was claimed
  logged : (known : Option Known) → Stood names known life (IsDown x) m → Heard known → f ≡ fault.DiskFault → life.way ≢ Some Memory
  logged None given told is e = clash life.way given.next.0 e
    where
      clash : (w : Option Way) → w ≡ None → w ≡ Some Memory → ⊥
      clash w none some = cc
  logged (Some k) given told is e =
      not_memory x.names m.held.region life.way (subst (λ (g : StartFault). IsExactRefusal x.names m.held g) is told.exact) (found_way life.begun m.held.region life.way given.next.0) e

  -- no stranger of a leaf that was up
  strangers_none : (known : Option Known) → Stood names known life (IsDown x) m → Heard known → is_some known ≡ true → life.begun ≡ true → (name : List ℕ) → f ≢ fault.Stranger name
  strangers_none None given told e up name = absurd (clash_bool false e refl)
  strangers_none (Some k) given told e up name = never_stranger names k.base x m m' f name given.in_place given.stands.stands (given.own up) told

  way_refuses : (known : Option Known) → Stood names known life (IsDown x) m → Heard known → FitsWay known (refused_life life f) m'
  way_refuses None given told = ap (λ (w : Option Way). way_refused (ending_of f) w) given.next.0 ∙ refused_unknown f
  way_refuses (Some k) given told = refused_way f life.begun life.way m m' told.region given.next.0

  start_refused : (known : Option Known) → Stood names known life (IsDown x) m → IsTrueOf x f
      → ((base : NamedStates) → IsTrue m.tells → AreFounded x → LeafStands base (IsDown x) m → f ≢ fault.DiskDamaged) → Heard known
      → Lived known (length names) Start life [] (ending_of f) (IsDown x) m'
  start_refused known given worn sound told = record {
    next = refused_life life f;
    hands = hands_nothing (IsDown x);
    does = λ columns few more. told_refused (is_some known) (length names) life f given.mode
        (refusal (is_some known) (length names) life f (logged known given told) (undamaged known given sound) (strangers_none known given told)
        (λ table e. subst (λ (n : ℕ). table < n) given.in_place.seats (worn_among x f worn table e)) (name_told x f worn));
    counts = acting.keeps refl refl;
    mode = refl;
    way = way_refuses known given told;
  }

-- ---- any deed

module _ (names : List (List ℕ)) (known : Option Known) (life : Life) (m m' : Meaning) (leaf : Leaf) (given : Stood names known life leaf m) where
  start_lives : (notes : List Note) (ends : Ending) (leaf' : Leaf) → Carries leaf leaf' notes m m' → StartMoves m m' leaf notes ends leaf' → Lived known (length names) Start life notes ends leaf' m'
  start_lives notes ends leaf' carries (steps.opened x s way is none each told ends_are now) =
      rw (ends_are, now) (start_opened names life m m' x s notes way known (stood_as names known life leaf (IsDown x) m is given)
      (subst (λ (l : Leaf). Carries (IsDown x) l notes m m') now (subst (λ (l : Leaf). Carries l leaf' notes m m') is carries)) none each
      (where_known known leaf m (StartsTold x m m' s notes way) given.stands told))
  start_lives notes ends leaf' carries (steps.refused x f is worn sound told none ends_are same) =
      rw (none, ends_are, same, is) (start_refused names life m m' x f known (stood_as names known life leaf (IsDown x) m is given) worn
      (subst (λ (l : Leaf). (base : NamedStates) → IsTrue m.tells → AreFounded x → LeafStands base l m → f ≢ fault.DiskDamaged) is sound) (where_known known leaf m (RefusalTold x m m' f) given.stands told))
  start_lives notes ends leaf' carries (steps.not_down not none same ends_are now) =
      rw (none, ends_are, now) (left_lives names known life m m' leaf given Start ending.NotDown same refl (λ columns. (λ down. not (down_leaf leaf (sym given.mode ∙ down)), refl, refl)))

  -- ---- flushes

  -- the notes of one that takes its table
  abbrev taken : ℕ → ℕ → ℕ → List Note
  taken table number n = record { table = table; number = number; what = what.Took n } ∷ []

  abbrev taken_and_flushed : ℕ → ℕ → ℕ → ℕ → List Note
  taken_and_flushed table number later n = record { table = table; number = number; what = what.Took n } ∷ record { table = table; number = later; what = what.Flushed n } ∷ []

  module _ (table : ℕ) (s s' : Serving) (notes : List Note) (up : life.mode ≡ Up (owed_of s.owing)) (same : IfSome known (λ (k : Known). m'.held.region ≡ m.held.region)) where
    abbrev Flushed : Ending → Type 0
    Flushed ends = Lived known (length names) (Flush table) life notes ends (IsUp s') m'

    -- nothing is owed then
    flush_ends : (ends : Ending) → s'.owing.log.owed ≡ None → loses_counts (Flush table) ends ≡ false
        → ((columns : Columns) → Does (is_some known) (length names) columns (Flush table) life notes ends (on life (Up None) life.way notes)) → Flushed ends
    flush_ends ends none calm does = record {
      next = on life (Up None) life.way notes;
      hands = hands_nothing (IsUp s');
      does = λ columns few more. does columns;
      counts = acting.keeps calm refl;
      mode = sym (ap (λ (o : Option Owed). Up o) (owed_none s'.owing none));
      way = way_stays known life (on life (Up None) life.way notes) leaf m m' refl given.next same;
    }

    -- the disk fails, and this is owed
    flush_fails : (owed : Owed) → owed_of s'.owing ≡ Some owed
        → ((columns : Columns) → Does (is_some known) (length names) columns (Flush table) life notes ending.FaultDisk (failed life (Up (Some owed)))) → Flushed ending.FaultDisk
    flush_fails owed is does = record {
      next = failed life (Up (Some owed));
      hands = hands_nothing (IsUp s');
      does = λ columns few more. does columns;
      counts = acting.lost refl;
      mode = sym (ap (λ (o : Option Owed). Up o) is);
      way = way_stays known life (failed life (Up (Some owed))) leaf m m' refl given.next same;
    }

    flushed : (r : FlushReply) → flushing.Flushes table s s' notes r → Flushed (steps.ending_of_flush r)
    flushed r (flushing.done first taking flushing n noted fresh notes_are reply_is none) = rw reply_is (flush_ends ending.Done none refl (λ columns.
        (owed_of s.owing, n, up, tells s.owing notes first (taken_and_flushed table taking flushing n) table (what.Took n ∷ what.Flushed n ∷ []) noted notes_are refl, refl)))
    flushed r (flushing.half first taking n noted fresh notes_are reply_is some owner_is count_is) =
        rw reply_is (flush_fails (record { table = table; count = n }) (owed_some s'.owing table n some owner_is count_is) (λ columns.
        inl (owed_of s.owing, n, up, tells s.owing notes first (taken table taking n) table (what.Took n ∷ []) noted notes_are refl, refl)))
    flushed r (flushing.worn first noted notes_are reply_is worn none) = rw reply_is (flush_ends ending.Worn none refl (λ columns.
        (owed_of s.owing, up, tells_owed s.owing notes table (subst (λ (ns : List Note). OwedNotes s.owing.log.owed s.owing ns) (sym notes_are) noted), refl)))
    flushed r (flushing.stuck notes_are reply_is some seated owed_is owner_is count_is) =
        let told : Owed = record { table = s.owing.owner; count = s.owing.count } in
        rw reply_is (flush_fails told (owed_some s'.owing s.owing.owner s.owing.count (subst (λ (r : Option LogRecord). IsSome r) (sym owed_is) some) owner_is count_is) (λ columns.
        inr (told, up ∙ ap (λ (o : Option Owed). Up o) (owed_some s.owing s.owing.owner s.owing.count some refl refl), notes_are, refl)))

  flush_lives : (table : ℕ) (notes : List Note) (ends : Ending) (leaf' : Leaf) → FlushMoves table m m' leaf notes ends leaf' → Lived known (length names) (Flush table) life notes ends leaf' m'
  flush_lives table notes ends leaf' (steps.flushed s s' r is flushes region ends_are now) =
      rw (ends_are, now) (flushed table s s' notes (given.mode ∙ ap mode_of is) (where_known known leaf m (m'.held.region ≡ m.held.region) given.stands region) r flushes)
  flush_lives table notes ends leaf' (steps.not_up not none same ends_are now) =
      rw (none, ends_are, now) (left_lives names known life m m' leaf given (Flush table) ending.NotUp same refl (λ columns. (λ owed up. not (up_leaf leaf owed (sym given.mode ∙ up)), refl, refl)))

  -- ---- kills

  -- closing a table changes none of the counts
  counts_closed : (counts : Option (List ℕ)) (place count : ℕ) (notes : List Note) → EachNoted IsClosedNote place count notes → durable_with counts [] ≡ durable_with counts notes
  counts_closed None place count notes h = refl
  counts_closed (Some cs) place count notes h = ap (λ (ds : List ℕ). Some ds) (sym (durable_still cs notes (all_closed place count notes h)))

  -- each table that is open is closed
  killed : (p : Progress) (count : ℕ) (notes : List Note) (y : Seated) → BeginsAt life.mode p → first_open p + count ≡ length names → EachNoted IsClosedNote (first_open p) count notes
      → m'.held ≡ m.held → Lived known (length names) Kill life notes ending.Done (IsDown y) m'
  killed p count notes y begins size each same =
      let c = closed_noted (first_open p) count notes each in record {
        next = on life Down life.way [];
        hands = hands_nothing (IsDown y);
        does = λ columns few more. (p, begins, (c.0, ap (λ (n : ℕ). first_open p + n) c.1 ∙ size, c.2), refl);
        counts = acting.keeps refl (counts_closed life.durable (first_open p) count notes each);
        mode = refl;
        way = way_stays known life (on life Down life.way []) leaf m m' refl given.next (same_held known leaf m m' given.stands same);
      }

  kill_lives : (notes : List Note) (ends : Ending) (leaf' : Leaf) → KillMoves m m' leaf notes ends leaf' → Lived known (length names) Kill life notes ends leaf' m'
  kill_lives notes ends leaf' (steps.up s y is each same ends_are now) =
      let size : length s.seated.tables ≡ length names = ap (λ (l : Leaf). length (seated_of l).tables) (sym is) ∙ as_many names (seated_of leaf).tables given.in_place.named in
      rw (ends_are, now) (killed (record { owed = owed_of s.owing; treated = 0; waits = false }) (length s.seated.tables) notes y
      (subst (λ (k : LifeMode). BeginsAt k (record { owed = owed_of s.owing; treated = 0; waits = false })) (sym (given.mode ∙ ap mode_of is)) refl) (omega (arith, size)) each same)
  kill_lives notes ends leaf' (steps.preparing x y count is left each same ends_are now) =
      rw (ends_are, now) (killed (progress_of x) count notes y (subst (λ (k : LifeMode). BeginsAt k (progress_of x)) (sym (given.mode ∙ ap mode_of is)) refl)
      (left ∙ (ap (λ (l : Leaf). length (seated_of l).tables) (sym is) ∙ as_many names (seated_of leaf).tables given.in_place.named)) each same)
  kill_lives notes ends leaf' (steps.not_up down none same ends_are now) =
      rw (none, ends_are, now) (left_lives names known life m m' leaf given Kill ending.NotUp same refl (λ columns. (given.mode ∙ resting_mode leaf down, refl, refl)))

  pub deed_lives : (deed : Deed) (notes : List Note) (ends : Ending) (leaf' : Leaf) → Carries leaf leaf' notes m m' → Moves deed m m' leaf notes ends leaf'
      → Lived known (length names) deed life notes ends leaf' m'
  deed_lives Start notes ends leaf' carries moves = start_lives notes ends leaf' carries moves
  deed_lives (Flush table) notes ends leaf' carries moves = flush_lives table notes ends leaf' moves
  deed_lives (Drain stop) notes ends leaf' carries moves = drain_lives names known stop life m m' leaf notes leaf' given ends moves
  deed_lives Kill notes ends leaf' carries moves = kill_lives notes ends leaf' moves
