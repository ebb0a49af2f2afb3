-- The life of a leaf behind a drain, by what that does to it.
use Rattle.std.proofs.Common.{◌≡◌, ℕ, zero, suc, ◌+◌, ◌≤◌, Bool, true, false, List, [], ◌++◌, length, refl, sym, ap, subst, ◌∙◌, arith, Option, Some, None}
use Rattle.std.specs.Prelude.{IfSome, is_some, option_map, replicate}
use Rattle.std.specs.List.{AllByRecursion}
use Rattle.std.proofs.lemmas.List.{append-nil}
use Rattle.berth_face.specs.Berth.{Meaning}
use Rattle.leaf_words.specs.declared.ways.WhyDisk.TheVariants as why
use Rattle.leaf_words.specs.declared.ways.Way.{Way}
use Rattle.leaf_words.specs.declared.ways.Way.TheVariants.{Memory, Disk}
use Rattle.leaf_opening.specs.Starts.{IsWayLeft, IsWayOf}
use Rattle.printed_lines.specs.declared.line.Ending.{Ending}
use Rattle.printed_lines.specs.declared.line.Ending.TheVariants as ending
use Rattle.leaf_table.specs.Turns.{Shared, is_founded}
use Rattle.leaf_table.specs.Calls.{base_seen}
use Rattle.leaf_words.specs.declared.note.Note.{Note}
use Rattle.leaf_words.specs.declared.note.What.TheVariants as what
use Rattle.leaf_steward.specs.Seated.{Seated, AreFounded}
use Rattle.leaf_steward.proofs.WatchMakes.{makes_tables}
use Rattle.leaf_machine.specs.States.{bulk_added, columns_added, columns_seen}
use Rattle.printed_lines.specs.declared.line.Deed.{Deed}
use Rattle.printed_lines.specs.declared.line.Deed.TheVariants.{Drain}
use Rattle.transcript.specs.Transcript.{Known}
use Rattle.transcript.specs.Life.{Columns, Life, LifeMode, Does, Down, Preparing, OfDrain, ClosesRest, DrainComes, IsCopyWithin, StageOfDrain, Starves, claimed, durable_after, durable_with, failed, on, way_stopped}
use Rattle.transcript.specs.Life as life
use Rattle.leaf_moves.specs.Stage.{Leaf, seated_of}
use Rattle.leaf_moves.specs.Modes.{mode_of}
use Rattle.leaf_moves.specs.Steps.{DrainMoves, HasCopyLength, MakesNoted, Reaches, RegionStopped, Stops, WhereStands}
use Rattle.leaf_moves.proofs.NoteLines.{closed_noted, handed_noted}
use Rattle.transcript_leaf.specs.Session.{HaveKnownBase, FitsNext, StandsKnown}
use Rattle.transcript_leaf.specs.Acting.{FitsWay, Hands, Lived, loses_counts}
use Rattle.transcript_leaf.specs.Acting as acting
use Rattle.transcript_leaf.proofs.Modes.{Stood, founded_where, resting_mode, same_held, way_claim, way_stays, where_known}
use Rattle.transcript_leaf.proofs.Ways.{left_as}
use Rattle.transcript_leaf.proofs.CountingNotes.{AllNotes, IsStill, all_closed, all_handed, are_founded, as_many, durable_append, durable_still, makes_stewards}
use Rattle.transcript_leaf.proofs.Handing.{handed_columns, hands_nothing, hands_bulk, hands_most}

-- ---- the way of the next start

-- it finds memory
memory_way : (known : Option Known) (m' : Meaning) → IfSome known (λ (k : Known). IsWayLeft true m'.held.region Memory) → (next : Life) → next.way ≡ claimed (is_some known) Memory → FitsWay known next m'
memory_way None m' holds next is = is
memory_way (Some k) m' holds next is = subst (λ (way : Option Way). IfSome way (IsWayLeft next.begun m'.held.region)) (sym is) (holds.0, λ up memory. holds.1 refl refl)

-- nothing is claimed of it
no_way : (known : Option Known) (m' : Meaning) (next : Life) → next.way ≡ None → FitsWay known next m'
no_way None m' next is = is
no_way (Some k) m' next is = subst (λ (way : Option Way). IfSome way (IsWayLeft next.begun m'.held.region)) (sym is) tt

closed_way : (begun : Bool) (way : Option Way) (region : List ℕ) → IsWayOf region (Disk (why.Closed 0)) → IfSome (option_map (λ (w : Way). Disk (why.Closed 0)) way) (IsWayLeft begun region)
closed_way begun None region is = tt
closed_way begun (Some w) region is = left_as begun region (Disk (why.Closed 0)) is (λ e. cc)

-- the way behind a drain that was stopped, where that before is claimed
claim_stopped : (old : Life) (m m' : Meaning) (s : StageOfDrain) → IfSome old.way (IsWayLeft old.begun m.held.region) → RegionStopped s m m' → IfSome (way_stopped s old.way) (IsWayLeft old.begun m'.held.region)
claim_stopped old m m' (life.Shutting p) was now = subst (λ (region : List ℕ). IfSome old.way (IsWayLeft old.begun region)) (sym now) was
claim_stopped old m m' (life.Copying zero) was now = subst (λ (region : List ℕ). IfSome old.way (IsWayLeft old.begun region)) (sym now) was
claim_stopped old m m' (life.Copying (suc made)) was now = closed_way old.begun old.way m'.held.region now

stopped_none : (s : StageOfDrain) → way_stopped s None ≡ None
stopped_none (life.Shutting p) = refl
stopped_none (life.Copying zero) = refl
stopped_none (life.Copying (suc made)) = refl

stopped_way : (known : Option Known) (old : Life) (leaf : Leaf) (m m' : Meaning) (s : StageOfDrain) → FitsNext known old leaf m
    → IfSome known (λ (k : Known). RegionStopped s m m') → (next : Life) → way_claim next ≡ (way_stopped s old.way, old.begun) → FitsWay known next m'
stopped_way None old leaf m m' s fits holds next is = ap (λ (c : Option Way × Bool). c.0) is ∙ (ap (λ (way : Option Way). way_stopped s way) fits.0 ∙ stopped_none s)
stopped_way (Some k) old leaf m m' s fits holds next is =
    subst (λ (c : Option Way × Bool). IfSome c.0 (IsWayLeft c.1 m'.held.region)) (sym is) (claim_stopped old m m' s fits.0 holds)

-- entries that leave the counts
still_with : (known : Option (List ℕ)) (xs ys : List Note) → AllNotes IsStill ys → durable_with known xs ≡ durable_with known (xs ++ ys)
still_with None xs ys still = refl
still_with (Some counts) xs ys still = ap (λ (c : List ℕ). Some c) (sym (durable_append counts xs ys ∙ durable_still (durable_after counts xs) ys still))

-- tables are founded still
part_founded : (x : Seated) (notes : List Note) (y : Seated) → MakesNoted x notes y → AreFounded x → AreFounded y
part_founded x notes y part founded =
    subst (λ (ts : List Shared). AllByRecursion (λ (t : Shared). is_founded (base_seen t) ≡ true) ts) (sym (makes_tables part.from part.to x notes y part.made)) founded

-- ---- a deed that leaves the leaf alone

no_notes : (durable : Option (List ℕ)) → durable ≡ durable_with durable []
no_notes None = refl
no_notes (Some counts) = refl

pub left_lives : (names : List (List ℕ)) (known : Option Known) (life : Life) (m m' : Meaning) (leaf : Leaf) → Stood names known life leaf m → (deed : Deed) (ends : Ending)
    → m'.held ≡ m.held → loses_counts deed ends ≡ false → ((columns : Columns) → Does (is_some known) (length names) columns deed life [] ends life)
    → Lived known (length names) deed life [] ends leaf m'
left_lives names known life m m' leaf given deed ends same calm does = record {
  next = life;
  hands = hands_nothing leaf;
  does = λ columns few more. does columns;
  counts = acting.keeps calm (no_notes life.durable);
  mode = given.mode;
  way = way_stays known life life leaf m m' refl given.next (same_held known leaf m m' given.stands same);
}

-- ---- each way that a drain may end

module _ (names : List (List ℕ)) (known : Option Known) (stop : Option ℕ) (old : Life) (m m' : Meaning) (leaf : Leaf) (notes : List Note) (leaf' : Leaf) (given : Stood names known old leaf m) where
  abbrev based : Bool
  based = is_some known

  abbrev tables : ℕ
  tables = length names

  abbrev LivedSo : Ending → Type 0
  LivedSo ends = Lived known tables (Drain stop) old notes ends leaf' m'

  size : length (seated_of leaf).tables ≡ tables
  size = as_many names (seated_of leaf).tables given.in_place.named

  -- what holds of a leaf with a base holds where the base is known
  promised : (P : Type 0) → WhereStands leaf m P → IfSome known (λ (k : Known). P)
  promised P holds = by known given.known_base given.stands
    where
      by : (o : Option Known) → HaveKnownBase o (seated_of leaf) → IfSome o (λ (k : Known). StandsKnown k leaf m) → IfSome o (λ (k : Known). P)
      by None on stood = tt
      by (Some k) on stood = holds k.base stood.tells (are_founded names (seated_of leaf) given.in_place k.base on) stood.stands

  -- how far its life came
  module _ (copy : ℕ) (s : StageOfDrain) (r : Reaches leaf leaf' notes copy s) where
    comes : DrainComes tables copy r.made old.mode r.treating s
    comes = subst (λ (a : LifeMode). DrainComes tables copy r.made a r.treating s) (sym given.mode) (subst (λ (n : ℕ). DrainComes n copy r.made (mode_of leaf) r.treating s) size r.comes)

    comes_all : r.last ≡ [] → DrainComes tables copy r.made old.mode notes s
    comes_all none =
        let just : r.treating ≡ notes = sym (r.notes_are ∙ (ap (λ (ns : List Note). r.treating ++ ns) none ∙ append-nil r.treating)) in
        subst (λ (ns : List Note). DrainComes tables copy r.made old.mode ns s) just comes

    still : AllNotes IsStill r.last → durable_with old.durable r.treating ≡ durable_with old.durable notes
    still all = still_with old.durable r.treating r.last all ∙ ap (λ (ns : List Note). durable_with old.durable ns) (sym r.notes_are)

    founded : based ≡ true → AreFounded (seated_of leaf')
    founded is = part_founded r.between r.last (seated_of leaf') r.ends (part_founded (seated_of leaf) r.treating r.between r.treats (founded_where names known (seated_of leaf) given.in_place given.known_base is))

    within : HasCopyLength (seated_of leaf') copy → (most : ℕ) → (based ≡ true → columns_added (seated_of leaf').tables (seated_of leaf').seats ≤ most) → IsCopyWithin based most copy
    within long most few = λ is.
        let bound = long.1 (founded is) in
        let all = few is in
        omega (arith, bound, all)

  -- each table is handed over, and the leaf is down
  done : DrainMoves m m' leaf stop notes ending.Done leaf' → LivedSo ending.Done
  done h =
      let r = h.1 in
      let at = life.Copying h.0 in
      let hand : life.NotesFrom 0 (replicate tables what.Handed) r.last =
      subst (λ (n : ℕ). life.NotesFrom 0 (replicate n what.Handed) r.last) size (handed_noted 0 (length (seated_of leaf).tables) r.last h.4) in
      let next : Life = on old Down (claimed based Memory) r.treating in
      let hands : Hands leaf' = record {
        handed = r.last;
        columns = columns_seen r.between.tables r.between.seats;
        most = 0;
        bulk = 0;
        told = λ base_states histories on. handed_columns base_states histories (seated_of leaf') on r.ends.from r.ends.to r.between r.last (length (seated_of leaf).tables) r.ends.made h.4
            (makes_stewards r.treats.from r.treats.to (seated_of leaf) r.treating r.between r.treats.made given.stewards);
        few = λ base_states histories notes on noted. (omega arith, omega arith);
      } in
      let does : (columns : Columns) → columns.least hands.handed ≤ hands.columns → OfDrain based tables columns stop old notes ending.Done next =
      λ columns few. (
        r.made,
        h.0,
        r.treating,
        r.last,
        comes (suc h.0) at r,
        h.2,
        (let long = h.3.0 in omega (arith, few, long)),
        hand,
        r.notes_are,
        refl,
      ) in record {
        next = next;
        hands = hands;
        does = λ columns few more. does columns few;
        counts = acting.keeps refl (still (suc h.0) at r (all_handed 0 (length (seated_of leaf).tables) r.last h.4));
        mode = sym h.5;
        way = memory_way known m' (promised (IsWayLeft true m'.held.region Memory) h.6) next refl;
      }

  -- the region failed
  region_failed : DrainMoves m m' leaf stop notes ending.FaultRegion leaf' → LivedSo ending.FaultRegion
  region_failed h =
      let r = h.2 in
      let at = life.Copying h.1 in
      let next : Life = on old Down None notes in
      let does : (columns : Columns) → (based ≡ true → columns_added (seated_of leaf').tables (seated_of leaf').seats ≤ columns.most) → OfDrain based tables columns stop old notes ending.FaultRegion next =
      λ columns more. (h.0, r.made, h.1, within h.0 at r h.4 columns.most more, comes_all h.0 at r h.5, h.3, refl) in record {
        next = next;
        hands = hands_most leaf' h.4.2;
        does = λ columns few more. does columns (λ is. (more is).0);
        counts = acting.keeps refl refl;
        mode = sym h.6;
        way = no_way known m' next refl;
      }

  -- the copy has no room
  roomless : DrainMoves m m' leaf stop notes ending.FaultRoom leaf' → LivedSo ending.FaultRoom
  roomless h =
      let r = h.1 in
      let at = life.Shutting h.0 in
      let next : Life = on old (Preparing h.0) old.way notes in
      let does : (columns : Columns) → (based ≡ true → bulk_added (seated_of leaf').tables (seated_of leaf').seats ≤ columns.bulk) → OfDrain based tables columns stop old notes ending.FaultRoom next =
      λ columns more. (
        r.made,
        h.0,
        λ is. let much = h.5 (founded 0 at r is) in let all = more is in omega (arith, much, all),
        comes_all 0 at r h.6,
        h.3 ∙ size,
        h.2,
        refl,
      ) in record {
        next = next;
        hands = hands_bulk leaf' h.4;
        does = λ columns few more. does columns (λ is. (more is).1);
        counts = acting.keeps refl refl;
        mode = sym h.7;
        way = way_stays known old next leaf m m' refl given.next (where_known known leaf m (m'.held.region ≡ m.held.region) given.stands h.8);
      }

  -- there is no memory
  starved : DrainMoves m m' leaf stop notes ending.FaultMemory leaf' → LivedSo ending.FaultMemory
  starved h =
      let r = h.2 in
      let at = life.Shutting h.0 in
      let next : Life = on old (Preparing h.1) old.way notes in
      let starves : Starves tables h.0 r.last h.1 = subst (λ (n : ℕ). Starves n h.0 r.last h.1) size h.4 in
      let does : (columns : Columns) → OfDrain based tables columns stop old notes ending.FaultMemory next =
      λ columns. (r.made, h.0, h.1, r.treating, r.last, comes 0 at r, h.3, starves, r.notes_are, refl) in record {
        next = next;
        hands = hands_nothing leaf';
        does = λ columns few more. does columns;
        counts = acting.keeps refl refl;
        mode = sym h.5;
        way = way_stays known old next leaf m m' refl given.next (where_known known leaf m (m'.held.region ≡ m.held.region) given.stands h.6);
      }

  -- the disk fails
  halted : DrainMoves m m' leaf stop notes ending.FaultDisk leaf' → LivedSo ending.FaultDisk
  halted h =
      let r = h.2 in
      let at = life.Shutting h.0 in
      let next : Life = failed old (Preparing h.1) in
      let few = h.4 in
      let does : (columns : Columns) → OfDrain based tables columns stop old notes ending.FaultDisk next =
      λ columns. (r.made, h.0, h.1, r.treating, r.last, comes 0 at r, h.3, omega (arith, few, size), h.5, r.notes_are, refl) in record {
        next = next;
        hands = hands_nothing leaf';
        does = λ columns few more. does columns;
        counts = acting.lost refl;
        mode = sym h.6;
        way = way_stays known old next leaf m m' refl given.next (where_known known leaf m (m'.held.region ≡ m.held.region) given.stands h.7);
      }

  -- it is stopped at a stage, and the leaf is killed
  stopped_at : (copy : ℕ) (s : StageOfDrain) (r : Reaches leaf leaf' notes copy s) (hands : Hands leaf') → stop ≡ Some r.made → mode_of leaf' ≡ Down
      → ((columns : Columns) → (based ≡ true → hands.most ≤ columns.most) → IsCopyWithin based columns.most copy)
      → ClosesRest tables s r.last → AllNotes IsStill r.last → IfSome known (λ (k : Known). RegionStopped s m m') → LivedSo ending.Stopped
  stopped_at copy s r hands stops down long closes all region =
      let next : Life = on old Down (way_stopped s old.way) r.treating in
      let does : (columns : Columns) → (based ≡ true → hands.most ≤ columns.most) → OfDrain based tables columns stop old notes ending.Stopped next =
      λ columns more. (copy, r.made, s, r.treating, r.last, long columns more, comes copy s r, stops, closes, r.notes_are, refl) in record {
        next = next;
        hands = hands;
        does = λ columns few more. does columns (λ is. (more is).0);
        counts = acting.keeps refl (still copy s r all);
        mode = sym down;
        way = stopped_way known old leaf m m' s given.next region next refl;
      }

  -- while there were tables to treat, or at their end, each that is still open is closed; behind steps of the copy none is open
  stopped : (copy : ℕ) (s : StageOfDrain) (r : Reaches leaf leaf' notes copy s) → stop ≡ Some r.made → Stops m m' leaf leaf' notes copy s r → mode_of leaf' ≡ Down → LivedSo ending.Stopped
  stopped copy (life.Shutting p) r stops h down =
      let shut = closed_noted (life.first_open p) h.0 r.last h.3 in
      let none = h.1 in
      let closes : ClosesRest tables (life.Shutting p) r.last = (shut.0, ap (λ (n : ℕ). life.first_open p + n) shut.1 ∙ (h.2 ∙ size), shut.2) in
      stopped_at copy (life.Shutting p) r (hands_nothing leaf') stops down (λ columns more is. omega (arith, none)) closes (all_closed (life.first_open p) h.0 r.last h.3)
      (where_known known leaf m (m'.held.region ≡ m.held.region) given.stands h.4)
  stopped copy (life.Copying made) r stops h down =
      stopped_at copy (life.Copying made) r (hands_most leaf' h.0.2) stops down (λ columns more. within copy (life.Copying made) r h.0 columns.most more) h.1
      (subst (λ (ns : List Note). AllNotes IsStill ns) (sym h.1) tt)
      (promised (RegionStopped (life.Copying made) m m') h.2)

  -- the leaf is down
  not_up : DrainMoves m m' leaf stop notes ending.NotUp leaf' → LivedSo ending.NotUp
  not_up h =
      rw (h.1, h.3) (left_lives names known old m m' leaf given (Drain stop) ending.NotUp h.2 refl (λ columns. (given.mode ∙ resting_mode leaf h.0, refl, refl)))

  pub drain_lives : (ends : Ending) → DrainMoves m m' leaf stop notes ends leaf' → LivedSo ends
  drain_lives ending.Done h = done h
  drain_lives ending.FaultRegion h = region_failed h
  drain_lives ending.FaultRoom h = roomless h
  drain_lives ending.FaultMemory h = starved h
  drain_lives ending.FaultDisk h = halted h
  drain_lives ending.Stopped h = stopped h.0 h.1 h.2 h.3 h.4 h.5
  drain_lives ending.NotUp h = not_up h
  drain_lives ends h = absurd h
