-- The counts of a leaf: at its beginning, at a meeting, and behind each of its steward's deeds that tells no fault of
-- the disk.
use Rattle.std.proofs.Common.{◌≡◌, ℕ, false, List, map, Some, sym, ap, subst, ◌∙◌, arith, [], ◌∷◌, ◌++◌, None, refl}
use Rattle.std.specs.Prelude.{slice_get, slice_set}
use Rattle.berth_face.specs.Berth.{Meaning, Pair}
use Rattle.leaf_history.specs.Laws.{CallersKeep}
use Rattle.crash_moments.specs.Left.{NamedStates}
use Rattle.leaf_table.specs.Turns.{Shared}
use Rattle.leaf_table.specs.Calls.{SeatView, name_of}
use Rattle.leaf_words.specs.declared.note.Note.{Note}
use Rattle.leaf_steward.specs.Seated.{Seated}
use Rattle.printed_lines.specs.declared.line.Ending.{Ending}
use Rattle.transcript.specs.Base.{LogHas}
use Rattle.printed_lines.specs.declared.line.Deed.{Deed}
use Rattle.printed_lines.specs.declared.line.Deed.TheVariants.{Start, Flush, Drain, Kill}
use Rattle.transcript.specs.Life.{durable_after}
use Rattle.transcript.specs.Transcript.{Known}
use Rattle.leaf_moves.specs.Stage.{Leaf, IsDown, IsUp, IsPreparing, seated_of, with_seats, ServingStands}
use Rattle.leaf_moves.specs.Steps.{Moves, FlushMoves, ending_of_flush, KillMoves}
use Rattle.transcript_leaf.specs.Session.{AreInPlace, IsDurable, AtCounts, IsSettled}
use Rattle.transcript_leaf.specs.Acting.{loses_counts}
use Rattle.transcript_leaf.proofs.Lists.{element_at, get_map, length_mapped, same_some, within, clash_bool}
use Rattle.transcript_leaf.proofs.Counting.{closed_kept, learned_keep, settled_kept, state_with}
use Rattle.transcript_leaf.proofs.Standing.{LeafMeets}
use Rattle.transcript_leaf.proofs.CountingNotes.{as_many, makes_nothing, makes_two, none_owed, took_flushed, TablesFounded, all_closed, durable_still, seat_there, tables_founded}
use Rattle.transcript_leaf.proofs.CountingGiven.{Given, count_behind, counts_same, left_alone, of_leaves, ready_of}
use Rattle.transcript_leaf.proofs.DurableStart.{start_moves}
use Rattle.transcript_leaf.proofs.DurableDrain.{drain_moves}
use Rattle.leaf_machine.specs.declared.up.FlushReply.{FlushReply}
use Rattle.leaf_machine.specs.States.{Serving}
use Rattle.leaf_machine.specs.Flushes.{Flushes}
use Rattle.leaf_words.specs.declared.note.What.TheVariants as what
use Rattle.printed_lines.specs.declared.line.Ending.TheVariants as ending
use Rattle.transcript.specs.Counts.{is_disk_fault}
use Rattle.leaf_steward.specs.Making.{EachNoted, IsClosedNote}
use Rattle.leaf_steward.proofs.Keeping.{makes_tables}
use Rattle.transcript_leaf.proofs.CountingLogs.{AreLogged, logged_on, serving_logged}

-- ---- the first moment

-- the log has just so many writes of each name
pub first_durable : (names : List (List ℕ)) (k : Known) (m : Meaning) (x : Seated) → AreInPlace names x
    → ((name : List ℕ) → LogHas m.held.disk name (k.read name)) → IsDurable k.base (map k.read names) (IsDown x) m
first_durable names k m x in_place has = (
  length_mapped k.read names ∙ sym (as_many names x.tables in_place.named),
  λ place t v at was n e.
      let named : slice_get names place ≡ Some (name_of t) = ap (λ (ns : List (List ℕ)). slice_get ns place) (sym in_place.named) ∙ get_map name_of x.tables place t at in
      let same : k.read (name_of t) ≡ n = same_some (k.read (name_of t)) n (sym (get_map k.read names place (name_of t) named) ∙ e) in
      subst (λ (c : ℕ). LogHas m.held.disk (name_of t) c) same (has (name_of t)),
)

-- ---- seats that have learned callers' entries

-- whatever each new seat has learned, it left the table's state as callers do
abbrev SeatsKeep : NamedStates → Seated → List SeatView → Type 0
SeatsKeep base x seats = (place : ℕ) (t : Shared) (w : SeatView) → slice_get x.tables place ≡ Some t → slice_get seats place ≡ Some w
    → (v : SeatView) × (slice_get x.seats place ≡ Some v) × CallersKeep (state_with base t v) (state_with base t w)

durable_kept : (base : NamedStates) (counts : List ℕ) (leaf : Leaf) (seats : List SeatView) (m : Meaning) → SeatsKeep base (seated_of leaf) seats
    → IsDurable base counts leaf m → IsDurable base counts (with_seats leaf seats) m
durable_kept base counts (IsDown x) seats m keep durable = (
  durable.0,
  λ place t w at sat n e.
      let old = keep place t w at sat in
      durable.1 place t old.0 at old.1 n e,
)
durable_kept base counts (IsUp x) seats m keep durable = (
  durable.0,
  durable.1,
  λ place t w at sat n e.
      let old = keep place t w at sat in
      settled_kept base t old.0 w n old.2 (durable.2 place t old.0 at old.1 n e),
)
durable_kept base counts (IsPreparing x) seats m keep durable = (
  durable.0,
  durable.1,
  λ place t w at sat n e.
      let old = keep place t w at sat in
      settled_kept base t old.0 w n old.2 (durable.2 place t old.0 at old.1 n e),
  λ place t w at sat below.
      let old = keep place t w at sat in
      closed_kept (state_with base t old.0) (state_with base t w) old.2 (durable.3 place t old.0 at old.1 below),
)

-- ---- a meeting

-- what callers add before a meeting changes no count
pub durable_met : (k : Known) (counts : List ℕ) (leaf leaf' : Leaf) (m : Meaning) → LeafMeets (Some k) leaf leaf' m → IsDurable k.base counts leaf m → IsDurable k.base counts leaf' m
durable_met k counts leaf leaf' m met durable =
    subst (λ (l : Leaf). IsDurable k.base counts l m) (sym met.leaf_is) (durable_kept k.base counts leaf met.seats m keep durable)
  where
    keep : SeatsKeep k.base (seated_of leaf) met.seats
    keep place t w at sat =
        let own = element_at (seated_of leaf).seats place (omega (arith, within met.seats place w sat, met.count)) in
        let h = met.each place t own.0 w at own.1 sat in
        (own.0, own.1, learned_keep k.base t own.0 w h.more h.seen h.callers h.legal)

-- ---- flushes and kills

-- it tells of a fault of the disk
told_fault : (ends : Ending) → ends ≡ ending.FaultDisk → is_disk_fault ends ≡ false → ⊥
told_fault ends is calm = clash_bool (is_disk_fault ends) (ap is_disk_fault is) calm

module _ (names : List (List ℕ)) (k : Known) (counts : List ℕ) (m m' : Meaning) (notes : List Note) where
  abbrev GivenOf : Leaf → Leaf → Type 0
  GivenOf leaf leaf' = Given names k counts m m' notes leaf leaf'

  abbrev Later : Leaf → Type 0
  Later leaf' = IsDurable k.base (durable_after counts notes) leaf' m'

  module _ (table : ℕ) (s s' : Serving) (g : GivenOf (IsUp s) (IsUp s')) where
    -- all that was taken of each table is flushed, and counted
    flushed_up : (now : List ℕ) → durable_after counts notes ≡ now → s'.owing.log.owed ≡ None → AtCounts (IsSettled k.base) s'.seated now → Later (IsUp s')
    flushed_up now same none settled = (
      count_behind names k counts m m' notes (IsUp s) (IsUp s') g,
      none,
      subst (λ (cs : List ℕ). AtCounts (IsSettled k.base) s'.seated cs) (sym same) settled,
    )

    flushes_durable : (ends : Ending) (r : FlushReply) → Flushes table s s' notes r → ends ≡ ending_of_flush r → is_disk_fault ends ≡ false → Later (IsUp s')
    flushes_durable ends r (Flushes.done first taking flushing n owes fresh all told none) is calm =
        let takes : Note = record { table = table; number = taking; what = what.Took n } in
        let flushes : Note = record { table = table; number = flushing; what = what.Flushed n } in
        let before : first ≡ [] = none_owed s.owing.log.owed s.owing first g.durable.1 owes in
        let just : notes ≡ takes ∷ flushes ∷ [] = all ∙ ap (λ (ns : List Note). ns ++ (takes ∷ flushes ∷ [])) before in
        let ready = ready_of names k counts m m' notes (IsUp s) (IsUp s') g in
        let two = makes_two m.clock m'.clock s.seated notes s'.seated takes flushes g.carries.made just in
        let now : durable_after counts notes ≡ slice_set counts table n = ap (λ (ns : List Note). durable_after counts ns) just in
        flushed_up (slice_set counts table n) now none (took_flushed k.base s.seated s'.seated table g.known.sound ready counts taking flushing n two g.durable.2)
    flushes_durable ends r (Flushes.half first taking n owes fresh all told some owner count) is calm = absurd (told_fault ends (is ∙ ap ending_of_flush told) calm)
    flushes_durable ends r (Flushes.worn first owes all told worn none) is calm =
        let nothing : notes ≡ [] = all ∙ none_owed s.owing.log.owed s.owing first g.durable.1 owes in
        let same : s'.seated ≡ s.seated = makes_nothing m.clock m'.clock s.seated notes s'.seated g.carries.made nothing in
        flushed_up counts (counts_same names k counts m m' notes nothing) none
        (subst (λ (x : Seated). AtCounts (IsSettled k.base) x counts) (sym same) g.durable.2)
    flushes_durable ends r (Flushes.stuck nothing told some same owed owner count) is calm = absurd (told_fault ends (is ∙ ap ending_of_flush told) calm)

  flush_moves : (table : ℕ) (leaf : Leaf) (ends : Ending) (leaf' : Leaf) → FlushMoves table m m' leaf notes ends leaf' → is_disk_fault ends ≡ false → GivenOf leaf leaf' → Later leaf'
  flush_moves table leaf ends leaf' (FlushMoves.flushed s s' r up flushes region is up') calm g =
      of_leaves names k counts m m' notes leaf leaf' (IsUp s) (IsUp s') up up' (λ h. flushes_durable table s s' h ends r flushes is calm) g
  flush_moves table leaf ends leaf' (FlushMoves.not_up other nothing held is same) calm g = left_alone names k counts m m' notes leaf leaf' g nothing held same

  -- it owed the log nothing, and all that was taken was flushed
  killed : (s : Serving) (y : Seated) (leaf : Leaf) (first count : ℕ) → seated_of leaf ≡ s.seated → EachNoted IsClosedNote first count notes → m'.held ≡ m.held
      → s.owing.log.owed ≡ None → ServingStands s m → AtCounts (IsSettled k.base) s.seated counts → GivenOf leaf (IsDown y) → Later (IsDown y)
  killed s y leaf first count is closes held none stands settled g =
      let founded = subst (λ (x : Seated). TablesFounded k.base x) is (tables_founded names (seated_of leaf) g.in_place k.base g.known_base) in
      let had : AreLogged m.held.disk counts s.seated = serving_logged k.base counts s m founded none stands settled in
      let there : AreLogged m.held.disk counts (seated_of leaf) = subst (λ (x : Seated). AreLogged m.held.disk counts x) (sym is) had in
      let same_tables : y.tables ≡ (seated_of leaf).tables = makes_tables m.clock m'.clock (seated_of leaf) notes y g.carries.made in
      let now : AreLogged m.held.disk counts y = logged_on m.held.disk counts (seated_of leaf) y same_tables (seat_there names (seated_of leaf) g.in_place) there in
      let still : durable_after counts notes ≡ counts = durable_still counts notes (all_closed first count notes closes) in (
        count_behind names k counts m m' notes leaf (IsDown y) g,
        subst (λ (cs : List ℕ). AreLogged m'.held.disk cs y) (sym still) (subst (λ (h : Pair). AreLogged h.disk counts y) (sym held) now),
      )

  kill_moves : (leaf : Leaf) (ends : Ending) (leaf' : Leaf) → KillMoves m m' leaf notes ends leaf' → GivenOf leaf leaf' → Later leaf'
  kill_moves leaf ends leaf' (KillMoves.up s y up closes held is down) g =
      of_leaves names k counts m m' notes leaf leaf' (IsUp s) (IsDown y) up down
      (λ h. killed s y (IsUp s) 0 _ refl closes held h.durable.1 h.known.stands h.durable.2 h) g
  kill_moves leaf ends leaf' (KillMoves.preparing x y count shuts all closes held is down) g =
      of_leaves names k counts m m' notes leaf leaf' (IsPreparing x) (IsDown y) shuts down
      (λ h. killed x.serving y (IsPreparing x) _ count refl closes held h.durable.1 h.known.stands h.durable.2 h) g
  kill_moves leaf ends leaf' (KillMoves.not_up other nothing held is same) g = left_alone names k counts m m' notes leaf leaf' g nothing held same

-- ---- a deed

pub durable_moves : (names : List (List ℕ)) (k : Known) (counts : List ℕ) (deed : Deed) (m m' : Meaning) (leaf : Leaf) (notes : List Note) (ends : Ending) (leaf' : Leaf)
    → Moves deed m m' leaf notes ends leaf' → loses_counts deed ends ≡ false → Given names k counts m m' notes leaf leaf'
    → IsDurable k.base (durable_after counts notes) leaf' m'
durable_moves names k counts Start m m' leaf notes ends leaf' moves calm g = start_moves names k counts m m' notes leaf ends leaf' moves g
durable_moves names k counts (Flush table) m m' leaf notes ends leaf' moves calm g = flush_moves names k counts m m' notes table leaf ends leaf' moves calm g
durable_moves names k counts (Drain stop) m m' leaf notes ends leaf' moves calm g = drain_moves names k counts m m' leaf notes leaf' g stop ends moves calm
durable_moves names k counts Kill m m' leaf notes ends leaf' moves calm g = kill_moves names k counts m m' notes leaf ends leaf' moves g
