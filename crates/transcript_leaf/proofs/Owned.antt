-- What a leaf that was up owns stays its own, deed by deed, and a start over it is told no stranger.
use Rattle.std.proofs.Common.{◌≡◌, ◌⊎◌, inl, inr, ◌∙◌, ℕ, zero, suc, Bool, true, List, [], ◌∷◌, length, map, Option, refl, sym, ap, subst, arith, ◌<◌, false, ◌++◌, take, cond, length-append, append_assoc}
use Rattle.std.specs.Prelude.{◌≢◌, IsTrue, ◌||◌, bytes_eq}
use Rattle.berth_face.specs.Berth.{Meaning, Pair, IsClosed}
use Rattle.region_head.proofs.Heads.{shut_head, closed_head}
use Rattle.adopt.specs.Adopting.{HasNoStranger, IsStranger}
use Rattle.log_recovery.specs.Recovery.{IsRecoveryRefusal}
use Rattle.log_recovery.specs.declared.fault.RecoveryFault.TheVariants as found
use Rattle.leaf_opening.proofs.Regions.{left_closed}
use Rattle.leaf_table.specs.Turns.{Shared}
use Rattle.leaf_table.specs.Calls.{SeatView, name_of}
use Rattle.crash_moments.specs.Left.{NamedStates}
use Rattle.crash_moments.specs.Watched.{Watched, was_opened, by_name, is_watched, now_of, others_then}
use Rattle.crash_moments.proofs.Telling.{opened_more}
use Rattle.leaf_words.specs.declared.note.Note.{Note}
use Rattle.leaf_steward.specs.Seated.{Seated, AreFounded, watch, watched_by}
use Rattle.leaf_machine.specs.declared.faults.StartFault.{StartFault}
use Rattle.leaf_machine.specs.declared.faults.StartFault.TheVariants as fault
use Rattle.leaf_machine.specs.States.{Serving}
use Rattle.leaf_machine.specs.Starts.{IsExactRefusal}
use Rattle.printed_lines.specs.declared.line.Ending.{Ending}
use Rattle.printed_lines.specs.declared.line.Ending.TheVariants as ending
use Rattle.printed_lines.specs.declared.line.Deed.{Deed}
use Rattle.printed_lines.specs.declared.line.Deed.TheVariants.{Start, Flush, Drain, Kill}
use Rattle.transcript.specs.Life.{Columns, Copying, Does, Life, OfStart, Shutting, StageOfDrain}
use Rattle.leaf_moves.specs.Stage.{IsDown, IsUp, Leaf, LeafStands, StandsOn, seated_of}
use Rattle.leaf_moves.specs.Steps.{DrainMoves, FlushMoves, KillMoves, Moves, Reaches, RefusalTold, RegionStopped, StartMoves, Stops}
use Rattle.transcript_leaf.specs.Session.{AreInPlace, IsOwn}
use Rattle.transcript_leaf.proofs.AsHanded.{read_named, refused_breaks, region_named}
use Rattle.transcript_leaf.proofs.Named.{begun_of, drain_stays, flush_stays, kill_stays}
use Rattle.transcript_leaf.proofs.CountingNotes.{as_many}
use Rattle.transcript_leaf.proofs.Modes.{refused_told}
use Rattle.std.specs.List.{AllByRecursion, list_any}
use Rattle.std.proofs.lemmas.Bool.{cond-true, cond-false, or_parts}
use Rattle.std.proofs.lemmas.Slice.Eq.{bytes_eq-Decides}
use Rattle.leaf_model.specs.declared.writes.Write.{Write}
use Rattle.leaf_history.specs.History.{HistoryState}
use Rattle.row_records.specs.Records.{LogRecord, IsRecord}
use Rattle.region_head.specs.Closing.{IsBroken}
use Rattle.disk_backup.specs.Logs.{writes_of}
use Rattle.disk_backup.specs.Settling.{with_writes}
use Rattle.disk_backup.specs.SoundLogs.{HasSoundLog}
use Rattle.disk_backup.proofs.Scanned.{scanned_is_front}
use Rattle.crash_states.specs.Standing.{Rests, states_of_tables}

-- ---- the region

pub closed_own : (names : List (List ℕ)) (region : List ℕ) → IsClosed region → HasNoStranger names region
closed_own names region closed name s = closed_head region closed s.0 s.3.head

-- what a refused start leaves
pub broken_own : (names : List (List ℕ)) (old now : List ℕ) → IsBroken old now → HasNoStranger names old → HasNoStranger names now
broken_own names old now broken own name s = own name (region_named names old now name broken s)

-- ---- the log

-- a record of a name has a write of it
writes_there : (name : List ℕ) (before : List LogRecord) (r : LogRecord) (more : List LogRecord) → r.name ≡ name → 0 < length r.writes → writes_of name (before ++ r ∷ more) ≡ [] → ⊥
writes_there name [] r more is some none =
    let own : writes_of name (r ∷ more) ≡ r.writes ++ writes_of name more =
    cond-true (bytes_eq name r.name) (r.writes ++ writes_of name more) (writes_of name more) ((bytes_eq-Decides name r.name).1 (sym is)) in
    absurd (omega (arith, some, ap (λ (l : List Write). length l) (sym own ∙ none), length-append r.writes (writes_of name more)))
writes_there name (s ∷ before) r more is some none = writes_there name before r more is some (rest (bytes_eq name s.name) none)
  where
    rest : (b : Bool) → cond b (s.writes ++ writes_of name (before ++ r ∷ more)) (writes_of name (before ++ r ∷ more)) ≡ [] → writes_of name (before ++ r ∷ more) ≡ []
    rest true e = behind s.writes (writes_of name (before ++ r ∷ more)) e
      where
        behind : (xs ys : List Write) → xs ++ ys ≡ [] → ys ≡ []
        behind [] ys e = e
        behind (x ∷ xs) ys e = absurd cc
    rest false e = e

-- a sound log without writes of a name has no record of it
record_there : (name : List ℕ) (before : List LogRecord) (r : LogRecord) (rest : List LogRecord) → AllByRecursion IsRecord (before ++ r ∷ rest) → 0 < length r.writes
record_there name [] r rest each = each.0.some
record_there name (s ∷ before) r rest each = record_there name before r rest each.1

module _ (names : List (List ℕ)) (disk name : List ℕ) (refusal : IsRecoveryRefusal names disk (found.Stranger name)) where
  no_record_of : (writes : List ℕ → List Write) → HasSoundLog writes disk → writes name ≡ [] → ⊥
  no_record_of writes log none =
      let before = refusal.0 in
      let r = refusal.1 in
      let all = log.sound.0 in
      let front = scanned_is_front disk (before ++ r ∷ []) all refusal.2.at log.sound.1 refusal.2.scanned log.sound.2 in
      let is : all ≡ before ++ r ∷ front.0 = front.1 ∙ append_assoc before (r ∷ []) front.0 in
      writes_there name before r front.0 refusal.3 (record_there name before r [] refusal.2.scanned.each)
      (ap (writes_of name) (sym is) ∙ (log.each name ∙ none))

-- ---- a leaf at rest

-- a name that the leaf does not have stands as the others do
foreign : (state : Watched → HistoryState) (others : NamedStates) (ws : List Watched) (name : List ℕ) → is_watched ws name ≡ false → by_name state others ws name ≡ others name
foreign state others [] name none = refl
foreign state others (w ∷ ws) name none =
    let parts = or_parts (bytes_eq name w.name) (is_watched ws name) none in
    cond-false (bytes_eq name w.name) (state w) (by_name state others ws name) parts.0 ∙ foreign state others ws name parts.1

not_watched : (ws : List Watched) (name : List ℕ) → list_any (bytes_eq name) (map (λ (w : Watched). w.name) ws) ≡ false → is_watched ws name ≡ false
not_watched [] name none = refl
not_watched (w ∷ ws) name none =
    let parts = or_parts (bytes_eq name w.name) (list_any (bytes_eq name) (map (λ (v : Watched). v.name) ws)) none in
    both (bytes_eq name w.name) (is_watched ws name) parts.0 (not_watched ws name parts.1)
  where
    both : (a b : Bool) → a ≡ false → b ≡ false → (a || b) ≡ false
    both a b p q = cc

take_nothing : {X : Type 0} (k : ℕ) (l : List X) → l ≡ [] → take k l ≡ []
take_nothing zero l e = refl
take_nothing (suc k) [] e = refl
take_nothing (suc k) (x ∷ l) e = absurd cc

taken_of_none : (least : List Write) (s : HistoryState) → s.writes ≡ [] → least ≡ take (length least) s.writes → least ≡ []
taken_of_none least s none is = is ∙ take_nothing (length least) s.writes none

module _ (ws : List Watched) (others : NamedStates) (least : List ℕ → List Write) (next : Option LogRecord) (m : Meaning) (rests : Rests ws others least next m) (opened : was_opened m.clock ws ≡ true) where
  no_writes : (name : List ℕ) → is_watched ws name ≡ false → (states_of_tables others ws m name).writes ≡ []
  no_writes name none =
      ap (λ (s : HistoryState). s.writes) (foreign now_of (others_then (was_opened m.clock ws) others) ws name none ∙ ap (λ (b : Bool). others_then b others name) opened)

  -- no record of its log is a stranger's
  pub rests_own : (name : List ℕ) → IsRecoveryRefusal (map (λ (w : Watched). w.name) ws) m.held.disk (found.Stranger name) → ⊥
  rests_own name refusal =
      let none = no_writes name (not_watched ws name refusal.4) in
      let kept = rests.each name in
      elim (rests.logs m.held rests.stands.reads) [
        | inl log ↦ no_record_of (map (λ (w : Watched). w.name) ws) m.held.disk name refusal least log (taken_of_none (least name) (states_of_tables others ws m name) none kept.shortest)
        | inr log ↦ no_record_of (map (λ (w : Watched). w.name) ws) m.held.disk name refusal (with_writes next least) log (taken_of_none (with_writes next least name) (states_of_tables others ws m name) none kept.longest)
      ]

  -- a start that is refused over it is told no stranger
  pub no_stranger : (names : List (List ℕ)) (name : List ℕ) → map (λ (w : Watched). w.name) ws ≡ names → HasNoStranger names m.held.region
      → IsStranger names m.held.region name ⊎ IsRecoveryRefusal names m.held.disk (found.Stranger name) → ⊥
  no_stranger names name are own (inl s) = own name s
  no_stranger names name are own (inr refusal) = rests_own name (subst (λ (ns : List (List ℕ)). IsRecoveryRefusal ns m.held.disk (found.Stranger name)) (sym are) refusal)

-- ---- the region behind a deed

same_own : (names : List (List ℕ)) (m m' : Meaning) → m'.held.region ≡ m.held.region → HasNoStranger names m.held.region → HasNoStranger names m'.held.region
same_own names m m' same own = subst (λ (r : List ℕ). HasNoStranger names r) (sym same) own

held_own : (names : List (List ℕ)) (m m' : Meaning) → m'.held ≡ m.held → HasNoStranger names m.held.region → HasNoStranger names m'.held.region
held_own names m m' same own = same_own names m m' (ap (λ (p : Pair). p.region) same) own

-- a drain that was stopped left the region as it was, or closed
stopped_own : (names : List (List ℕ)) (s : StageOfDrain) (m m' : Meaning) → RegionStopped s m m' → HasNoStranger names m.held.region → HasNoStranger names m'.held.region
stopped_own names (Shutting p) m m' same own = same_own names m m' same own
stopped_own names (Copying zero) m m' same own = same_own names m m' same own
stopped_own names (Copying (suc made)) m m' shut own = closed_own names m'.held.region (shut_head m'.held.region 0 shut)

module _ (names : List (List ℕ)) (base : NamedStates) (m m' : Meaning) (met moved : Leaf) (notes : List Note) (ends : Ending) (in_place : AreInPlace names (seated_of met)) (tells : IsTrue m.tells)
    (founded : AreFounded (seated_of met)) (stands : LeafStands base met m) where
  abbrev OwnsOn : Type 0
  OwnsOn = HasNoStranger names m.held.region → HasNoStranger names m'.held.region

  start_region : StartMoves m m' met notes ends moved → OwnsOn
  start_region (StartMoves.opened x s way is owed each told ended now) own = closed_own names m'.held.region (left_closed m.held.region m'.held.region (told tells).came.started.region)
  start_region (StartMoves.refused x f is worn damaged told none ended same) own = broken_own names m.held.region m'.held.region (refused_breaks f m m' (told tells).region) own
  start_region (StartMoves.not_down up none held ended same) own = held_own names m m' held own

  flush_region : (table : ℕ) → FlushMoves table m m' met notes ends moved → OwnsOn
  flush_region table (FlushMoves.flushed s t r is flushes region ended now) own = same_own names m m' (region tells) own
  flush_region table (FlushMoves.not_up other none held ended same) own = held_own names m m' held own

  kill_region : KillMoves m m' met notes ends moved → OwnsOn
  kill_region (KillMoves.up s y is each held ended now) own = held_own names m m' held own
  kill_region (KillMoves.preparing x y count is all each held ended now) own = held_own names m m' held own
  kill_region (KillMoves.not_up other none held ended same) own = held_own names m m' held own

  -- the leaf's own names are those of its tables
  of_names : HasNoStranger (seated_of met).names m'.held.region → HasNoStranger names m'.held.region
  of_names own = subst (λ (ns : List (List ℕ)). HasNoStranger ns m'.held.region) in_place.same_names own

  stops_own : (copy : ℕ) (s : StageOfDrain) (r : Reaches met moved notes copy s) → Stops m m' met moved notes copy s r → OwnsOn
  stops_own copy (Shutting p) r stops own = same_own names m m' (stops.4 tells) own
  stops_own copy (Copying made) r stops own = stopped_own names (Copying made) m m' (stops.2 base tells founded stands) own

  drain_region : (stop : Option ℕ) (e : Ending) → DrainMoves m m' met stop notes e moved → OwnsOn
  drain_region stop ending.Done h own = of_names (h.7 base tells founded stands)
  drain_region stop ending.FaultRegion h own = of_names (h.7 base tells founded stands)
  drain_region stop ending.FaultRoom h own = same_own names m m' (h.8 tells) own
  drain_region stop ending.FaultMemory h own = same_own names m m' (h.6 tells) own
  drain_region stop ending.FaultDisk h own = same_own names m m' (h.7 tells) own
  drain_region stop ending.Stopped h own = stops_own h.0 h.1 h.2 h.4 own
  drain_region stop ending.NotUp h own = held_own names m m' h.2 own
  drain_region stop ends h own = absurd h

  -- ---- the leaf behind a deed

  module _ (on : StandsOn base met moved m m') (life next : Life) (was : life.begun ≡ true → IsOwn names (seated_of met) m) (begun : next.begun ≡ true) where
    -- by a deed that does not begin its life
    stays : OwnsOn → next.begun ≡ life.begun → IsOwn names (seated_of moved) m'
    stays region same =
        let before = was (sym same ∙ begun) in
        record {
          opened = opened_more m.clock m'.clock m.clock m'.clock (watched_by (seated_of met)) (watched_by (seated_of moved)) on.told.passes.later on.told.more before.opened;
          region = region before.region;
        }

    -- by a start that opened its tables
    comes : (s : Serving) → moved ≡ IsUp s → HasNoStranger names m'.held.region → IsOwn names (seated_of moved) m'
    comes s now region =
        let up : LeafStands base (IsUp s) m' = subst (λ (l : Leaf). LeafStands base l m') now on.stands in
        record {
          opened = subst (λ (l : Leaf). was_opened m'.clock (watched_by (seated_of l)) ≡ true) (sym now) up.1.opened;
          region = region;
        }

    start_owned : (told : Bool) (tables : ℕ) → StartMoves m m' met notes ends moved → OfStart told tables life notes ends next → IsOwn names (seated_of moved) m'
    start_owned told tables (StartMoves.opened x s way is owed each came ended now) does =
        comes s now (closed_own names m'.held.region (left_closed m.held.region m'.held.region (came tells).came.started.region))
    start_owned told tables (StartMoves.refused x f is worn damaged why none ended same) does =
        stays (start_region (StartMoves.refused x f is worn damaged why none ended same))
        (begun_of next _ (refused_told told tables life notes f next (subst (λ (e : Ending). OfStart told tables life notes e next) ended does)))
    start_owned told tables (StartMoves.not_down up none held ended same) does =
        let h = subst (λ (e : Ending). OfStart told tables life notes e next) ended does in stays (held_own names m m' held) (begun_of next life h.2)

    pub owned : (told : Bool) (tables : ℕ) (columns : Columns) (deed : Deed) → Moves deed m m' met notes ends moved → Does told tables columns deed life notes ends next
        → IsOwn names (seated_of moved) m'
    owned told tables columns Start moves does = start_owned told tables moves does
    owned told tables columns (Flush table) moves does = stays (flush_region table moves) (flush_stays table life notes ends next does).begun
    owned told tables columns (Drain stop) moves does = stays (drain_region stop ends moves) (drain_stays told tables columns stop life notes ends next does).begun
    owned told tables columns Kill moves does = stays (kill_region moves) (kill_stays tables life notes ends next does).begun

-- ---- a meeting

-- no time passes, and the berth is not touched
pub owned_met : (names : List (List ℕ)) (base : NamedStates) (leaf leaf' : Leaf) (m : Meaning) → StandsOn base leaf leaf' m m → IsOwn names (seated_of leaf) m → IsOwn names (seated_of leaf') m
owned_met names base leaf leaf' m on own = record {
  opened = opened_more m.clock m.clock m.clock m.clock (watched_by (seated_of leaf)) (watched_by (seated_of leaf')) on.told.passes.later on.told.more own.opened;
  region = own.region;
}

-- ---- a start that is refused

-- what a start that tells of this stranger found
stranger_found : (names : List (List ℕ)) (m : Meaning) (name : List ℕ) → IsExactRefusal names m.held (fault.Stranger name)
    → IsStranger names m.held.region name ⊎ IsRecoveryRefusal names m.held.disk (found.Stranger name)
stranger_found names m name exact = elim exact [
  | inl stranger ↦ inl stranger
  | inr logged ↦ inr (read_named names m.held.disk m.held.disk name (inl refl) logged.1)
]

watch_named : (ts : List Shared) (vs : List SeatView) → length vs ≡ length ts → map (λ (w : Watched). w.name) (watch ts vs) ≡ map name_of ts
watch_named [] vs count = refl
watch_named (t ∷ ts) [] count = absurd (omega (arith, count))
watch_named (t ∷ ts) (v ∷ vs) count = ap (λ (ns : List (List ℕ)). name_of t ∷ ns) (watch_named ts vs (omega (arith, count)))

-- none that was up before
pub never_stranger : (names : List (List ℕ)) (base : NamedStates) (x : Seated) (m m' : Meaning) (f : StartFault) (name : List ℕ) → AreInPlace names x → LeafStands base (IsDown x) m → IsOwn names x m
    → RefusalTold x m m' f → f ≢ fault.Stranger name
never_stranger names base x m m' f name in_place stands own told = λ is.
    let exact : IsExactRefusal x.names m.held (fault.Stranger name) = subst (λ (g : StartFault). IsExactRefusal x.names m.held g) is told.exact in
    no_stranger (watched_by x) base stands.0 stands.1 m stands.2 own.opened names name
    (watch_named x.tables x.seats (in_place.seats ∙ sym (as_many names x.tables in_place.named)) ∙ in_place.named) own.region
    (subst (λ (ns : List (List ℕ)). IsStranger ns m.held.region name ⊎ IsRecoveryRefusal ns m.held.disk (found.Stranger name)) in_place.same_names (stranger_found x.names m name exact))
