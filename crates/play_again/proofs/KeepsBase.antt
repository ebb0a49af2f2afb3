-- A run leaves a base that can be kept of each berth whose base was known.
use Rattle.std.proofs.Common.{◌≡◌, ◌≢◌, ◌⊎◌, inl, inr, ℕ, zero, suc, ◌<◌, ◌≤◌, Bool, true, false, List, [], ◌∷◌, length, Option, Some, None, refl, sym, ap, subst, arith}
use Rattle.std.specs.Prelude.{IfSome, map, nat_lt, slice_get, if◌then◌else◌}
use Rattle.std.proofs.lemmas.Bool.{le-ltb, ltb-false, ltb-true}
use Rattle.leaf_model.specs.declared.writes.Write.{Write}
use Rattle.berth_face.specs.Berth.{Pair, Meaning, IsClosed}
use Rattle.leaf_history.specs.History.{Entry}
use Rattle.region_head.specs.declared.head.Head.{Head}
use Rattle.region_head.specs.declared.head.Head.TheVariants as head
use Rattle.region_head.specs.Head.{head_of}
use Rattle.region_head.proofs.Heads.{closed_head}
use Rattle.region_layout.specs.Region.{reads}
use Rattle.row_records.specs.Records.{LogRecord}
use Rattle.disk_backup.specs.Logs.{IsLog, writes_of}
use Rattle.disk_backup.specs.Settling.{with_writes}
use Rattle.disk_backup.specs.SoundLogs.{HasSoundLog}
use Rattle.leaf_words.specs.declared.ways.WhyDisk.TheVariants as why
use Rattle.leaf_words.specs.declared.ways.Way.{Way}
use Rattle.leaf_words.specs.declared.ways.Way.TheVariants.{Memory, Disk}
use Rattle.leaf_opening.specs.Starts.{IsWayOf}
use Rattle.crash_moments.specs.Left.{NamedStates, RegionLeft, closed, other_version, image}
use Rattle.crash_states.specs.Standing.{Rests, states_of_tables}
use Rattle.crash_states.specs.Beginning.{BeginsAgain}
use Rattle.rollover_watch.specs.Watches.{Held}
use Rattle.script_text.specs.declared.item.Item.{Item}
use Rattle.printed_lines.specs.declared.line.Line.{Line}
use Rattle.transcript.specs.Base.{watched_from}
use Rattle.script_text.specs.declared.fleet.FleetShape.{FleetShape}
use Rattle.script_text.specs.Commands.{leaf_count}
use Rattle.transcript.specs.Pieces.{all_lines, item_of, no_fleet, script_fleet}
use Rattle.transcript.specs.Leaving.{AreKnown, IsKnown, IsToldRun}
use Rattle.transcript.specs.Transcript.{Known}
use Rattle.transcript_leaf.proofs.Lists.{element_at, same_some, within}
use Rattle.play.proofs.Lists.{choose_each, same_dropped}
use Rattle.play_again.proofs.Listing.{front_same, list_kept}
use Rattle.play.specs.Played.{AreBases, IsBase}
use Rattle.play_again.specs.Keeping.{IsKeptOf, KeepsBy, KeepsEach, KeepsOne, KeepsSame, KeptName, LeavesKnown, base_kept, bases_of, tables_left}
use Rattle.play.specs.Outcome.{IsDone, IsShort}
use Rattle.play.specs.Ran.{HasRun, Outside, Sight}
use Rattle.run_ends.specs.declared.status.Status.{Status}
use Rattle.run_words.specs.declared.words.Request.{Request}
use Rattle.run_words.specs.declared.words.Request.TheVariants.{Play}

-- ---- what is known of a beginning, by its base

-- the way of a region that is closed
closed_way : (region : List ℕ) → IsClosed region → (h : Head) → head_of region ≡ h → (way : Way) × IsWayOf region way
closed_way region shut head.NoHead e = (Disk why.NoHead, e)
closed_way region shut (head.Closed flag) e = (Disk (why.Closed flag), e)
closed_way region shut (head.Version version) e = absurd (closed_head region shut version e)

-- the way of the region that a leaf at rest leaves
way_of : (tables : NamedStates) (p : Pair) → RegionLeft reads tables p → (way : Way) × IsWayOf p.region way
way_of tables p (closed shut) = closed_way p.region shut (head_of p.region) refl
way_of tables p (other_version version e not_one) = (Disk (why.OtherVersion version), (e, not_one))
way_of tables p (image version images end reads_it is are had) = (Memory, (images, end, record { version = version; reads_it = reads_it; is = is }))

log_of : (least most : List ℕ → List Write) (disk : List ℕ) → HasSoundLog least disk ⊎ HasSoundLog most disk → (records : List LogRecord) × (log_end : ℕ) × IsLog disk records log_end
log_of least most disk (inl log) = (log.sound.0, log.sound.1, log.sound.2)
log_of least most disk (inr log) = (log.sound.0, log.sound.1, log.sound.2)

-- what is known is what region and log read as
known_of : (base : NamedStates) (m : Meaning) → IsBase base m → (k : Known) × IsKnown (Some base) m (Some k)
known_of base m is =
    let least : List ℕ → List Write = is.begins.1.0 in
    let next : Option LogRecord = is.begins.1.1 in
    let rests : Rests [] base least next m = is.begins.1.2 in
    let way = way_of (states_of_tables base [] m) m.held (rests.region m.held rests.stands.reads) in
    let log = log_of least (with_writes next least) m.held.disk (rests.logs m.held rests.stands.reads) in (
      record { base = base; held = m.held; way = way.0; read = λ name. length (writes_of name log.0) },
      (refl, refl, way.1, λ name. (log.0, log.1, log.2, refl)),
    )

known_at : {B : Type 0} (meaning : B → Meaning) (base : Option NamedStates) (found : Option B) → ((b : B) → found ≡ Some b → IfSome base (λ states. IsBase states (meaning b)))
    → (known : Option Known) × ((b : B) → found ≡ Some b → IsKnown base (meaning b) known)
known_at meaning None found is = (None, λ b at. tt)
known_at meaning (Some states) None is = (None, λ b at. absurd cc)
known_at meaning (Some states) (Some x) is =
    let k = known_of states (meaning x) (is x refl) in
    (Some k.0, λ b at. subst (λ y. IsKnown (Some states) (meaning y) (Some k.0)) (same_some x b at) k.1)

pub all_known : {B : Type 0} (base : ℕ → Option NamedStates) (meaning : B → Meaning) (old new : List B) → AreBases base meaning old → (known : ℕ → Option Known) × AreKnown meaning old new base known
all_known base meaning old new are = (
  λ leaf. (known_at meaning (base leaf) (slice_get old leaf) (are leaf)).0,
  λ leaf. (known_at meaning (base leaf) (slice_get old leaf) (are leaf)).1,
)

-- ---- what is kept

kept_behind : (tables : NamedStates) (m : Meaning) → BeginsAgain tables m → (kept : List KeptName) × IsKeptOf tables m kept
kept_behind tables m again = list_kept tables again.base m (record { begins = again.begins; is = again.is; least = again.least }) again.front

-- where nothing was done there is such a base too
kept_same : (base : NamedStates) (m : Meaning) → IsBase base m → (kept : List KeptName) × IsKeptOf base m kept
kept_same base m is = list_kept base base m is (λ name. front_same (base name))

-- the base that is known is one
pub base_known : (base : Option NamedStates) (m : Meaning) (known : Option Known) (k : Known) → known ≡ Some k → IsKnown base m known → IfSome base (λ states. IsBase states m) → IsBase k.base m
base_known base m known k e is has = by base (subst (IsKnown base m) e is) has
  where
    by : (o : Option NamedStates) → IsKnown o m (Some k) → IfSome o (λ states. IsBase states m) → IsBase k.base m
    by None is has = absurd is
    by (Some states) is has = subst (λ (b : NamedStates). IsBase b m) (sym is.0) has

-- ---- what is kept of each berth

-- where a base can be kept of each berth of which something is known
keeps_all : {B : Type 0} (meaning : B → Meaning) (berths : List B) (fleet : FleetShape) (known : ℕ → Option Known) (histories : ℕ → ℕ → List Entry)
    → ((leaf : ℕ) (b : B) (k : Known) → slice_get berths leaf ≡ Some b → known leaf ≡ Some k → (kept : List KeptName) × IsKeptOf (tables_left fleet leaf k.base (histories leaf) (meaning b)) (meaning b) kept)
    → (next : List (Option (List KeptName))) × KeepsEach meaning berths fleet known histories next
keeps_all {B} meaning berths fleet known histories kept =
    let all = choose_each (λ leaf (b : B) next. KeepsOne fleet leaf (known leaf) (histories leaf) (meaning b) next) berths (λ leaf b at. by leaf b at (known leaf) refl) in
    (all.0, record { as_many = all.1; each = all.2 })
  where
    by : (leaf : ℕ) (b : B) → slice_get berths leaf ≡ Some b → (k : Option Known) → known leaf ≡ k → (next : Option (List KeptName)) × KeepsOne fleet leaf k (histories leaf) (meaning b) next
    by leaf b at None e = (None, refl)
    by leaf b at (Some k) e = let one = kept leaf b k at e in (Some one.0, one.1)

module _ {B : Type 0} (base : ℕ → Option NamedStates) (meaning : B → Meaning) (olds news : List B) (items : List Item) (known : ℕ → Option Known) (lines : List Line) (watching watched : List Held)
    (are : AreBases base meaning olds) (are_known : AreKnown meaning olds news base known) (places : (leaf : ℕ) (new : B) → slice_get news leaf ≡ Some new → (old : B) × (slice_get olds leaf ≡ Some old))
    (told : IsToldRun meaning olds news items known lines watching watched) where
  abbrev histories : ℕ → ℕ → List Entry
  histories = told.transcript.histories

  abbrev fleet : FleetShape
  fleet = script_fleet items

  -- of a leaf of the fleet
  kept_of_some : (leaf : ℕ) (new : B) (k : Known) → slice_get news leaf ≡ Some new → known leaf ≡ Some k → leaf < leaf_count fleet
      → (kept : List KeptName) × IsKeptOf (states_of_tables k.base (watched_from 0 fleet.names k.base (histories leaf)) (meaning new)) (meaning new) kept
  kept_of_some leaf new k now is below =
      let old = places leaf new now in
      kept_behind (states_of_tables k.base (watched_from 0 fleet.names k.base (histories leaf)) (meaning new)) (meaning new) (told.leaves leaf k below is old.0 new old.1 now).begins

  -- of a berth that no leaf uses
  kept_of_none : (leaf : ℕ) (new : B) (k : Known) → slice_get news leaf ≡ Some new → known leaf ≡ Some k → leaf_count fleet ≤ leaf → (kept : List KeptName) × IsKeptOf k.base (meaning new) kept
  kept_of_none leaf new k now is past =
      let old = places leaf new now in
      let was : IsBase k.base (meaning old.0) = base_known (base leaf) (meaning old.0) (known leaf) k is (are_known leaf old.0 old.1) (are leaf old.0 old.1) in
      kept_same k.base (meaning new) (subst (λ (b : B). IsBase k.base (meaning b)) (same_dropped (leaf_count fleet) olds news leaf old.0 new past told.others old.1 now) was)

  kept_of_known : (leaf : ℕ) (new : B) (k : Known) → slice_get news leaf ≡ Some new → known leaf ≡ Some k → (kept : List KeptName) × IsKeptOf (tables_left fleet leaf k.base (histories leaf) (meaning new)) (meaning new) kept
  kept_of_known leaf new k now is = by (nat_lt leaf (leaf_count fleet)) refl
    where
      by : (b : Bool) → nat_lt leaf (leaf_count fleet) ≡ b
          → (kept : List KeptName) × IsKeptOf (if b then states_of_tables k.base (watched_from 0 fleet.names k.base (histories leaf)) (meaning new) else k.base) (meaning new) kept
      by true e = kept_of_some leaf new k now is (ltb-true leaf (leaf_count fleet) e)
      by false e = kept_of_none leaf new k now is (ltb-false leaf (leaf_count fleet) e)

  pub keeps_each : (next : List (Option (List KeptName))) × KeepsEach meaning news fleet known histories next
  keeps_each = keeps_all meaning news fleet known histories kept_of_known

-- so a run leaves this known of its berths, whatever items were played
keeps_by : {B : Type 0} (base : ℕ → Option NamedStates) (meaning : B → Meaning) (old new : List B) (items : List Item) (lines : List Line) (watching watched : List Held)
    (told : (known : ℕ → Option Known) → AreKnown meaning old new base known → IsToldRun meaning old new items known lines watching watched) → AreBases base meaning old → length new ≡ length old
    → (next : List (Option (List KeptName))) × KeepsBy meaning old new base items lines watching watched told next
keeps_by base meaning old new items lines watching watched told are as_many =
    let known = all_known base meaning old new are in
    let next = keeps_each base meaning old new items known.0 lines watching watched are known.1 (λ leaf b at. element_at old leaf (omega (arith, within new leaf b at, as_many))) (told known.0 known.1) in
    (next.0, record { known = known.0; are_known = known.1; keeps = next.1 })

-- where the berths are as they were, what was known of them
keeps_same : {B : Type 0} (base : ℕ → Option NamedStates) (meaning : B → Meaning) (old new : List B) → AreBases base meaning old → new ≡ old
    → (next : List (Option (List KeptName))) × KeepsSame meaning old new base next
keeps_same {B} base meaning old new are same =
    let known = all_known base meaning old old are in
    let next = keeps_all meaning old no_fleet known.0 (λ leaf table. []) (one known.0 known.1) in
    subst (λ bs. (next : List (Option (List KeptName))) × KeepsSame meaning old bs base next) (sym same) (next.0, record { known = known.0; are_known = known.1; keeps = next.1 })
  where
    one : (known : ℕ → Option Known) → AreKnown meaning old old base known → (leaf : ℕ) (b : B) (k : Known) → slice_get old leaf ≡ Some b → known leaf ≡ Some k
        → (kept : List KeptName) × IsKeptOf (tables_left no_fleet leaf k.base (λ table. []) (meaning b)) (meaning b) kept
    one known are_known leaf b k at e =
        let kept = kept_same k.base (meaning b) (base_known (base leaf) (meaning b) (known leaf) k e (are_known leaf b at) (are leaf b at)) in (
          kept.0,
          subst (λ (x : Bool). IsKeptOf (if x then states_of_tables k.base (watched_from 0 (no_fleet).names k.base (λ table. [])) (meaning b) else k.base) (meaning b) kept.0)
              (sym (le-ltb leaf 0 (omega arith))) kept.1,
        )

-- ---- however a play ended

module _ {S K B W : Type 0} (base : ℕ → Option NamedStates) (meaning : B → Meaning) (of : Sight S K) (old new : Outside S K B W) (are : AreBases base meaning old.berths.items) where
  -- what is left known
  abbrev Left : Status → Type 0
  Left status = (next : List (Option (List KeptName))) × LeavesKnown status base meaning (of.left old.source) (of.left new.source) (of.written old.sink) (of.written new.sink) old.berths.items new.berths.items next

  left_done : length new.berths.items ≡ length old.berths.items
      → IsDone base meaning (of.left old.source) (of.left new.source) (of.written old.sink) (of.written new.sink) old.berths.items new.berths.items old.held new.held (Some Play) → Left Status.Done
  left_done as_many (text, script, read, is_script, enough, written) =
      let next = keeps_by base meaning old.berths.items new.berths.items script.items written.lines old.held new.held written.told are as_many in
      (next.0, LeavesKnown.done old.held new.held text script written refl read is_script enough next.1)

  left_same : (status : Status) → status ≢ Status.Done → of.written new.sink ≡ of.written old.sink → new.berths.items ≡ old.berths.items → Left status
  left_same status not_done unwritten unplayed =
      let next = keeps_same base meaning old.berths.items new.berths.items are unplayed in
      (next.0, LeavesKnown.nothing not_done unwritten unplayed next.1)

  left_short : (status : Status) → status ≢ Status.Done → length new.berths.items ≡ length old.berths.items
      → IsShort base meaning (of.left old.source) (of.left new.source) (of.written old.sink) (of.written new.sink) old.berths.items new.berths.items old.held new.held (Some Play) → Left status
  left_short status not_done as_many (inl (unwritten, unplayed, unwatched)) = left_same status not_done unwritten unplayed
  left_short status not_done as_many (inr (text, script, read, is_script, enough, shortened)) =
      let next = keeps_by base meaning old.berths.items new.berths.items (map item_of shortened.played) (all_lines shortened.played) old.held new.held shortened.told are as_many in
      (next.0, LeavesKnown.short old.held new.held text script shortened not_done read is_script next.1)

  -- nothing was written or played
  left_untouched : (status : Status) → status ≢ Status.Done → new.sink ≡ old.sink → new.berths ≡ old.berths → Left status
  left_untouched status not_done unwritten unplayed = left_same status not_done (ap of.written unwritten) (ap (λ v. v.items) unplayed)

  left_by : (status : Status) → HasRun base meaning of (Some Play) status old new → Left status
  left_by Status.Done ran = left_done ran.left.as_many (ran.done refl)
  left_by Status.Words ran = left_untouched Status.Words (λ e. absurd cc) ran.unwritten ran.unplayed
  left_by (Status.Script line why) ran = left_untouched (Status.Script line why) (λ e. absurd cc) ran.unwritten ran.unplayed
  left_by Status.ReadFault ran = left_untouched Status.ReadFault (λ e. absurd cc) ran.unwritten ran.unplayed
  left_by Status.WriteFault ran = left_short Status.WriteFault (λ e. absurd cc) ran.left.as_many ran.short
  left_by Status.NoMemory ran = left_short Status.NoMemory (λ e. absurd cc) ran.left.as_many ran.short

pub left_known : {S K B W : Type 0} {base : ℕ → Option NamedStates} {meaning : B → Meaning} {of : Sight S K} {request : Option Request} {status : Status} {old new : Outside S K B W}
    → HasRun base meaning of request status old new → request ≡ Some Play → AreBases base meaning old.berths.items
    → (next : List (Option (List KeptName))) × LeavesKnown status base meaning (of.left old.source) (of.left new.source) (of.written old.sink) (of.written new.sink) old.berths.items new.berths.items next
left_known {S} {K} {B} {W} {base} {meaning} {of} {request} {status} {old} {new} ran is are =
    left_by base meaning of old new are status (subst (λ (r : Option Request). HasRun base meaning of r status old new) is ran)

-- the same, where what the source, the sink and the berths were is told by other values
pub leaves_kept : {B S K : Type 0} (base : ℕ → Option NamedStates) (meaning : B → Meaning) (left : S → Option (List ℕ)) (written : K → Option (List ℕ)) (source said_source next_source : S) (sink said_sink next_sink : K) (old said_old new : List B) (status : Status)
    → said_source ≡ source → said_sink ≡ sink → said_old ≡ old
    → ((next : List (Option (List KeptName))) × LeavesKnown status base meaning (left source) (left next_source) (written sink) (written next_sink) old new next)
    → (next : List (Option (List KeptName))) × LeavesKnown status base meaning (left said_source) (left next_source) (written said_sink) (written next_sink) said_old new next
leaves_kept base meaning left written source said_source next_source sink said_sink next_sink old said_old new status e f h leaves = rw (e, f, h) leaves

-- ---- what is kept serves the next run

-- a kept base is one where its list has it
pub base_there : {B : Type 0} (meaning : B → Meaning) (b : B) (next : List (Option (List KeptName))) (leaf : ℕ)
    → ((kept : Option (List KeptName)) → slice_get next leaf ≡ Some kept → IfSome (base_kept kept) (λ states. IsBase states (meaning b))) → IfSome (bases_of next leaf) (λ states. IsBase states (meaning b))
base_there meaning b [] leaf each = tt
base_there meaning b (kept ∷ more) zero each = each kept refl
base_there meaning b (kept ∷ more) (suc leaf) each = base_there meaning b more leaf each

kept_is_base : (fleet : FleetShape) (leaf : ℕ) (known : Option Known) (histories : ℕ → List Entry) (m : Meaning) (kept : Option (List KeptName)) → KeepsOne fleet leaf known histories m kept
    → IfSome (base_kept kept) (λ states. IsBase states m)
kept_is_base fleet leaf None histories m None keeps = tt
kept_is_base fleet leaf None histories m (Some kept) keeps = absurd cc
kept_is_base fleet leaf (Some k) histories m None keeps = tt
kept_is_base fleet leaf (Some k) histories m (Some kept) keeps = keeps.is_base

keeps_bases : {B : Type 0} (meaning : B → Meaning) (new : List B) (fleet : FleetShape) (known : ℕ → Option Known) (histories : ℕ → ℕ → List Entry) (next : List (Option (List KeptName)))
    → KeepsEach meaning new fleet known histories next → AreBases (bases_of next) meaning new
keeps_bases meaning new fleet known histories next keeps = λ leaf b at.
    base_there meaning b next leaf (λ kept is. kept_is_base fleet leaf (known leaf) (histories leaf) (meaning b) kept (keeps.each leaf b kept at is))

pub bases_left : {B : Type 0} (status : Status) (base : ℕ → Option NamedStates) (meaning : B → Meaning) (before after was now : Option (List ℕ)) (old new : List B) (next : List (Option (List KeptName)))
    → LeavesKnown status base meaning before after was now old new next → AreBases (bases_of next) meaning new
bases_left status base meaning before after was now old new next (LeavesKnown.done watching watched text script written ended read is_script enough keeps) =
    keeps_bases meaning new (script_fleet script.items) keeps.known (written.told keeps.known keeps.are_known).transcript.histories next keeps.keeps
bases_left status base meaning before after was now old new next (LeavesKnown.short watching watched text script shortened ended read is_script keeps) =
    keeps_bases meaning new (script_fleet (map item_of shortened.played)) keeps.known (shortened.told keeps.known keeps.are_known).transcript.histories next keeps.keeps
bases_left status base meaning before after was now old new next (LeavesKnown.nothing ended unwritten unplayed keeps) = keeps_bases meaning new no_fleet keeps.known (λ leaf table. []) next keeps.keeps
