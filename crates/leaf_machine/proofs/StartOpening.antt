-- What a start finds may be opened, and opened the leaf runs.
use Rattle.std.proofs.Common.{◌≡◌, ◌∙◌, ℕ, ◌+◌, ◌-◌, ◌<◌, ◌≤◌, ◌^◌, Bool, true, false, List, [], ◌∷◌, length, map, take, Option, Some, None, Ok, refl, sym, ap, subst, arith, inl, inr}
use Rattle.std.specs.Prelude.{slice_get, IfSome, IsTrue}
use Rattle.std.specs.List.{AllByRecursion}
use Rattle.std.proofs.lemmas.Bool.{false≢true}
use Rattle.std.proofs.lemmas.List.{length-map}
use Rattle.leaf_model.specs.declared.writes.Write.{Write}
use Rattle.leaf_model.specs.Content.{Contents, content}
use Rattle.row_records.specs.Records.{LogRecord}
use Rattle.table_state.specs.Tables.{HeldTables, Store, Table, added_count, columns_most, no_store}
use Rattle.berth_face.specs.Berth.{Meaning}
use Rattle.disk_backup.specs.State.{LogState}
use Rattle.leaf_history.specs.History.{HistoryState, OpenAllowed}
use Rattle.leaf_history.specs.History as history
use Rattle.leaf_opening.specs.declared.opening.Opened.{Opened}
use Rattle.leaf_words.specs.declared.ways.Way.{Way}
use Rattle.leaf_words.specs.declared.ways.Way.TheVariants.{Disk, Memory}
use Rattle.leaf_opening.specs.OpenedLeaf.{OpenedLeaf}
use Rattle.leaf_opening.specs.Starts.{StartEnded, IsCome, opened_leaf}
use Rattle.leaf_table.specs.Turns.{HasFewColumns, Shared, is_founded, MayHandIn}
use Rattle.leaf_table.specs.Calls.{SeatView, IsFresh, SeesOpen, base_seen, name_of, state_seen}
use Rattle.crash_moments.specs.Left.{NamedStates}
use Rattle.crash_moments.specs.Watched.{Watched, IsFoundation, IsWatched, now_of}
use Rattle.crash_moments.specs.Told.{Told}
use Rattle.crash_moments.proofs.Telling.{told_join}
use Rattle.crash_states.specs.Standing.{Rests, Runs}
use Rattle.crash_states.specs.Entries.{OpensAll}
use Rattle.crash_states.proofs.Lefts.{runs_told}
use Rattle.crash_states.proofs.Names.{each_at}
use Rattle.crash_states.proofs.States.{now_sound}
use Rattle.crash_starting.specs.Laws.{FindsOpenable, HasContent, Opens, names_of}
use Rattle.crash_starting.proofs.Starting.{opening_told, found, openable, opens}
use Rattle.leaf_words.specs.declared.note.Note.{Note}
use Rattle.leaf_steward.specs.Seated.{Seated, AreAlike, AreSeated, AreFounded, AtEach, Spares, watched, watched_by}
use Rattle.leaf_steward.specs.Making.{EachNoted, Makes, OpenedNotes}
use Rattle.leaf_steward.specs.Owing.{Owing}
use Rattle.leaf_steward.proofs.Keeping.{founded_as, makes_since, makes_tables}
use Rattle.leaf_steward.proofs.WatchPlaces.{watch_all}
use Rattle.leaf_steward.proofs.WatchEntries.{now_seen}
use Rattle.leaf_steward.proofs.Watching.{watch_get, watch_names, watch_length, makes_opens}
use Rattle.leaf_machine.specs.States.{DownStands, IsDown, IsUp}
use Rattle.leaf_machine.specs.Starts.{IsOpenedNote}
use Rattle.leaf_machine.specs.Started.{Finds, Started}
use Rattle.leaf_machine.proofs.StartMakes.{makes_names, opened_each}

-- the log of a start, which is owed nothing
abbrev pub begun_log : LogState → Owing
begun_log log = record { log = log; owner = 0; count = 0 }

-- of a log that is owed nothing nothing is asked
none_owed : (P : LogRecord → Type 0) (owed : Option LogRecord) → owed ≡ None → IfSome owed P
none_owed P owed none = subst (λ (o : Option LogRecord). IfSome o P) (sym none) tt

-- ---- how many there are

table_count : (x : Seated) → AreSeated x → length x.tables ≡ length x.names
table_count x seated = sym (length-map x.tables name_of) ∙ ap (λ (names : List (List ℕ)). length names) seated.names

some_watched : (x : Seated) → AreSeated x → 0 < length (watched_by x)
some_watched x seated = omega (arith, watch_length x seated, table_count x seated, seated.named.some)

-- ---- one table

-- a table that is handed in: of a founded one the history says what may be opened, and of another nothing is asked
hand_in : (founded : Bool) (s : HistoryState) (table : Table) → table.pending ≡ None → table.writes < 2 ^ 63 → HasFewColumns founded s.spare (history.first_writes s table.writes) table
    → OpenAllowed founded s table.writes table.contents → MayHandIn founded s table.writes table
hand_in founded s table fresh small few may = record { pending = fresh; writes = refl; small = small; columns = few; allowed = may }

-- of which nothing is told of how its rows stand
bare_few : (founded : Bool) (spare : ℕ) (writes : List Write) (table : Table) → table.store ≡ no_store → HasFewColumns founded spare writes table
bare_few founded spare writes table none is = subst (λ (s : Store). columns_most s ≤ spare + added_count writes) (sym none) (omega arith)

-- the first of its writes are those of its log
first_is : (s : HistoryState) (writes : List Write) (n : ℕ) → s.handed_in ≡ 0 → writes ≡ take (length writes) s.writes → n ≡ length writes → history.first_writes s n ≡ writes
first_is s writes n none front count =
    let all : n - s.handed_in ≡ length writes = omega (arith, none, count) in
    ap (λ (k : ℕ). take k s.writes) all ∙ sym front

-- the founded one has what its log has
may_hold : (t : Shared) (v : SeatView) (writes : List Write) (table : Table) → is_founded (base_seen t) ≡ true → HasContent writes table
    → history.MayOpen (now_of (watched t v)) (length writes) (content writes) → OpenAllowed (is_founded (base_seen t)) (state_seen (base_seen t) v) table.writes table.contents
may_hold t v writes table founded has may =
    let with_count : history.MayOpen (now_of (watched t v)) table.writes (content writes) = subst (λ (n : ℕ). history.MayOpen (now_of (watched t v)) n (content writes)) (sym has.count) may in
    let with_contents : history.MayOpen (now_of (watched t v)) table.writes table.contents = subst (λ (c : Contents). history.MayOpen (now_of (watched t v)) table.writes c) (sym has.contents) with_count in
    let seen : history.MayOpen (state_seen (base_seen t) v) table.writes table.contents = subst (λ (s : HistoryState). history.MayOpen s table.writes table.contents) (now_seen t v founded) with_contents in
    subst (λ (b : Bool). OpenAllowed b (state_seen (base_seen t) v) table.writes table.contents) (sym founded) seen

-- ---- what was found tells nothing of how rows stand

abbrev IsBare : Table → Type 0
IsBare t = t.store ≡ no_store

each_bare : (f : List ℕ → Table) (names : List (List ℕ)) → ((name : List ℕ) → IsBare (f name)) → AllByRecursion IsBare (map f names)
each_bare f [] bare = tt
each_bare f (name ∷ names) bare = (bare name, each_bare f names bare)

are_bare : (tables : List Table) (f : List ℕ → Table) (names : List (List ℕ)) → tables ≡ map f names → ((name : List ℕ) → IsBare (f name)) → AllByRecursion IsBare tables
are_bare tables f names are bare = subst (AllByRecursion IsBare) (sym are) (each_bare f names bare)

come_bare : (names : List (List ℕ)) (region disk : List ℕ) (s : OpenedLeaf) (way : Way) → IsCome names region disk s way → AllByRecursion IsBare s.tables
come_bare names region disk s Memory come = are_bare s.tables _ names (ap (λ (h : HeldTables). h.each) come.4) (λ name. refl)
come_bare names region disk s (Disk why) come = are_bare s.tables _ names come.1.tables_are (λ name. refl)

-- ---- the leaf

module _ (x : Seated) (seated : AreSeated x) (a b : Meaning) (o : Opened) (is : Finds x.names (Ok o) a b) where
  abbrev ws : List Watched
  ws = watched_by x

  -- as many were opened as there are
  pub opened_count : length o.tables.each ≡ length x.tables
  opened_count = is.one ∙ sym (table_count x seated)

  finds : (others : NamedStates) (least : List ℕ → List Write) (next : Option LogRecord) → IsTrue a.tells → Rests ws others least next a → (writes : List ℕ → List Write) × FindsOpenable ws o.log o.tables.each o.tables.columns writes b
  finds others least next tells rests =
      let started : StartEnded (names_of ws) a b (opened_leaf (names_of ws) o) o.way = subst (λ (names : List (List ℕ)). StartEnded names a b (opened_leaf names o) o.way) (sym (watch_names x seated)) (is.told tells) in
      found ws others least next a b o rests (is.made tells) started (is.durable tells)

  found_bare : IsTrue a.tells → AllByRecursion IsBare o.tables.each
  found_bare tells = come_bare x.names a.held.region b.held.disk (opened_leaf x.names o) o.way (is.told tells).come

  -- what is found may be handed in, at each place
  founded_hand : AreFounded x → (writes : List ℕ → List Write) → FindsOpenable ws o.log o.tables.each o.tables.columns writes b
      → AllByRecursion IsBare o.tables.each
      → (place : ℕ) (t : Shared) (v : SeatView) (table : Table) → slice_get x.tables place ≡ Some t → slice_get x.seats place ≡ Some v → slice_get o.tables.each place ≡ Some table
      → MayHandIn (is_founded (base_seen t)) (state_seen (base_seen t) v) table.writes table
  founded_hand founded writes has bare place t v table here sat at =
      let there : slice_get ws place ≡ Some (watched t v) = watch_get x place t v here sat in
      let is_base : is_founded (base_seen t) ≡ true = watch_all (λ (u : Shared). is_founded (base_seen u) ≡ true) x.tables place t founded here in
      hand_in (is_founded (base_seen t)) (state_seen (base_seen t) v) table
      (watch_all (λ (u : Table). u.pending ≡ None) o.tables.each place table is.fresh.0 at)
      (watch_all (λ (u : Table). u.writes < 2 ^ 63) o.tables.each place table is.room at)
      (bare_few (is_founded (base_seen t)) (state_seen (base_seen t) v).spare (history.first_writes (state_seen (base_seen t) v) table.writes) table (watch_all IsBare o.tables.each place table bare at))
      (may_hold t v (writes (name_of t)) table is_base (has.contents place (watched t v) table there at) (openable ws o.log writes b place (watched t v) has.may there))

  other_hand : AllByRecursion (λ (t : Shared). is_founded (base_seen t) ≡ false) x.tables
      → (place : ℕ) (t : Shared) (v : SeatView) (table : Table) → slice_get x.tables place ≡ Some t → slice_get x.seats place ≡ Some v → slice_get o.tables.each place ≡ Some table
      → MayHandIn (is_founded (base_seen t)) (state_seen (base_seen t) v) table.writes table
  other_hand none place t v table here sat at =
      let no_base : is_founded (base_seen t) ≡ false = watch_all (λ (u : Shared). is_founded (base_seen u) ≡ false) x.tables place t none here in
      hand_in (is_founded (base_seen t)) (state_seen (base_seen t) v) table
      (watch_all (λ (u : Table). u.pending ≡ None) o.tables.each place table is.fresh.0 at)
      (watch_all (λ (u : Table). u.writes < 2 ^ 63) o.tables.each place table is.room at)
      (λ founded. absurd (false≢true (sym no_base ∙ founded)))
      (subst (λ (b : Bool). OpenAllowed b (state_seen (base_seen t) v) table.writes table.contents) (sym no_base) tt)

  pub may_hand : AreAlike x → DownStands x a
      → (place : ℕ) (t : Shared) (v : SeatView) (table : Table) → slice_get x.tables place ≡ Some t → slice_get x.seats place ≡ Some v → slice_get o.tables.each place ≡ Some table
      → MayHandIn (is_founded (base_seen t)) (state_seen (base_seen t) v) table.writes table
  may_hand (inl founded) stands =
      let stood = stands founded in
      let has = finds stood.1.0 stood.1.1 stood.1.2 stood.0 stood.1.3 in
      founded_hand founded has.0 has.1 (found_bare stood.0)
  may_hand (inr none) stands = other_hand none

  -- and each comes to at most a column for each row and each cell that its first writes add, and the spare ones
  founded_few : AreFounded x → (writes : List ℕ → List Write) → FindsOpenable ws o.log o.tables.each o.tables.columns writes b
      → (place : ℕ) (t : Shared) (v : SeatView) (table : Table) (n : ℕ) → slice_get x.tables place ≡ Some t → slice_get x.seats place ≡ Some v → slice_get o.tables.each place ≡ Some table
      → slice_get o.tables.columns place ≡ Some n → n ≤ (state_seen (base_seen t) v).spare + added_count (history.first_writes (state_seen (base_seen t) v) table.writes)
  founded_few founded writes has place t v table n here sat at counted =
      let w : Watched = watched t v in
      let there : slice_get ws place ≡ Some w = watch_get x place t v here sat in
      let is_base : is_founded (base_seen t) ≡ true = watch_all (λ (u : Shared). is_founded (base_seen u) ≡ true) x.tables place t founded here in
      let sound : IsFoundation (now_of w) = now_sound b.clock w (each_at (IsWatched b.clock) ws has.may.watched.each place w there) in
      let first : history.first_writes (now_of w) table.writes ≡ writes (name_of t) =
      first_is (now_of w) (writes (name_of t)) table.writes sound.handed_in (has.may.each place w there).front (has.contents place w table there at).count in
      let seen : history.first_writes (state_seen (base_seen t) v) table.writes ≡ writes (name_of t) =
      subst (λ (s : HistoryState). history.first_writes s table.writes ≡ writes (name_of t)) (now_seen t v is_base) first in
      let found = has.few place w n there counted in
      omega (arith, found, ap added_count seen, ap (λ (s : HistoryState). s.spare) (now_seen t v is_base))

  pub may_few : AreAlike x → DownStands x a
      → (place : ℕ) (t : Shared) (v : SeatView) (table : Table) (n : ℕ) → slice_get x.tables place ≡ Some t → slice_get x.seats place ≡ Some v → slice_get o.tables.each place ≡ Some table
      → slice_get o.tables.columns place ≡ Some n → is_founded (base_seen t) ≡ true → n ≤ (state_seen (base_seen t) v).spare + added_count (history.first_writes (state_seen (base_seen t) v) table.writes)
  may_few (inl founded) stands place t v table n here sat at counted is_base =
      let stood = stands founded in
      let has = finds stood.1.0 stood.1.1 stood.1.2 stood.0 stood.1.3 in
      founded_few founded has.0 has.1 place t v table n here sat at counted
  may_few (inr none) stands place t v table n here sat at counted is_base =
      absurd (false≢true (sym (watch_all (λ (u : Shared). is_founded (base_seen u) ≡ false) x.tables place t none here) ∙ is_base))

  -- and then it runs
  module _ (y : Seated) (notes : List Note) (makes : Makes b.clock b.clock x notes y) (each : OpenedNotes 0 o.tables.each notes) where
    opens_found : AreFounded x → (owner : ℕ) (writes : List ℕ → List Write) → FindsOpenable ws o.log o.tables.each o.tables.columns writes b → Opens ws (watched_by y) owner o.log writes b
    opens_found founded owner writes has =
        let all : OpensAll b.clock writes ws (watched_by y) =
        makes_opens b.clock x o.tables.each writes notes y seated founded makes each opened_count (λ place w there. now_sound b.clock w (each_at (IsWatched b.clock) ws has.may.watched.each place w there))
        (λ place w t there at. (has.contents place w t there at).count) has.may.each in
        opens ws (watched_by y) owner o.log writes b has.may (some_watched x seated) all

    start_runs : AreFounded x → (owner : ℕ) (others : NamedStates) (least : List ℕ → List Write) (next : Option LogRecord) → IsTrue a.tells → Rests ws others least next a
        → ((writes : List ℕ → List Write) × Runs (watched_by y) owner o.log writes b) × Told others ws (watched_by y) a b
    start_runs founded owner others least next tells rests =
        let has = finds others least next tells rests in
        let open_ : Opens ws (watched_by y) owner o.log has.0 b = opens_found founded owner has.0 has.1 in (
          (has.0, open_.runs),
          told_join others ws ws (watched_by y) a b b (opening_told ws others least next a b (Ok o) rests (is.made tells)) (runs_told ws (watched_by y) others owner o.log has.0 b open_.runs open_.more),
        )

    -- what the leaf then is
    pub up_is : IsDown x a → AtEach (λ place t v. SeesOpen t v) y → AtEach (λ place t v. Spares 1000 t v) y → IsUp (record { seated = y; owing = begun_log o.log }) b
    up_is down open_ spares = record {
      opened = open_;
      spares = λ place t v here sat. omega (arith, spares place t v here sat);
      spares_owed = none_owed _ o.log.owed is.fresh.1;
      owed = none_owed _ o.log.owed is.fresh.1;
      stands = λ founded_now.
          let founded : AreFounded x = founded_as y x (sym (makes_tables b.clock b.clock x notes y makes)) founded_now in
          let stood = down.stands founded in
          (subst IsTrue (sym is.time.tells) stood.0, (start_runs founded 0 stood.1.0 stood.1.1 stood.1.2 stood.0 stood.1.3).0);
    }

-- all that such a start does
pub ok_starts : {B : Type 0} (meaning : B → Meaning) (x : Seated) (before after : B) (o : Opened) (y : Seated) (notes : List Note) → AreSeated x → AtEach (λ place t v. IsFresh v) x
    → Finds x.names (Ok o) (meaning before) (meaning after) → Makes (meaning after).clock (meaning after).clock x notes y → OpenedNotes 0 o.tables.each notes
    → Started meaning x before notes (Ok ((record { seated = y; owing = begun_log o.log }, after), o.way))
ok_starts meaning x before after o y notes seated fresh is makes each = record {
  start = (
    fresh,
    makes_names (meaning after).clock (meaning after).clock x notes y makes,
    makes_tables (meaning after).clock (meaning after).clock x notes y makes,
    is.fresh.1,
    subst (λ (n : ℕ). EachNoted IsOpenedNote 0 n notes) (opened_count x seated (meaning before) (meaning after) o is) (opened_each 0 o.tables.each notes each),
  );
  made = makes_since (meaning before).clock (meaning after).clock (meaning after).clock x notes y is.time.later makes;
  came = λ tells. record { served = opened_leaf x.names o; started = is.told tells; log = refl; noted = each };
  way = is.way;
  refused = λ tells. tt;
  exact = is.exact;
  disk = λ tells. (is.made tells).held;
  crash = λ others least next tells founded rests. start_runs x seated (meaning before) (meaning after) o is y notes makes each founded 0 others least next tells rests;
  time = is.time;
  region_cause = tt;
  disk_cause = tt;
  reads = is.reads;
}
