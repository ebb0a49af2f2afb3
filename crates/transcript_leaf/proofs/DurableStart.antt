-- A start of a leaf of which the log's counts are known: it opens each table with just so many writes, and these are
-- flushed then.
use Rattle.std.proofs.Common.{◌≡◌, ℕ, zero, suc, ◌+◌, List, [], ◌∷◌, length, map, Option, Some, None, refl, sym, ap, subst, ◌∙◌, arith}
use Rattle.std.specs.Prelude.{slice_get}
use Rattle.table_state.specs.Tables.{HeldTables, Table}
use Rattle.berth_face.specs.Berth.{Meaning}
use Rattle.row_records.specs.Records.{LogRecord}
use Rattle.leaf_model.specs.declared.writes.Write.{Write}
use Rattle.disk_backup.proofs.Logs.{closed_is_log}
use Rattle.region_head.specs.declared.head.Head.{Head}
use Rattle.region_head.specs.declared.head.Head.TheVariants.{Version}
use Rattle.region_head.specs.Head.{head_of}
use Rattle.region_layout.specs.Images.{TableImage}
use Rattle.region_layout.specs.Images as images
use Rattle.region_layout.specs.ImageWrites.{AreImagesOf}
use Rattle.region_layout.specs.Region.{reads}
use Rattle.region_layout.proofs.Images.{one_tables}
use Rattle.log_recovery.specs.Recovery as recovery
use Rattle.leaf_words.specs.declared.ways.Way.{Way}
use Rattle.leaf_words.specs.declared.ways.Way.TheVariants.{Memory, Disk}
use Rattle.leaf_opening.specs.OpenedLeaf.{OpenedLeaf}
use Rattle.leaf_opening.specs.Starts.{IsCome, disk_after}
use Rattle.leaf_opening.proofs.Regions.{closed_no_image}
use Rattle.crash_moments.specs.Left.{NamedStates, RegionLeft, closed, other_version, image}
use Rattle.crash_moments.specs.Watched.{Watched}
use Rattle.crash_states.specs.Standing.{Rests, states_of_tables}
use Rattle.leaf_table.specs.Turns.{Shared}
use Rattle.leaf_table.specs.Calls.{base_seen, name_of}
use Rattle.leaf_words.specs.declared.note.Note.{Note}
use Rattle.leaf_words.specs.declared.note.What.{What}
use Rattle.leaf_words.specs.declared.note.What.TheVariants as what
use Rattle.leaf_steward.specs.Seated.{Seated, watched_by}
use Rattle.leaf_steward.specs.Making.{MadeAs, OpenedNotes}
use Rattle.leaf_steward.proofs.Keeping.{makes_tables}
use Rattle.leaf_steward.proofs.WatchMakes.{MadeAt, NotedAs, Went, makes_went}
use Rattle.leaf_machine.specs.States.{Serving}
use Rattle.printed_lines.specs.declared.line.Ending.{Ending}
use Rattle.transcript.specs.Base.{LogHas}
use Rattle.transcript.specs.Life.{NotesFrom, durable_after, durable_by}
use Rattle.transcript.specs.Transcript.{Known}
use Rattle.leaf_moves.specs.Stage.{Leaf, IsDown, IsUp, Carries}
use Rattle.leaf_moves.specs.Steps.{StartMoves, StartsTold}
use Rattle.transcript_leaf.specs.Session.{HaveKnownBase, AreInPlace, AtCounts, IsDurable, IsSettled, StandsKnown}
use Rattle.transcript_leaf.proofs.Lists.{clash_bool, element_at, get_map, length_mapped, same_some, within}
use Rattle.transcript_leaf.proofs.Counting.{IsOf, settled_opened}
use Rattle.transcript_leaf.proofs.CountingNotes.{AreStewards, as_many, seat_there, set_same, tables_founded}
use Rattle.transcript_leaf.proofs.CountingLogs.{has_begins, has_begun, one_count}
use Rattle.transcript_leaf.proofs.CountingGiven.{Given, left_alone, of_leaves, counts_same}

-- ---- what a start finds

-- each table has as many writes as the disk's log has of its name
record AreFound (names : List (List ℕ)) (disk : List ℕ) (tables : List Table) : Type 0 where
  table : List ℕ → Table
  are : tables ≡ map table names
  has : (name : List ℕ) → LogHas disk name (table name).writes

-- by the image of a region: it has what the log has
from_image : (base : NamedStates) (ws : List Watched) (least : List ℕ → List Write) (next : Option LogRecord) (m : Meaning) (names : List (List ℕ)) (disk : List ℕ) (s : OpenedLeaf)
    → Rests ws base least next m → IsCome names m.held.region disk s Memory → AreFound names m.held.disk s.tables
from_image base ws least next m names disk s rests come = by (rests.region m.held rests.stands.reads)
  where
    version_is : (h : Head) (version other : ℕ) → h ≡ Version version → h ≡ Version other → version ≡ other
    version_is h version other e f = cc

    by : RegionLeft reads (states_of_tables base ws m) m.held → AreFound names m.held.disk s.tables
    by (closed shut) = absurd (closed_no_image m.held.region shut come.0 come.1 come.2)
    by (other_version version head other) = absurd (clash_bool (reads version) (ap (λ (v : ℕ). reads v) (version_is (head_of m.held.region) version come.2.version head come.2.is.has.head) ∙ come.2.reads_it) other)
    by (image version found log_end reads_it is had log) =
        let same : found ≡ come.0 = one_tables m.held.region found come.0 log_end come.1 (record { version = version; reads_it = reads_it; is = is }) come.2 in
        let writes_are : AreImagesOf (λ name. (states_of_tables base ws m name).spare) (λ name. (states_of_tables base ws m name).writes) come.0 = subst (λ (ts : List TableImage). AreImagesOf (λ name. (states_of_tables base ws m name).spare) (λ name. (states_of_tables base ws m name).writes) ts) same had in
        record {
          table = λ name. images.table_of (images.table_named come.0 name);
          are = ap (λ (h : HeldTables). h.each) come.4;
          has = λ name. (log.0, log_end, closed_is_log m.held.disk log.0 log_end log.1, (writes_are name).count ∙ sym (ap (λ (ws : List Write). length ws) (log.2 name)));
        }

-- by the log itself
from_log : (names : List (List ℕ)) (disk : List ℕ) (s : OpenedLeaf) → recovery.IsRecovered names disk s.tables s.log → AreFound names disk s.tables
from_log names disk s r = record {
  table = recovery.recovered_table r.records;
  are = r.tables_are;
  has = λ name. (r.records, s.log.end, closed_is_log disk r.records s.log.end r.closed, refl);
}

found_by : (base : NamedStates) (ws : List Watched) (least : List ℕ → List Write) (next : Option LogRecord) (m : Meaning) (names : List (List ℕ)) (disk : List ℕ) (s : OpenedLeaf) (way : Way)
    → Rests ws base least next m → IsCome names m.held.region disk s way → disk ≡ disk_after way m.held.disk → AreFound names disk s.tables
found_by base ws least next m names disk s Memory rests come left =
    subst (λ (d : List ℕ). AreFound names d s.tables) (sym left) (from_image base ws least next m names disk s rests come)
found_by base ws least next m names disk s (Disk why) rests come left = from_log names disk s come.1

-- what it leaves of the disk has the same log
has_after : (way : Way) (disk name : List ℕ) (a : ℕ) → LogHas disk name a → LogHas (disk_after way disk) name a
has_after Memory disk name a has = has
has_after (Disk why) disk name a has = has_begun disk name a has

-- ---- notes of openings

notes_opened : (place : ℕ) (counts : List ℕ) (ts : List Table) (notes : List Note) → length counts ≡ length ts
    → ((i n : ℕ) (u : Table) → slice_get counts i ≡ Some n → slice_get ts i ≡ Some u → n ≡ u.writes)
    → OpenedNotes place ts notes → NotesFrom place (map what.Opened counts) notes
notes_opened place [] [] notes count each h = subst (λ (ns : List Note). NotesFrom place [] ns) (sym h) tt
notes_opened place [] (t ∷ ts) notes count each h = absurd (omega (arith, count))
notes_opened place (n ∷ ns) [] notes count each h = absurd (omega (arith, count))
notes_opened place (n ∷ ns) (t ∷ ts) [] count each h = absurd h
notes_opened place (n ∷ ns) (t ∷ ts) (note ∷ notes) count each h = (
  h.0,
  h.1 ∙ ap (λ (k : ℕ). what.Opened k) (sym (each zero n t refl refl)),
  notes_opened (suc place) ns ts notes (omega (arith, count)) (λ i k u at is. each (suc i) k u at is) h.2,
)

-- opened with as many writes as are counted in that place
abbrev IsOpenedWith : List ℕ → ℕ → What → Type 0
IsOpenedWith counts place w = (n : ℕ) × (slice_get counts place ≡ Some n) × (w ≡ what.Opened n)

none_before : (i : ℕ) → i ≡ 0 + i
none_before i = omega arith

plus_none : (n : ℕ) → n + 0 ≡ n
plus_none n = omega arith

plus_next : (n i : ℕ) → n + suc i ≡ suc n + i
plus_next n i = omega arith

-- these counts are some of all, from a place on
abbrev IsPart : List ℕ → ℕ → List ℕ → Type 0
IsPart all place counts = (i n : ℕ) → slice_get counts i ≡ Some n → slice_get all (place + i) ≡ Some n

part_first : (all : List ℕ) (place n : ℕ) (ns : List ℕ) → IsPart all place (n ∷ ns) → slice_get all place ≡ Some n
part_first all place n ns part = subst (λ (k : ℕ). slice_get all k ≡ Some n) (plus_none place) (part zero n refl)

part_rest : (all : List ℕ) (place n : ℕ) (ns : List ℕ) → IsPart all place (n ∷ ns) → IsPart all (suc place) ns
part_rest all place n ns part = λ i k at. subst (λ (j : ℕ). slice_get all j ≡ Some k) (plus_next place i) (part (suc i) k at)

part_all : (all : List ℕ) → IsPart all 0 all
part_all all = λ i n at. subst (λ (k : ℕ). slice_get all k ≡ Some n) (none_before i) at

noted_as : (all : List ℕ) (place : ℕ) (counts : List ℕ) (notes : List Note) → IsPart all place counts → NotesFrom place (map what.Opened counts) notes
    → NotedAs (IsOpenedWith all) place (length counts) notes
noted_as all place [] [] part h = refl
noted_as all place [] (note ∷ notes) part h = absurd h
noted_as all place (n ∷ ns) [] part h = absurd h
noted_as all place (n ∷ ns) (note ∷ notes) part h = (
  length ns,
  refl,
  h.0,
  (n, part_first all place n ns part, h.1),
  noted_as all (suc place) ns notes (part_rest all place n ns part) h.2,
)

-- what is opened with its count keeps it
opened_still : (all : List ℕ) (place : ℕ) (counts : List ℕ) (notes : List Note) → IsPart all place counts → NotesFrom place (map what.Opened counts) notes → durable_after all notes ≡ all
opened_still all place [] [] part h = refl
opened_still all place [] (note ∷ notes) part h = absurd h
opened_still all place (n ∷ ns) [] part h = absurd h
opened_still all place (n ∷ ns) (note ∷ notes) part h =
    let by_place : durable_by all note.table note.what ≡ durable_by all place note.what = ap (λ (p : ℕ). durable_by all p note.what) h.0 in
    let by_what : durable_by all place note.what ≡ durable_by all place (what.Opened n) = ap (λ s. durable_by all place s) h.1 in
    let step : durable_by all note.table note.what ≡ all = by_place ∙ (by_what ∙ set_same all place n (part_first all place n ns part)) in
    ap (λ (cs : List ℕ). durable_after cs notes) step ∙ opened_still all (suc place) ns notes (part_rest all place n ns part) h.2

-- ---- a start

-- it opens each table with just the writes that are counted
pub opened_counts : (names : List (List ℕ)) (k : Known) (counts : List ℕ) (m m' : Meaning) (x : Seated) (s : Serving) (notes : List Note) (way : Way)
    → AreInPlace names x → HaveKnownBase (Some k) x → StandsKnown k (IsDown x) m → IsDurable k.base counts (IsDown x) m → StartsTold x m m' s notes way
    → (length counts ≡ length x.tables) × NotesFrom 0 (map what.Opened counts) notes
opened_counts names k counts m m' x s notes way in_place known_base known durable told =
    (durable.0, notes_opened 0 counts served.tables notes count each told.came.noted)
  where
    served : OpenedLeaf
    served = told.came.served

    found : AreFound x.names m'.held.disk served.tables
    found = found_by k.base (watched_by x) known.stands.0 known.stands.1 m x.names m'.held.disk served way known.stands.2 told.came.started.come told.came.started.disk

    count : length counts ≡ length served.tables
    count = durable.0 ∙ as_many names x.tables in_place.named ∙ sym (ap (λ (ns : List (List ℕ)). length ns) in_place.same_names)
        ∙ sym (length_mapped found.table x.names) ∙ sym (ap (λ (ts : List Table). length ts) found.are)

    each : (i n : ℕ) (u : Table) → slice_get counts i ≡ Some n → slice_get served.tables i ≡ Some u → n ≡ u.writes
    each i n u at is =
        let t = element_at x.tables i (omega (arith, within counts i n at, durable.0)) in
        let v = seat_there names x in_place i t.0 t.1 in
        let name = name_of t.0 in
        let had : LogHas m.held.disk name n = durable.1 i t.0 v.0 t.1 v.1 n at in
        let now : LogHas m'.held.disk name n = subst (λ (d : List ℕ). LogHas d name n) (sym told.came.started.disk) (has_after way m.held.disk name n had) in
        let named : slice_get x.names i ≡ Some name = ap (λ (ns : List (List ℕ)). slice_get ns i) (in_place.same_names ∙ sym in_place.named) ∙ get_map name_of x.tables i t.0 t.1 in
        let there : slice_get served.tables i ≡ Some (found.table name) = ap (λ (ts : List Table). slice_get ts i) found.are ∙ get_map found.table x.names i name named in
        let same : found.table name ≡ u = same_some (found.table name) u (sym there ∙ is) in
        one_count m'.held.disk name n (found.table name).writes now (found.has name) ∙ ap (λ (w : Table). w.writes) same

-- and these are flushed then
pub opened_durable : (names : List (List ℕ)) (k : Known) (counts : List ℕ) (m m' : Meaning) (x : Seated) (s : Serving) (notes : List Note) (way : Way)
    → AreInPlace names x → HaveKnownBase (Some k) x → AreStewards x → StandsKnown k (IsDown x) m → Carries (IsDown x) (IsUp s) notes m m' → s.owing.log.owed ≡ None
    → StartsTold x m m' s notes way → NotesFrom 0 (map what.Opened counts) notes → length counts ≡ length x.tables
    → IsDurable k.base counts (IsUp s) m'
opened_durable names k counts m m' x s notes way in_place known_base stewards known carries none told noted count =
    (count ∙ sym (ap (λ (ts : List Shared). length ts) same_tables), none, settled)
  where
    same_tables : s.seated.tables ≡ x.tables
    same_tables = makes_tables m.clock m'.clock x notes s.seated carries.made

    went : Went (IsOpenedWith counts) m.clock m'.clock 0 (length counts) x s.seated
    went = makes_went (IsOpenedWith counts) m.clock m'.clock 0 (length counts) x notes s.seated carries.made (noted_as counts 0 counts notes (part_all counts) noted)

    settled : AtCounts (IsSettled k.base) s.seated counts
    settled place t w at now n e =
        let there : slice_get x.tables place ≡ Some t = ap (λ (ts : List Shared). slice_get ts place) (sym same_tables) ∙ at in
        let v = seat_there names x in_place place t there in
        let one : MadeAt (IsOpenedWith counts) m.clock m'.clock place t v.0 w = went.noted place t v.0 w (omega arith) (omega (arith, within counts place n e)) there v.1 now in
        let same : one.noted.0 ≡ n = same_some one.noted.0 n (sym one.noted.1 ∙ e) in
        let made : MadeAs (base_seen t) one.clock v.0 (what.Opened one.noted.0) w = subst (λ (u : What). MadeAs (base_seen t) one.clock v.0 u w) one.noted.2 one.made in
        let of : IsOf k.base t = record { founded = tables_founded names x in_place k.base known_base place t there; sound = known.sound (name_of t) } in
        subst (λ (c : ℕ). IsSettled k.base t w c) same (settled_opened k.base t one.clock v.0 w of (stewards place v.0 v.1) one.noted.0 made)

module _ (names : List (List ℕ)) (k : Known) (counts : List ℕ) (m m' : Meaning) (notes : List Note) where
  abbrev Later : Leaf → Type 0
  Later leaf' = IsDurable k.base (durable_after counts notes) leaf' m'

  -- a start that opens the tables
  start_opened : (x : Seated) (s : Serving) (way : Way) → s.owing.log.owed ≡ None → StartsTold x m m' s notes way → Given names k counts m m' notes (IsDown x) (IsUp s)
      → Later (IsUp s)
  start_opened x s way none told g =
      let noted = opened_counts names k counts m m' x s notes way g.in_place g.known_base g.known g.durable told in
      let same : durable_after counts notes ≡ counts = opened_still counts 0 counts notes (part_all counts) noted.1 in
      subst (λ (cs : List ℕ). IsDurable k.base cs (IsUp s) m') (sym same)
      (opened_durable names k counts m m' x s notes way g.in_place g.known_base g.stewards g.known g.carries none told noted.1 noted.0)

  pub start_moves : (leaf : Leaf) (ends : Ending) (leaf' : Leaf) → StartMoves m m' leaf notes ends leaf' → Given names k counts m m' notes leaf leaf' → Later leaf'
  start_moves leaf ends leaf' (StartMoves.opened x s way down none each told is up) g =
      of_leaves names k counts m m' notes leaf leaf' (IsDown x) (IsUp s) down up (λ h. start_opened x s way none (told g.known.tells) h) g
  start_moves leaf ends leaf' (StartMoves.refused x f down worn undamaged told nothing is same) g =
      of_leaves names k counts m m' notes leaf leaf' (IsDown x) (IsDown x) down (same ∙ down) (λ h.
      subst (λ (cs : List ℕ). IsDurable k.base cs (IsDown x) m') (sym (counts_same names k counts m m' notes nothing))
      (h.durable.0, λ place t v at was n e. has_begins m.held.disk m'.held.disk (name_of t) n (told h.known.tells).disk (h.durable.1 place t v at was n e))) g
  start_moves leaf ends leaf' (StartMoves.not_down up nothing held is same) g = left_alone names k counts m m' notes leaf leaf' g nothing held same
