-- What a leaf that rests finds when it opens: the writes of each table, which it may be opened with.
use Rattle.std.proofs.Common.{◌≡◌, inl, inr, ◌∙◌, ℕ, ◌+◌, ◌≤◌, false, List, [], map, length, Option, Some, None, option_map, refl, sym, ap, subst, arith}
use Rattle.std.specs.Prelude.{slice_get}
use Rattle.std.proofs.lemmas.Bool.{false≢true}
use Rattle.std.proofs.lemmas.List.{length-append, length-take, take_all}
use Rattle.std.proofs.lemmas.Option.{same_Some, slice_get-map}
use Rattle.leaf_model.specs.declared.writes.Write.{Write}
use Rattle.leaf_model.specs.Content.{content}
use Rattle.row_records.specs.Records.{LogRecord}
use Rattle.berth_face.specs.Berth.{Pair, Meaning, IsClosed, Passes, Ended, SameDisk}
use Rattle.berth_face.specs.Moments.{EachNow}
use Rattle.table_state.specs.Tables.{HeldTables, Table, added_count}
use Rattle.region_head.specs.declared.head.Head.TheVariants.{Version}
use Rattle.region_layout.specs.Images.{TableImage, image_names, table_named, table_of}
use Rattle.region_layout.specs.Images as layout
use Rattle.region_layout.specs.ImageWrites.{AreImagesOf}
use Rattle.region_layout.specs.Region.{IsAdoptable, reads}
use Rattle.region_layout.proofs.Images.{one_tables, one_log_end}
use Rattle.leaf_words.specs.declared.ways.WhyDisk.{WhyDisk}
use Rattle.adopt.specs.Adopting.{IsLeftBehind}
use Rattle.region_strangers.specs.Strangers.{stranger_of}
use Rattle.disk_backup.specs.Logs.{ClosedLog, writes_of}
use Rattle.disk_backup.specs.State.{LogState}
use Rattle.disk_backup.specs.Scanning.{scanned_disk}
use Rattle.disk_backup.specs.Settling.{HasLog, HoldsLog, HaveLog, with_writes}
use Rattle.log_recovery.specs.Recovery.{AreFew, IsRecovered}
use Rattle.log_recovery.specs.Recovery as recovery
use Rattle.leaf_history.specs.History.{HistoryState}
use Rattle.leaf_words.specs.declared.ways.Way.{Way}
use Rattle.leaf_words.specs.declared.ways.Way.TheVariants.{Memory, Disk}
use Rattle.leaf_opening.specs.OpenedLeaf.{OpenedLeaf}
use Rattle.disk_backup.specs.SoundLogs.{HasSoundLog}
use Rattle.leaf_opening.proofs.Strangers.{is_one_of, no_writes_read, no_writes_there}
use Rattle.leaf_opening.specs.Starts.{IsCome, disk_after}
use Rattle.leaf_opening.proofs.Regions.{left_closed, closed_no_image}
use Rattle.disk_backup.proofs.SoundLogs.{same_writes}
use Rattle.leaf_opening.proofs.Places.{table_at}
use Rattle.leaf_opening.proofs.Origins.{log_at}
use Rattle.crash_moments.specs.Left.{NamedStates, RegionLeft, closed, other_version, image}
use Rattle.crash_moments.specs.Watched.{Watched, is_watched, now_of, others_then, was_opened}
use Rattle.crash_states.specs.Standing.{StandsNow, Rests, IsKept, MayHave, states_of_tables}
use Rattle.crash_states.proofs.Names.{named_at}
use Rattle.crash_states.proofs.States.{with_more}
use Rattle.crash_starting.specs.Laws.{FindsOpenable, HasContent, names_of}
use Rattle.crash_starting.proofs.Watching.{watched_later, name_at, named_alike}

-- ---- with which writes a kept table may be opened

longer : (next : Option LogRecord) (writes : List ℕ → List Write) (name : List ℕ) → length (writes name) ≤ length (with_writes next writes name)
longer next writes name =
    let more = with_more next writes name in
    omega (arith, ap (λ (l : List Write). length l) more.1, length-append (writes name) more.0)

may_have_least : (least most : List Write) (s : HistoryState) → IsKept least most s → MayHave least s
may_have_least least most s kept = record { shut = kept.shut; flushed = kept.flushed; front = kept.shortest; handed = λ handed. (kept.handed handed).0 }

may_have_most : (least most : List Write) (s : HistoryState) → length least ≤ length most → IsKept least most s → MayHave most s
may_have_most least most s more kept = record { shut = kept.shut; flushed = omega (arith, kept.flushed, more); front = kept.longest; handed = λ handed. (kept.handed handed).1 }

may_have_all : (least most : List Write) (s : HistoryState) → IsKept least most s → MayHave s.writes s
may_have_all least most s kept = record {
  shut = kept.shut;
  flushed = omega (arith, kept.flushed, ap (λ (l : List Write). length l) kept.shortest, length-take (length least) s.writes);
  front = sym (take_all (length s.writes) s.writes (omega arith));
  handed = λ handed. refl;
}

-- ---- a region that is an image

same_version : (u v : ℕ) → Version u ≡ Version v → u ≡ v
same_version u v same = cc

-- it is one of the tables, beside a log that has all of them
whole_image : (tables : NamedStates) (p : Pair) (images : List TableImage) (log_end : ℕ) → IsAdoptable p.region images log_end → RegionLeft reads tables p
    → AreImagesOf (λ name. (tables name).spare) (λ name. (tables name).writes) images × HasLog (λ name. (tables name).writes) log_end p.disk
whole_image tables p images log_end is (closed shut) = absurd (closed_no_image p.region shut images log_end is)
whole_image tables p images log_end is (other_version version head other) =
    absurd (false≢true (sym other ∙ ap reads (same_version version is.version (sym head ∙ is.is.has.head)) ∙ is.reads_it))
whole_image tables p images log_end is (image version those end reads_it is_those are had) =
    let that : IsAdoptable p.region those end = record { version = version; reads_it = reads_it; is = is_those } in (
      subst (AreImagesOf (λ name. (tables name).spare) (λ name. (tables name).writes)) (one_tables p.region those images end log_end that is) are,
      subst (λ (e : ℕ). HasLog (λ name. (tables name).writes) e p.disk) (one_log_end p.region those images end log_end that is) had,
    )

-- ---- how many columns

-- the count at a name's place is the one that is told of the name
count_at : (told : List ℕ → ℕ) (names : List (List ℕ)) (columns : List ℕ) (place : ℕ) (name : List ℕ) (n : ℕ) → columns ≡ map told names → slice_get names place ≡ Some name → slice_get columns place ≡ Some n → n ≡ told name
count_at told names columns place name n is named found =
    same_Some n (told name) (sym found ∙ ap (λ (l : List ℕ). slice_get l place) is ∙ slice_get-map told names place ∙ ap (λ (o : Option (List ℕ)). option_map told o) named)

-- each table that was found has at most a column for each row and each cell that its writes add, and the spare ones
abbrev AreFound : List Watched → List ℕ → (List ℕ → ℕ) → (List ℕ → List Write) → Type 0
AreFound ws columns spare writes = (place : ℕ) (w : Watched) (n : ℕ) → slice_get ws place ≡ Some w → slice_get columns place ≡ Some n → n ≤ spare w.name + added_count (writes w.name)

in_image : (ws : List Watched) (columns : List ℕ) (images : List TableImage) (spare : List ℕ → ℕ) (writes : List ℕ → List Write) → AreImagesOf spare writes images
    → columns ≡ map (λ name. (table_named images name).columns) (names_of ws) → AreFound ws columns spare writes
in_image ws columns images spare writes same are = λ place w n at there.
    let count = count_at (λ name. (table_named images name).columns) (names_of ws) columns place w.name n are (name_at ws place w at) there in
    omega (arith, count, (same w.name).few)

in_records : (ws : List Watched) (columns : List ℕ) (records : List LogRecord) (spare : List ℕ → ℕ) (writes : List ℕ → List Write) → ((name : List ℕ) → writes_of name records ≡ writes name)
    → AreFew (names_of ws) records columns → AreFound ws columns spare writes
in_records ws columns records spare writes same few = λ place w n at there. omega (arith, few place w.name n (name_at ws place w at) there, ap added_count (same w.name))

module _ (ws : List Watched) (others : NamedStates) (least : List ℕ → List Write) (next : Option LogRecord) (a b : Meaning) (rests : Rests ws others least next a)
    (passes : Passes a b) (stands : StandsNow b) (region : IsLeftBehind a.held.region b.held.region) where
  abbrev tables : NamedStates
  tables = states_of_tables others ws a

  all_closed : EachNow (λ p. IsClosed p.region) b
  all_closed p left = elim (stands.regions p left) [
    | inl same ↦ subst IsClosed (sym same) (left_closed a.held.region b.held.region region)
    | inr shut ↦ shut
  ]

  other_name : (name : List ℕ) → is_watched ws name ≡ false → is_one_of (names_of ws) name ≡ false
  other_name name unwatched = named_alike ws name ∙ unwatched

  -- the tables that were made of these writes may be opened
  finds : (log : LogState) (opened : List Table) (columns : List ℕ) (make : List ℕ → Table) (writes : List ℕ → List Write) → log.owed ≡ None → HaveLog log writes b
      → ((name : List ℕ) → MayHave (writes name) (tables name)) → ((name : List ℕ) → is_watched ws name ≡ false → writes name ≡ [])
      → opened ≡ map make (names_of ws) → ((name : List ℕ) → HasContent (writes name) (make name)) → AreFound ws columns (λ name. (tables name).spare) writes → FindsOpenable ws log opened columns writes b
  finds log opened columns make writes none have may unwatched are content few = record {
    may = record {
      watched = watched_later a.clock b.clock ws passes.later rests.watched;
      stands = stands;
      owed = none;
      logs = have;
      closed = all_closed;
      each = λ place w at. subst (MayHave (writes w.name)) (named_at now_of (others_then (was_opened a.clock ws) others) ws place w rests.watched.apart at) (may w.name);
      others = unwatched;
    };
    contents = λ place w t at there. subst (HasContent (writes w.name)) (sym (table_at make (names_of ws) opened place w.name t are (name_at ws place w at) there)) (content w.name);
    few = λ place w n at there.
        let spare : (tables w.name).spare ≡ (now_of w).spare = ap (λ (s : HistoryState). s.spare) (named_at now_of (others_then (was_opened a.clock ws) others) ws place w rests.watched.apart at) in
        omega (arith, few place w n at there, spare);
  }

  -- ---- out of the region

  whole_logs : (images : List TableImage) (log_end : ℕ) → IsAdoptable a.held.region images log_end → Ended SameDisk a b → HaveLog (log_at log_end) (λ name. (tables name).writes) b
  whole_logs images log_end is disks = λ p left.
      let came = disks p left in
      let had = (whole_image tables (record { region = a.held.region; disk = came.0.disk }) images log_end is (rests.region came.0 came.1)).1 in
      (had.0, subst (λ (d : List ℕ). ClosedLog had.0 log_end d) (sym came.2) had.1, had.2)

  found_in_image : (log : LogState) (opened : List Table) (columns : List ℕ) (images : List TableImage) (log_end : ℕ) → IsAdoptable a.held.region images log_end → stranger_of (names_of ws) (image_names images) ≡ None
      → record { each = opened; columns = columns } ≡ layout.held_of (names_of ws) images → log ≡ log_at log_end → Ended SameDisk a b → (writes : List ℕ → List Write) × FindsOpenable ws log opened columns writes b
  found_in_image log opened columns images log_end is known held log_is disks =
      let writes : List ℕ → List Write = λ name. (tables name).writes in
      let same : AreImagesOf (λ name. (tables name).spare) writes images = (whole_image tables a.held images log_end is (rests.region a.held rests.stands.reads)).0 in
      let made : FindsOpenable ws (log_at log_end) opened columns writes b = finds (log_at log_end) opened columns (λ name. table_of (table_named images name)) writes refl (whole_logs images log_end is disks)
      (λ name. may_have_all (least name) (with_writes next least name) (tables name) (rests.each name))
      (λ name unwatched. no_writes_there (names_of ws) name (other_name name unwatched) (λ n. (tables n).spare) writes images known same) (ap (λ (h : HeldTables). h.each) held)
      (λ name. record { contents = (same name).contents; count = (same name).count })
      (in_image ws columns images (λ name. (tables name).spare) writes same (ap (λ (h : HeldTables). h.columns) held)) in
      (writes, subst (λ (l : LogState). FindsOpenable ws l opened columns writes b) (sym log_is) made)

  -- ---- out of the log

  module _ (log : LogState) (opened : List Table) (columns : List ℕ) (read : IsRecovered (names_of ws) b.held.disk opened log) (few : AreFew (names_of ws) read.records columns)
      (disk : b.held.disk ≡ scanned_disk a.held.disk) (durable : EachNow (λ p. p.disk ≡ b.held.disk) b) where
    read_logs : (writes : List ℕ → List Write) → ((name : List ℕ) → writes_of name read.records ≡ writes name) → HaveLog log writes b
    read_logs writes same = λ p left.
        let whole : ClosedLog read.records log.end p.disk = subst (λ (d : List ℕ). ClosedLog read.records log.end d) (sym (durable p left)) read.closed in
        (read.records, subst (λ (l : LogState). HoldsLog l read.records p.disk) (sym read.log_is) whole, same)

    found_as : (writes : List ℕ → List Write) → HasSoundLog writes a.held.disk → ((name : List ℕ) → MayHave (writes name) (tables name)) → (writes : List ℕ → List Write) × FindsOpenable ws log opened columns writes b
    found_as writes had may =
        let same : (name : List ℕ) → writes_of name read.records ≡ writes name = same_writes writes a.held.disk had b.held.disk read.records log.end disk read.closed in (
          writes,
          finds log opened columns (recovery.recovered_table read.records) writes (ap (λ (l : LogState). l.owed) read.log_is) (read_logs writes same) may
              (λ name unwatched. sym (same name) ∙ no_writes_read (names_of ws) name (other_name name unwatched) read.records read.known) read.tables_are
              (λ name. record { contents = ap content (same name); count = ap (λ (l : List Write). length l) (same name) })
              (in_records ws columns read.records (λ name. (tables name).spare) writes same few),
        )

    -- the disk as it read had the shorter log or the longer one
    found_in_log : (writes : List ℕ → List Write) × FindsOpenable ws log opened columns writes b
    found_in_log = elim (rests.logs a.held rests.stands.reads) [
      | inl had ↦ found_as least had (λ name. may_have_least (least name) (with_writes next least name) (tables name) (rests.each name))
      | inr had ↦
          found_as (with_writes next least) had (λ name. may_have_most (least name) (with_writes next least name) (tables name) (longer next least name) (rests.each name))
    ]

  -- ---- either way

  pub found_by : (s : OpenedLeaf) (way : Way) → IsCome (names_of ws) a.held.region b.held.disk s way → b.held.disk ≡ disk_after way a.held.disk → (way ≡ Memory → Ended SameDisk a b)
      → ((w : WhyDisk) → way ≡ Disk w → EachNow (λ p. p.disk ≡ b.held.disk) b) → (writes : List ℕ → List Write) × FindsOpenable ws s.log s.tables s.columns writes b
  found_by s Memory come disk kept durable = found_in_image s.log s.tables s.columns come.0 come.1 come.2 come.3 come.4 come.5 (kept refl)
  found_by s (Disk w) come disk kept durable = found_in_log s.log s.tables s.columns come.1 come.2 disk (durable w refl)
