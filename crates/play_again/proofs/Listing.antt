-- Over a berth that has a base, a leaf may begin with one that is a list: of the names that the log has, as it reads or
-- with one record more.
use Rattle.std.proofs.Common.{◌≡◌, ◌⊎◌, inl, inr, ◌∙◌, ℕ, Bool, true, false, cond, List, [], ◌∷◌, ◌++◌, length, Option, Some, None, refl, sym, ap, subst, arith}
use Rattle.std.specs.Prelude.{bytes_eq}
use Rattle.std.proofs.lemmas.Bool.{false≢true}
use Rattle.std.proofs.lemmas.List.{nil_from_length, take_all}
use Rattle.std.proofs.lemmas.Slice.Eq.{bytes_eq-Decides}
use Rattle.leaf_model.specs.declared.writes.Write.{Write}
use Rattle.leaf_model.specs.Content.{content, nothing}
use Rattle.row_records.specs.Records.{LogRecord}
use Rattle.berth_face.specs.Berth.{Pair, Meaning}
use Rattle.leaf_history.specs.History.{HistoryState, base_of, no_base}
use Rattle.region_layout.specs.Images.{TableImage, contents_of, table_named}
use Rattle.region_layout.specs.ImageWrites.{AreImagesOf, IsImageOf}
use Rattle.region_layout.specs.Region.{IsImage, reads}
use Rattle.region_layout.proofs.Bare.{no_columns}
use Rattle.disk_backup.specs.Logs.{writes_of}
use Rattle.disk_backup.specs.Settling.{HasLog, with_writes}
use Rattle.disk_backup.specs.SoundLogs.{HasSoundLog}
use Rattle.crash_moments.specs.Left.{NamedStates, RegionLeft, closed, other_version, image}
use Rattle.crash_moments.specs.Watched.{IsFoundation}
use Rattle.crash_moments.proofs.Alike.{log_alike}
use Rattle.crash_states.specs.Standing.{IsKept, RegionRests, Rests, states_of_tables}
use Rattle.crash_states.proofs.Disks.{writes_more}
use Rattle.crash_states.proofs.States.{no_front, with_owed}
use Rattle.crash_states.specs.Beginning.{IsFrontOf, IsLeastSpare}
use Rattle.leaf_machine.proofs.CopyWatching.{nothing_sound}
use Rattle.leaf_machine.proofs.LeaveRests.{whole_most}
use Rattle.play.specs.Played.{BasesAreShut, IsBase}
use Rattle.play_again.specs.Keeping.{IsKeptOf, KeptName, states_of}

-- a table's writes are a front of them
pub front_same : (s : HistoryState) → IsFrontOf s s
front_same s = record { front = sym (take_all (length s.writes) s.writes (omega arith)); flushed = omega arith; spare = omega arith }

-- ---- the list

-- what the base says of each record's name
abbrev kept_of : NamedStates → List LogRecord → List KeptName
kept_of base [] = []
kept_of base (r ∷ records) = record { name = r.name; writes = (base r.name).writes; flushed = (base r.name).flushed; spare = (base r.name).spare } ∷ kept_of base records

-- a name stands as in the base, or is that of no record's writes and has none
listed : (base : NamedStates) (records : List LogRecord) (name : List ℕ) → BasesAreShut base
    → (states_of (kept_of base records) name ≡ base name) ⊎ ((states_of (kept_of base records) name ≡ no_base) × (writes_of name records ≡ []))
listed base [] name shut = inr (refl, refl)
listed base (r ∷ records) name shut = by (bytes_eq name r.name) refl (listed base records name shut)
  where
    by : (b : Bool) → bytes_eq name r.name ≡ b
        → (states_of (kept_of base records) name ≡ base name) ⊎ ((states_of (kept_of base records) name ≡ no_base) × (writes_of name records ≡ []))
        → (cond b (base_of (base r.name).writes (base r.name).flushed (base r.name).spare) (states_of (kept_of base records) name) ≡ base name)
        ⊎ ((cond b (base_of (base r.name).writes (base r.name).flushed (base r.name).spare) (states_of (kept_of base records) name) ≡ no_base) × (cond b (r.writes ++ writes_of name records) (writes_of name records) ≡ []))
    by true same rest = inl (sym (shut r.name) ∙ ap base (sym ((bytes_eq-Decides name r.name).0 same)))
    by false other rest = rest

-- records that have the writes of a log and of one record more
records_with : (next : Option LogRecord) (records : List LogRecord) (least : List ℕ → List Write) → ((name : List ℕ) → writes_of name records ≡ least name)
    → (all : List LogRecord) × ((name : List ℕ) → writes_of name all ≡ with_writes next least name)
records_with None records least same = (records, same)
records_with (Some r) records least same = (records ++ r ∷ [], writes_more records r least same)

module _ (base : NamedStates) (m : Meaning) (is : IsBase base m) where
  abbrev pub least : List ℕ → List Write
  least = is.begins.1.0

  abbrev pub next : Option LogRecord
  next = is.begins.1.1

  abbrev pub most : List ℕ → List Write
  most = with_writes next least

  rests : Rests [] base least next m
  rests = is.begins.1.2

  -- ---- the writes of the longest log

  pub longest : (records : List LogRecord) × ((name : List ℕ) → writes_of name records ≡ most name)
  longest = by (rests.logs m.held rests.stands.reads)
    where
      by : HasSoundLog least m.held.disk ⊎ HasSoundLog most m.held.disk → (records : List LogRecord) × ((name : List ℕ) → writes_of name records ≡ most name)
      by (inl log) = records_with next log.sound.0 least log.each
      by (inr log) = (log.sound.0, log.each)

  abbrev pub kept : List KeptName
  kept = kept_of base longest.0

  pub no_least : (name : List ℕ) → most name ≡ [] → least name ≡ []
  no_least name none = nil_from_length (least name) (omega (arith, ap (λ (l : List Write). length l) none, (with_owed next least name).no_less))

  -- what holds of a name in the base, and of no writes where no log has any, holds of it in the list
  carried : (P : HistoryState → Type 0) (name : List ℕ) → P (base name) → (most name ≡ [] → P no_base) → P (states_of kept name)
  carried P name here nowhere = by (listed base longest.0 name is.is)
    where
      by : (states_of kept name ≡ base name) ⊎ ((states_of kept name ≡ no_base) × (writes_of name longest.0 ≡ [])) → P (states_of kept name)
      by (inl e) = subst P (sym e) here
      by (inr none) = subst P (sym none.0) (nowhere (sym (longest.1 name) ∙ none.1))

  -- ---- what rests on it

  kept_none : (name : List ℕ) → most name ≡ [] → IsKept (least name) (most name) no_base
  kept_none name none = record {
    shut = refl;
    flushed = omega arith;
    shortest = (no_front (least name) (no_least name none)).front;
    longest = (no_front (most name) none).front;
    handed = λ done. absurd (false≢true done);
  }

  -- where a log has all of the base, so it has of the list
  same_writes : (p : Pair) (left : m.leaves m.clock p) (log_end : ℕ) → HasLog (λ n. (base n).writes) log_end p.disk → (name : List ℕ) → (base name).writes ≡ (states_of kept name).writes
  same_writes p left log_end had name = carried (λ s. (base name).writes ≡ s.writes) name refl (λ none. whole_most [] base least next m rests p left log_end had name ∙ none)

  -- an image of the base is one of the list: where no log has writes, it has no columns
  module _ (p : Pair) (left : m.leaves m.clock p) (version : ℕ) (images : List TableImage) (log_end : ℕ) (is_image : IsImage version m.held.region images log_end)
      (are : AreImagesOf (λ n. (base n).spare) (λ n. (base n).writes) images) (had : HasLog (λ n. (base n).writes) log_end p.disk) (name : List ℕ) where
    nothing_kept : most name ≡ [] → IsImageOf 0 [] (table_named images name)
    nothing_kept none =
        let no_writes : (base name).writes ≡ [] = whole_most [] base least next m rests p left log_end had name ∙ none in
        let contents : contents_of (table_named images name) ≡ nothing = (are name).contents ∙ ap content no_writes in
        let columns : (table_named images name).columns ≡ 0 = no_columns version m.held.region images log_end is_image name contents in
        record { contents = contents; count = (are name).count ∙ ap (λ (l : List Write). length l) no_writes; few = omega (arith, columns) }

    image_kept : IsImageOf (states_of kept name).spare (states_of kept name).writes (table_named images name)
    image_kept = carried (λ s. IsImageOf s.spare s.writes (table_named images name)) name (are name) nothing_kept

  region_kept : RegionRests (states_of_tables (states_of kept) [] m) m
  region_kept p left = by (rests.region p left)
    where
      beside : Pair
      beside = record { region = m.held.region; disk = p.disk }

      by : RegionLeft reads (states_of_tables base [] m) beside → RegionLeft reads (states_of_tables (states_of kept) [] m) beside
      by (closed shut) = closed shut
      by (other_version version head other) = other_version version head other
      by (image version images end reads_it is are had) =
          image version images end reads_it is (λ name. image_kept p left version images end is are had name)
          (log_alike (λ n. (base n).writes) (λ n. (states_of kept n).writes) end p.disk (same_writes p left end had) had)

  rests_kept : Rests [] (states_of kept) least next m
  rests_kept = record {
    watched = record { each = tt; apart = tt };
    stands = rests.stands;
    logs = rests.logs;
    each = λ name. carried (IsKept (least name) (most name)) name (rests.each name) (kept_none name);
    sound = λ name. carried IsFoundation name (rests.sound name) (λ none. nothing_sound name);
    empty = rests.empty;
    region = region_kept;
  }

  pub base_kept : IsBase (states_of kept) m
  base_kept = record {
    begins = (is.begins.0, (least, next, rests_kept));
    is = λ name. carried (λ s. s ≡ base_of s.writes s.flushed s.spare) name (is.is name) (λ none. refl);
    least = λ name. carried (IsLeastSpare m.held.region name) name (is.least name) (λ none. inl refl);
  }

  front_kept : (s : HistoryState) (name : List ℕ) → IsFrontOf s (base name) → IsFrontOf s (states_of kept name)
  front_kept s name front = carried (IsFrontOf s) name front (λ none.
      record {
        front = refl;
        flushed = omega (arith, front.flushed, (rests.each name).flushed, ap (λ (l : List Write). length l) (no_least name none));
        spare = omega arith;
      })

-- a base that is a front of some tables gives one that is a list
pub list_kept : (tables base : NamedStates) (m : Meaning) → IsBase base m → ((name : List ℕ) → IsFrontOf (tables name) (base name)) → (kept : List KeptName) × IsKeptOf tables m kept
list_kept tables base m is front = (kept base m is, record { is_base = base_kept base m is; front = λ name. front_kept base m is (tables name) name (front name) })
