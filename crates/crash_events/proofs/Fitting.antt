-- A pair that fits a kept state belongs to its tables.
use Rattle.std.proofs.Common.{◌≡◌, ℕ, ◌+◌, ◌≤◌, Bool, true, false, List, [], ◌∷◌, length, take, Option, refl, inl, ap, ◌∙◌, arith}
use Rattle.std.specs.Prelude.{if◌then◌else◌, bytes_eq}
use Rattle.std.proofs.lemmas.Slice.Eq.{bytes_eq-Decides}
use Rattle.std.proofs.Math.Seq.{take-length}
use Rattle.berth_face.specs.Berth.{Pair, IsClosed}
use Rattle.leaf_history.specs.History.{HistoryState}
use Rattle.row_records.specs.Records.{LogRecord}
use Rattle.disk_backup.specs.Logs.{IsLog, writes_of}
use Rattle.disk_backup.proofs.Logs.{one_log, closed_is_log}
use Rattle.crash_moments.specs.Left.{NamedStates, Left, RegionLeft, closed, other_version, image}
use Rattle.crash_events.specs.Machine.{Machine, Tracked, Hand, Mode, Down, Finding, Scanning, Adopting, Opening, Up, Preparing, Copying, RegionIs, Closed, Whole, Either, Other}
use Rattle.crash_events.specs.Events.{IsSettled, MayBe}
use Rattle.crash_events.specs.Kept.{KeptTable, KeptLeaf, Kept, AllPlaces, in_hand, holds_image, is_frozen, may_be_live, stays}
use Rattle.crash_events.specs.Fits.{RegionFits, shows_closed, shows_whole, shows_either, shows_other, FitsPair, states_by_name, IsElsewhere}
use Rattle.crash_events.specs.Laws.{IsPlain}
use Rattle.crash_events.proofs.Leaving.{may_be_between}
use Rattle.crash_events.proofs.Modes.{or_left}

-- what is known of a name's log and its state
abbrev Front : HistoryState → List LogRecord → List ℕ → Type 0
Front s records name = (m : ℕ) × (m ≤ length s.writes) × (s.flushed ≤ m) × (writes_of name records ≡ take m s.writes)

fronts : (m : Machine) (records : List LogRecord) (name : List ℕ) (b : ℕ) (xs : List Tracked)
    → AllPlaces (λ t x. KeptTable m.mode m.region (in_hand m.hand t) x) b xs
    → AllPlaces (λ t x. (n : ℕ) × MayBe m t x n × (writes_of x.name records ≡ take n x.state.writes)) b xs
    → IsPlain xs → (IsElsewhere name xs → writes_of name records ≡ []) → Front (states_by_name xs name) records name
fronts m records name b [] k l plain others = (0, omega arith, omega arith, others tt)
fronts m records name b (x ∷ xs) k l plain others = by (bytes_eq name x.name) refl (fronts m records name (b + 1) xs k.1 l.1 plain.1)
  where
    by : (c : Bool) → bytes_eq name x.name ≡ c → ((IsElsewhere name xs → writes_of name records ≡ []) → Front (states_by_name xs name) records name) → Front (if c then x.state else states_by_name xs name) records name
    by true e rest =
        let n : ℕ = l.0.0 in
        let between : (x.sure ≤ n) × (n ≤ x.sure + in_hand m.hand b) = may_be_between m b x n l.0.1 in
        let same : name ≡ x.name = (bytes_eq-Decides name x.name).0 e in
        (n, omega (arith, between.1, k.0.sure, k.0.taken, plain.0), omega (arith, between.0, k.0.flushed), ap (λ v. writes_of v records) same ∙ l.0.2)
    by false e rest = rest (λ h. others (e, h))

-- where the tables stay as they are, the log is all of each table's writes
wholes : (m : Machine) (records : List LogRecord) (name : List ℕ) → is_frozen m.mode m.region ≡ true → (b : ℕ) (xs : List Tracked)
    → AllPlaces (λ t x. KeptTable m.mode m.region (in_hand m.hand t) x) b xs
    → AllPlaces (λ t x. (n : ℕ) × MayBe m t x n × (writes_of x.name records ≡ take n x.state.writes)) b xs
    → IsPlain xs → (IsElsewhere name xs → writes_of name records ≡ []) → writes_of name records ≡ (states_by_name xs name).writes
wholes m records name frozen b [] k l plain others = others tt
wholes m records name frozen b (x ∷ xs) k l plain others = by (bytes_eq name x.name) refl (wholes m records name frozen (b + 1) xs k.1 l.1 plain.1)
  where
    by : (c : Bool) → bytes_eq name x.name ≡ c → ((IsElsewhere name xs → writes_of name records ≡ []) → writes_of name records ≡ (states_by_name xs name).writes)
        → writes_of name records ≡ (if c then x.state else states_by_name xs name).writes
    by true e rest =
        let n : ℕ = l.0.0 in
        let between : (x.sure ≤ n) × (n ≤ x.sure + in_hand m.hand b) = may_be_between m b x n l.0.1 in
        let same : name ≡ x.name = (bytes_eq-Decides name x.name).0 e in
        let settled : IsSettled x = (k.0.frozen frozen).1 in
        let all : n ≡ length x.state.writes = omega (arith, between.0, between.1, k.0.sure, k.0.taken, settled.1, plain.0) in
        ap (λ v. writes_of v records) same ∙ (l.0.2 ∙ (ap (λ i. take i x.state.writes) all ∙ take-length x.state.writes))
    by false e rest = rest (λ h. others (e, h))

regions : (reads : ℕ → Bool) (tables : NamedStates) (pair : Pair) (records : List LogRecord) (end : ℕ) (r : RegionIs) → IsLog pair.disk records end
    → (holds_image r ≡ true → (name : List ℕ) → writes_of name records ≡ (tables name).writes)
    → RegionFits reads tables pair r → RegionLeft reads tables pair
regions reads tables pair records end r log whole (shows_closed shut) = closed shut
regions reads tables pair records end Whole log whole (shows_whole version images those ends may is of shut) =
    let same : those ≡ records = (one_log pair.disk those records ends end (closed_is_log pair.disk those ends shut) log).0 in
    image version images ends may is of (those, shut, λ name. ap (λ rs. writes_of name rs) same ∙ whole refl name)
regions reads tables pair records end Either log whole (shows_either f) = regions reads tables pair records end Whole log (λ e. whole refl) f
regions reads tables pair records end Other log whole (shows_other version head n) = other_version version head n

-- ---- a table is open only where the region is closed

mode_closed : (mode : Mode) (region : RegionIs) (hand : Option Hand) → KeptLeaf mode region hand → may_be_live mode region ≡ true → region ≡ Closed
mode_closed Up region hand k may = k.shut refl
mode_closed Preparing region hand k may = k.shut refl
mode_closed Opening region hand k may = k.shut refl
mode_closed Down Closed hand k may = refl
mode_closed Down Whole hand k may = absurd cc
mode_closed Down Either hand k may = absurd cc
mode_closed Down Other hand k may = absurd cc
mode_closed (Finding found) region hand k may = absurd cc
mode_closed (Scanning made) region hand k may = absurd cc
mode_closed Adopting region hand k may = absurd cc
mode_closed Copying region hand k may = absurd cc

table_closed : (mode : Mode) (region : RegionIs) (hand : Option Hand) (n : ℕ) (x : Tracked) → KeptLeaf mode region hand → KeptTable mode region n x → x.state.live ≡ true → region ≡ Closed
table_closed mode region hand n x leaf k live = by x.own refl
  where
    by : (own : Bool) → x.own ≡ own → region ≡ Closed
    by true own = mode_closed mode region hand leaf (k.live own live)
    by false own = let shut : x.state.live ≡ false = (k.stranger own).0 in absurd cc

names_closed : (m : Machine) (name : List ℕ) (b : ℕ) (xs : List Tracked) → KeptLeaf m.mode m.region m.hand → AllPlaces (λ t x. KeptTable m.mode m.region (in_hand m.hand t) x) b xs
    → (states_by_name xs name).live ≡ true → m.region ≡ Closed
names_closed m name b [] leaf k live = absurd cc
names_closed m name b (x ∷ xs) leaf k live = by (bytes_eq name x.name) (names_closed m name (b + 1) xs leaf k.1) live
  where
    by : (c : Bool) → ((states_by_name xs name).live ≡ true → m.region ≡ Closed) → (if c then x.state else states_by_name xs name).live ≡ true → m.region ≡ Closed
    by true rest here = table_closed m.mode m.region m.hand (in_hand m.hand b) x leaf k.0 here
    by false rest here = rest here

closed_fits : (reads : ℕ → Bool) (tables : NamedStates) (pair : Pair) (r : RegionIs) → r ≡ Closed → RegionFits reads tables pair r → IsClosed pair.region
closed_fits reads tables pair r is (shows_closed shut) = shut
closed_fits reads tables pair Whole is (shows_whole version images those ends may are of shut) = absurd cc
closed_fits reads tables pair Either is (shows_either f) = absurd cc
closed_fits reads tables pair Other is (shows_other version head n) = absurd cc

-- a pair that fits a kept state belongs to its tables
pub fitting_is_left : (reads : ℕ → Bool) (m : Machine) (pair : Pair) → IsPlain m.tables → Kept m → FitsPair reads m pair → Left reads (states_by_name m.tables) pair
fitting_is_left reads m pair plain k f = record {
  sound = f.sound;
  front = λ name. fronts m f.sound.0 name 0 m.tables k.1 f.logs plain (f.others name);
  region = regions reads (states_by_name m.tables) pair f.sound.0 f.sound.1 m.region f.sound.2
      (λ e name. wholes m f.sound.0 name (or_left (holds_image m.region) (stays m.mode) e) 0 m.tables k.1 f.logs plain (f.others name)) f.region;
  serving = λ name live. closed_fits reads (states_by_name m.tables) pair m.region (names_closed m name 0 m.tables k.0 k.1 live) f.region;
}
