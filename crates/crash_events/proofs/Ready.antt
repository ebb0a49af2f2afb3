-- Over a ready berth each pair that a crash may leave fits the machine that begins there.
use Rattle.std.proofs.Common.{◌≡◌, ℕ, ◌≤◌, Bool, true, false, List, [], ◌∷◌, ◌++◌, length, take, refl, sym, ap, subst, ◌∙◌, arith, inl, inr}
use Rattle.std.specs.Prelude.{◌≢◌, ◌⊎◌, if◌then◌else◌, bytes_eq}
use Rattle.std.specs.List.{AllByRecursion}
use Rattle.std.proofs.lemmas.List.{length-take, nil_from_length}
use Rattle.std.proofs.lemmas.Slice.Eq.{bytes_eq-Decides}
use Rattle.berth_face.specs.Berth.{Pair, Meaning}
use Rattle.leaf_model.specs.declared.writes.Write.{Write}
use Rattle.leaf_history.specs.History.{HistoryState, base_of, no_base}
use Rattle.region_head.specs.declared.head.Head.TheVariants.{Version}
use Rattle.region_layout.specs.Images.{TableImage}
use Rattle.region_layout.specs.ImageWrites.{AreImagesOf}
use Rattle.row_model.specs.Names.{AreDistinct}
use Rattle.region_head.specs.Head.{head_of}
use Rattle.region_layout.specs.Region.{IsImage}
use Rattle.region_head.proofs.Heads.{closed_head}
use Rattle.row_records.specs.Records.{LogRecord}
use Rattle.disk_backup.specs.Logs.{writes_of}
use Rattle.disk_backup.specs.Settling.{HasLog}
use Rattle.disk_backup.proofs.Logs.{one_log, closed_is_log}
use Rattle.crash_moments.specs.Left.{NamedStates, Left, RegionLeft, closed, other_version, image}
use Rattle.crash_moments.specs.Base.{HasWritesOf, IsBaseOf, IsFixed, HasTwoLengths, PairsMayBegin, IsReady}
use Rattle.crash_events.specs.Machine.{Machine, Tracked, Down, RegionIs, Closed, Whole, Either, Other}
use Rattle.crash_events.specs.Kept.{is_frozen}
use Rattle.crash_events.specs.Fits.{FitsPair, RegionFits, shows_closed, shows_whole, shows_other, states_by_name, IsElsewhere}
use Rattle.crash_events.specs.Begins.{begun_tables, machine_begun, RegionReads, reads_closed, reads_whole, reads_other, LeavesItself, HasNoOther, MachineBegins}
use Rattle.crash_events.proofs.Places.{no}
use Rattle.crash_moments.proofs.Alike.{images_alike}
use Rattle.crash_moments.proofs.Bases.{both, flushed_le}
use Rattle.crash_events.proofs.Fresh.{Fresh, IsAll, AtMostOne, OfLog, all_kept, no_hand, all_have}
use Rattle.crash_events.proofs.Beginning.{IsBegun, ButOne, are_begun, names_are, are_fresh, are_plain, but_one, at_most_one, all_one}

-- what a name's log has where it has one of two lengths
two_lengths : (may : Pair → Type 0) (base : NamedStates) (p : Pair) (name : List ℕ) (records : List LogRecord) (m : ℕ) → HasTwoLengths may name (base name) → may p
    → HasWritesOf p.disk name (writes_of name records) → m ≤ length (base name).writes → writes_of name records ≡ take m (base name).writes
    → (m ≡ (base name).flushed) ⊎ (m ≡ length (base name).writes)
two_lengths may base p name records m two left has le is =
    let long : length (writes_of name records) ≡ m = ap (λ (ws : List Write). length ws) is ∙ length-take m (base name).writes ∙ omega (arith, le) in
    elim (two p (writes_of name records) left has) [
      | inl e ↦ inl (sym long ∙ e)
      | inr e ↦ inr (sym long ∙ e)
    ]

-- a name whose logs have one length has just its base's writes
fixed_two : (may : Pair → Type 0) (base : NamedStates) (name : List ℕ) → IsBaseOf may name (base name) → IsFixed may name → HasTwoLengths may name (base name)
fixed_two may base name is fixed = λ p u left has. inr (fixed p is.longest.0 u (base name).writes left is.longest.1 has is.longest.2)

each_two : (reads : ℕ → Bool) (may : Pair → Type 0) (now : Pair) (base : NamedStates) → PairsMayBegin reads may now base → (name : List ℕ) → HasTwoLengths may name (base name)
each_two reads may now base r name = elim r.one_open [
  | inl all ↦ fixed_two may base name (r.base_is name) (all name)
  | inr one ↦ by one.0 one.1 one.2 (bytes_eq name one.0) refl
]
  where
    by : (but : List ℕ) → HasTwoLengths may but (base but) → ((other : List ℕ) → other ≢ but → IsFixed may other) → (c : Bool) → bytes_eq name but ≡ c → HasTwoLengths may name (base name)
    by but two rest true e = subst (λ n. HasTwoLengths may n (base n)) (sym ((bytes_eq-Decides name but).0 e)) two
    by but two rest false e = fixed_two may base name (r.base_is name) (rest name (λ same. both (bytes_eq name but) e ((bytes_eq-Decides name but).1 same)))

-- what the log of such a pair has of each table
log_one : (reads : ℕ → Bool) (may : Pair → Type 0) (now : Pair) (base : NamedStates) (p : Pair) → PairsMayBegin reads may now base → may p → (l : Left reads base p) (x : Tracked) → IsBegun base x → OfLog l.sound.0 x
log_one reads may now base p r left l x b =
    let front = l.front x.name in
    let which : (front.0 ≡ (base x.name).flushed) ⊎ (front.0 ≡ length (base x.name).writes) =
    two_lengths may base p x.name l.sound.0 front.0 (each_two reads may now base r x.name) left (l.sound.0, l.sound.1, l.sound.2, refl) front.1 front.3 in
    let all : length x.state.writes ≡ length (base x.name).writes = ap (λ (s : HistoryState). length s.writes) b.0 in (
      front.0,
      elim which [
        | inl e ↦ inl (e ∙ sym b.1)
        | inr e ↦ inr (e ∙ sym all)
      ],
      front.3 ∙ ap (λ (s : HistoryState). take front.0 s.writes) (sym b.0),
    )

logs_are : (reads : ℕ → Bool) (may : Pair → Type 0) (now : Pair) (base : NamedStates) (p : Pair) → PairsMayBegin reads may now base → may p → (l : Left reads base p) (xs : List Tracked)
    → AllByRecursion (IsBegun base) xs → AllByRecursion (OfLog l.sound.0) xs
logs_are reads may now base p r left l [] b = tt
logs_are reads may now base p r left l (x ∷ xs) b = (log_one reads may now base p r left l x b.0, logs_are reads may now base p r left l xs b.1)

-- nothing is known of a name with no writes
nothing_there : (may : Pair → Type 0) (name : List ℕ) (s : HistoryState) → IsBaseOf may name s → s.writes ≡ [] → s ≡ no_base
nothing_there may name s is none =
    let le : s.flushed ≤ length s.writes = flushed_le may name s is in
    let few : length s.writes ≡ 0 = ap (λ (ws : List Write). length ws) none in
    let zero : s.flushed ≡ 0 = omega (arith, le, few) in
    is.is ∙ ap (λ (ws : List Write). base_of ws s.flushed s.spare) none ∙ ap (λ n. base_of [] n s.spare) zero ∙ ap (λ n. base_of [] 0 n) (is.none none)

state_is : (may : Pair → Type 0) (base : NamedStates) (name : List ℕ) (xs : List Tracked) → IsBaseOf may name (base name) → AllByRecursion (IsBegun base) xs
    → (IsElsewhere name xs → (base name).writes ≡ []) → states_by_name xs name ≡ base name
state_is may base name [] is b none = sym (nothing_there may name (base name) is (none tt))
state_is may base name (x ∷ xs) is b none = by (bytes_eq name x.name) refl (state_is may base name xs is b.1)
  where
    by : (c : Bool) → bytes_eq name x.name ≡ c → ((IsElsewhere name xs → (base name).writes ≡ []) → states_by_name xs name ≡ base name) → (if c then x.state else states_by_name xs name) ≡ base name
    by true e rest = b.0.0 ∙ ap base (sym ((bytes_eq-Decides name x.name).0 e))
    by false e rest = rest (λ h. none (e, h))

-- an image of tables is one of the same tables
pub image_of : (base tables : NamedStates) (images : List TableImage) → ((name : List ℕ) → tables name ≡ base name)
    → AreImagesOf (λ name. (base name).spare) (λ name. (base name).writes) images → AreImagesOf (λ name. (tables name).spare) (λ name. (tables name).writes) images
image_of base tables images same =
    images_alike (λ name. (base name).spare) (λ name. (tables name).spare) (λ name. (base name).writes) (λ name. (tables name).writes) images (λ name. ap (λ (s : HistoryState). s.spare) (sym (same name)))
    (λ name. ap (λ (s : HistoryState). s.writes) (sym (same name)))

one_version : (v w : ℕ) → Version v ≡ Version w → v ≡ w
one_version v w e = cc

-- the same bytes are no image that is read and of a version that is not
no_other : {A : Type 0} (reads : ℕ → Bool) (region : List ℕ) (v w : ℕ) (images : List TableImage) (end : ℕ) → reads v ≡ true → IsImage v region images end → head_of region ≡ Version w → reads w ≡ false → A
no_other reads region v w images end may is head not =
    let same : v ≡ w = one_version v w (sym is.has.head ∙ head) in
    both (reads w) not (subst (λ n. reads n ≡ true) same may)

region_fits : (reads : ℕ → Bool) (base tables : NamedStates) (p : Pair) (r : RegionIs) → ((name : List ℕ) → tables name ≡ base name)
    → RegionReads reads p.region r → RegionLeft reads base p → RegionFits reads tables p r
region_fits reads base tables p Closed same (reads_closed is) left = shows_closed is
region_fits reads base tables p Other same (reads_other v head not) left = shows_other v head not
region_fits reads base tables p Either same shows left = elim shows [ ]
region_fits reads base tables p Whole same (reads_whole v images e may is) (closed shut) = absurd (closed_head p.region shut v is.has.head)
region_fits reads base tables p Whole same (reads_whole v images e may is) (other_version w head not) = no_other reads p.region v w images e may is head not
region_fits reads base tables p Whole same (reads_whole v images e may is) (image w all end may' is' of had) = shows_whole w all had.0 end may' is' (image_of base tables all same of) had.1

none_longer : (m : ℕ) (ws : List Write) → ws ≡ [] → take m ws ≡ []
none_longer m ws e = let short : length (take m ws) ≡ 0 = length-take m ws ∙ (let few : length ws ≡ 0 = ap (λ (us : List Write). length us) e in omega (arith, few)) in nil_from_length (take m ws) short

-- each pair fits
pair_fits : (reads : ℕ → Bool) (berth : Meaning) (base : NamedStates) (own others : List (List ℕ)) (r : RegionIs) (p : Pair) → IsReady reads berth base → LeavesItself berth
    → AreDistinct (own ++ others) → HasNoOther base (begun_tables base own others) → RegionReads reads berth.held.region r → berth.leaves berth.clock p → FitsPair reads (machine_begun base own others r) p
pair_fits reads berth base own others r p ready itself distinct none shows left =
    let may : Pair → Type 0 = λ q. berth.leaves berth.clock q in
    let m : Machine = machine_begun base own others r in
    let xs : List Tracked = begun_tables base own others in
    let l : Left reads base p = ready.begins.left p left in
    let b : AllByRecursion (IsBegun base) xs = are_begun base own others in
    let f : AllByRecursion Fresh xs = are_fresh may base xs ready.begins.base_is b in
    let but : (but : List ℕ) × ButOne base but = but_one reads may berth.held base ready.begins in
    let few : AtMostOne xs = at_most_one base but.0 xs but.1 (subst AreDistinct (sym (names_are base own others)) distinct) b in
    let same : (name : List ℕ) → states_by_name xs name ≡ base name = λ name. state_is may base name xs (ready.begins.base_is name) b (none name) in
    record {
      sound = l.sound;
      logs = all_have m l.sound.0 0 xs refl few (logs_are reads may berth.held base p ready.begins left l xs b) f;
      others = λ name far. (l.front name).3 ∙ none_longer (l.front name).0 (base name).writes (none name far);
      region = elim (itself.region p left) [
        | inl held ↦ region_fits reads base (states_by_name xs) p r same (subst (λ bytes. RegionReads reads bytes r) (sym held) shows) l.region
        | inr shut ↦ shows_closed shut
      ];
    }

all_flushed : (base : NamedStates) (xs : List Tracked) → ((name : List ℕ) → (base name).flushed ≡ length (base name).writes) → AllByRecursion (IsBegun base) xs → AllByRecursion IsAll xs
all_flushed base [] all b = tt
all_flushed base (x ∷ xs) all b = (all_one base x b.0 (all x.name), all_flushed base xs all b.1)

-- what the region is, is known
region_known : (reads : ℕ → Bool) (base : NamedStates) (p : Pair) → RegionLeft reads base p → (r : RegionIs) × RegionReads reads p.region r
region_known reads base p (closed shut) = (Closed, reads_closed shut)
region_known reads base p (other_version v head not) = (Other, reads_other v head not)
region_known reads base p (image v images end may is of had) = (Whole, reads_whole v images end may is)

-- where each log has all of the base, all of it is flushed
whole_flushed : (may : Pair → Type 0) (base : NamedStates) (end : ℕ) → ((name : List ℕ) → IsBaseOf may name (base name))
    → ((p : Pair) → may p → HasLog (λ name. (base name).writes) end p.disk) → (name : List ℕ) → (base name).flushed ≡ length (base name).writes
whole_flushed may base end is logs name =
    let least = (is name).least in
    let disk = least.0.disk in
    let log = least.3 in
    let had = logs least.0 least.2 in
    let same : log.0 ≡ had.0 = (one_log disk log.0 had.0 log.1 end log.2 (closed_is_log disk had.0 end had.1)).0 in
    least.4 ∙ ap (λ (ws : List Write). length ws) (log.3 ∙ ap (λ rs. writes_of name rs) same ∙ had.2 name)

-- beside an image all is flushed
frozen_all : (reads : ℕ → Bool) (berth : Meaning) (base : NamedStates) (r : RegionIs) (xs : List Tracked) → IsReady reads berth base → RegionReads reads berth.held.region r
    → AllByRecursion (IsBegun base) xs → is_frozen Down r ≡ true → AllByRecursion IsAll xs
frozen_all reads berth base Closed xs ready (reads_closed shut) b e = no e
frozen_all reads berth base Other xs ready (reads_other v head not) b e = no e
frozen_all reads berth base Either xs ready shows b e = elim shows [ ]
frozen_all reads berth base Whole xs ready (reads_whole v images end may is) b e =
    all_flushed base xs (whole_flushed (λ q. berth.leaves berth.clock q) base end ready.begins.base_is (ready.begins.image v images end may is)) b

-- over a ready berth a leaf begins, with all the names that have writes
pub ready_begins : (reads : ℕ → Bool) (berth : Meaning) (base : NamedStates) (own others : List (List ℕ)) → IsReady reads berth base → LeavesItself berth
    → AreDistinct (own ++ others) → HasNoOther base (begun_tables base own others) → MachineBegins reads berth base own others
ready_begins reads berth base own others ready itself distinct none =
    let may : Pair → Type 0 = λ q. berth.leaves berth.clock q in
    let xs : List Tracked = begun_tables base own others in
    let l : Left reads base berth.held = ready.begins.left berth.held itself.stands in
    let known : (r : RegionIs) × RegionReads reads berth.held.region r = region_known reads base berth.held l.region in
    let b : AllByRecursion (IsBegun base) xs = are_begun base own others in
    let f : AllByRecursion Fresh xs = are_fresh may base xs ready.begins.base_is b in
    let all : is_frozen Down known.0 ≡ true → AllByRecursion IsAll xs = λ e. frozen_all reads berth base known.0 xs ready known.1 b e in
    record {
      region = known.0;
      region_reads = known.1;
      kept = (record { frozen = λ e. no_hand 0 xs (all e); shut = no; other = λ e. refl; no_hand = no }, all_kept known.0 0 xs f all);
      plain = are_plain xs f;
      fits = λ p left. pair_fits reads berth base own others known.0 p ready itself distinct none known.1 left;
    }
