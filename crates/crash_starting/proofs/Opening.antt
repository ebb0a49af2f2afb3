-- What rests goes on resting while a leaf opens its tables.
use Rattle.std.proofs.Common.{◌≡◌, ◌⊎◌, inl, inr, ◌∙◌, ℕ, ◌≤◌, true, List, [], length, Option, Err, refl, sym, ap, subst, arith}
use Rattle.std.specs.Prelude.{slice_index, Result}
use Rattle.std.proofs.lemmas.Bool.{cases_eq, cases_lt}
use Rattle.std.proofs.lemmas.List.{nil_from_length}
use Rattle.leaf_model.specs.declared.writes.Write.{Write}
use Rattle.row_records.specs.Records.{LogRecord}
use Rattle.berth_face.specs.Berth.{Pair, Meaning, IsClosed, Ended, SameDisk}
use Rattle.berth_face.specs.Moments.{EachNow}
use Rattle.berth_face.proofs.Moments.{now_of}
use Rattle.region_layout.specs.Region.{reads}
use Rattle.disk_backup.specs.Scanning.{FirstByte, BeginsScan}
use Rattle.disk_backup.specs.Settling.{with_writes}
use Rattle.leaf_opening.specs.declared.opening.Opened.{Opened}
use Rattle.leaf_opening.specs.declared.ways.OpenFault.{OpenFault}
use Rattle.leaf_opening.specs.declared.ways.OpenFault.TheVariants as fault
use Rattle.disk_backup.specs.SoundLogs.{HasSoundLog}
use Rattle.leaf_opening.specs.Starts.{IsOpeningRefusal, OpensFrom, KeepsDisks}
use Rattle.disk_backup.proofs.SoundLogs.{sound_begins}
use Rattle.leaf_opening.proofs.Regions.{left_closed, broken_same}
use Rattle.crash_moments.specs.Left.{NamedStates, RegionLeft, closed}
use Rattle.crash_moments.specs.Watched.{Watched}
use Rattle.crash_states.specs.Standing.{StandsNow, Rests, RegionRests, IsKept, states_of_tables}
use Rattle.crash_starting.specs.Laws.{OpeningMade}
use Rattle.crash_starting.proofs.Watching.{watched_later, tables_later}

-- ---- regions

closed_or_open : (region : List ℕ) → IsClosed region ⊎ (IsClosed region → ⊥)
closed_or_open region = elim (cases_lt (length region) 16) [
  | inl short ↦ inl (inl short)
  | inr long ↦ elim (cases_eq (slice_index region 0) 1) [
    | inl one ↦ inr (λ shut. elim shut [
      | inl short ↦ absurd (omega (arith, long, short))
      | inr other ↦ absurd (other one)
    ])
    | inr other ↦ inl (inr other)
  ]
]

-- each disk that may be left now might be left before
abbrev pub DisksFrom : Meaning → Meaning → Type 0
DisksFrom a b = EachNow (λ p. (q : Pair) × a.leaves a.clock q × (p.disk ≡ q.disk)) b

-- over the same region and such disks
region_stays : (tables : NamedStates) (a b : Meaning) → b.held.region ≡ a.held.region → DisksFrom a b → RegionRests tables a → RegionRests tables b
region_stays tables a b same disks rests p left =
    let came = disks p left in
    subst (λ (region : List ℕ). RegionLeft reads tables (record { region = region; disk = p.disk })) (sym same)
    (subst (λ (disk : List ℕ). RegionLeft reads tables (record { region = a.held.region; disk = disk })) (sym came.2) (rests came.0 came.1))

-- a berth of which a crash leaves this pair alone
abbrev pub alone : ℕ → Pair → Meaning
alone t p = record {
  tells = true;
  held = p;
  clock = t;
  leaves = λ u q. q ≡ p;
  regions = λ u region. region ≡ p.region;
  region_faults = 0;
  disk_faults = 0;
  disk_reads = 0;
}

module _ (ws : List Watched) (others : NamedStates) (least : List ℕ → List Write) (next : Option LogRecord) (a : Meaning) (rests : Rests ws others least next a) where
  -- ---- a pair of a moment of the opening

  -- the first byte is written only where no disk had more than one
  short_before : (from : Pair) (now : List ℕ) → a.leaves a.clock from → FirstByte (length a.held.disk) from.disk now → length from.disk ≤ 1
  short_before from now was first = elim (cases_eq (length a.held.disk) 1) [
    | inl one ↦ first.synced one
    | inr other ↦
        let none : length a.held.disk ≡ 0 = omega (arith, first.short, other) in
        rests.empty (nil_from_length a.held.disk none) from was
  ]

  begins_before : (from : Pair) (now : List ℕ) → a.leaves a.clock from → BeginsScan (length a.held.disk) from.disk now → BeginsScan (length from.disk) from.disk now
  begins_before from now was (inl same) = inl same
  begins_before from now was (inr first) =
      let short : length from.disk ≤ 1 = short_before from now was first in
      inr (record { short = short; synced = λ one. short; torn = first.torn })

  log_opens : (held : List ℕ → List Write) (p : Pair) (came : OpensFrom a p) → HasSoundLog held came.from.disk → HasSoundLog held p.disk
  log_opens held p came had = elim came.disk [
    | inl same ↦ subst (HasSoundLog held) (sym same) had
    | inr begun ↦ sound_begins held came.from.disk had p.disk (begins_before came.from p.disk came.was begun.1)
  ]

  logs_open : (p : Pair) → OpensFrom a p → HasSoundLog least p.disk ⊎ HasSoundLog (with_writes next least) p.disk
  logs_open p came = elim (rests.logs came.from came.was) [
    | inl had ↦ inl (log_opens least p came had)
    | inr had ↦ inr (log_opens (with_writes next least) p came had)
  ]

  short_begins : (from : Pair) (now : List ℕ) → length from.disk ≤ 1 → BeginsScan (length a.held.disk) from.disk now → length now ≤ 1
  short_begins from now short (inl same) = subst (λ (d : List ℕ). length d ≤ 1) (sym same) short
  short_begins from now short (inr first) = omega (arith, short, first.torn.no_longer)

  short_open : a.held.disk ≡ [] → (p : Pair) → OpensFrom a p → length p.disk ≤ 1
  short_open none p came =
      let short : length came.from.disk ≤ 1 = rests.empty none came.from came.was in
      elim came.disk [
        | inl same ↦ subst (λ (d : List ℕ). length d ≤ 1) (sym same) short
        | inr begun ↦ short_begins came.from p.disk short begun.1
      ]

  -- an open region is the one that it was, and beside it the disk is
  region_open : (p : Pair) → OpensFrom a p → (IsClosed p.region → ⊥) → p.region ≡ a.held.region
  region_open p came opened = elim came.region [
    | inl shut ↦ absurd (opened shut)
    | inr broken ↦ broken_same a.held.region p.region broken opened
  ]

  disk_open : (p : Pair) (came : OpensFrom a p) → (IsClosed p.region → ⊥) → p.disk ≡ came.from.disk
  disk_open p came opened = elim came.disk [
    | inl same ↦ same
    | inr begun ↦ absurd (opened begun.0)
  ]

  -- ---- a berth of such pairs

  opens_rests : (b : Meaning) → a.clock ≤ b.clock → StandsNow b → EachNow (OpensFrom a) b → (b.held.disk ≡ [] → EachNow (λ p. length p.disk ≤ 1) b)
      → RegionRests (states_of_tables others ws a) b → Rests ws others least next b
  opens_rests b later stands came empty region =
      let same : states_of_tables others ws a ≡ states_of_tables others ws b = sym (tables_later others ws a b later rests.watched) in
      record {
        watched = watched_later a.clock b.clock ws later rests.watched;
        stands = stands;
        logs = λ p left. logs_open p (came p left);
        each = λ name. subst (λ (tables : NamedStates). IsKept (least name) (with_writes next least name) (tables name)) same (rests.each name);
        sound = rests.sound;
        empty = empty;
        region = subst (λ (tables : NamedStates). RegionRests tables b) same region;
      }

  -- a moment of the opening leaves a pair over which the leaf rests
  pub rests_alone : (t : ℕ) (p : Pair) → a.clock ≤ t → OpensFrom a p → Rests ws others least next (alone t p)
  rests_alone t p later came =
      opens_rests (alone t p) later (record { reads = refl; regions = λ q is. inl (ap (λ (r : Pair). r.region) is) }) (λ q is. subst (OpensFrom a) (sym is) came)
      (λ none q is. omega (arith, ap (λ (r : Pair). length r.disk) is, ap (λ (d : List ℕ). length d) none))
      (elim (closed_or_open p.region) [
        | inl shut ↦ λ q is. closed shut
        | inr opened ↦
            region_stays (states_of_tables others ws a) a (alone t p) (region_open p came opened) (λ q is. (came.from, came.was, ap (λ (r : Pair). r.disk) is ∙ disk_open p came opened)) rests.region
      ])

  -- and so does its end
  none_before : (b : Meaning) → BeginsScan (length a.held.disk) a.held.disk b.held.disk → b.held.disk ≡ [] → a.held.disk ≡ []
  none_before b (inl same) none = sym same ∙ none
  none_before b (inr first) none = nil_from_length a.held.disk (omega (arith, first.torn.no_shorter, ap (λ (d : List ℕ). length d) none))

  pub rests_opened : (b : Meaning) (result : Result Opened OpenFault) → OpeningMade a b result → IsClosed b.held.region ⊎ ((b.held.region ≡ a.held.region) × Ended SameDisk a b) → Rests ws others least next b
  rests_opened b result made region =
      let came : EachNow (OpensFrom a) b = now_of a b (OpensFrom a) made.moments in
      opens_rests b made.passes.later made.stands came (λ none p left. short_open (none_before b made.held none) p (came p left)) (elim region [
        | inl shut ↦ λ p left. closed shut
        | inr same ↦ region_stays (states_of_tables others ws a) a b same.0 same.1 rests.region
      ])

-- ---- what a refusal leaves of the region

pub region_refused : (names : List (List ℕ)) (a b : Meaning) (f : OpenFault) → KeepsDisks a b (Err f) → IsOpeningRefusal names a b f → IsClosed b.held.region ⊎ ((b.held.region ≡ a.held.region) × Ended SameDisk a b)
region_refused names a b fault.RegionFault kept refusal = elim (closed_or_open b.held.region) [
  | inl shut ↦ inl shut
  | inr opened ↦ inr (broken_same a.held.region b.held.region refusal.0 opened, kept)
]
region_refused names a b fault.DiskFault kept refusal = inl (left_closed a.held.region b.held.region refusal)
region_refused names a b fault.DiskDamaged kept refusal = inl (left_closed a.held.region b.held.region refusal.0)
region_refused names a b (fault.Stranger name) kept refusal = inl (left_closed a.held.region b.held.region refusal.0)
region_refused names a b fault.NoMemory kept refusal = inl (left_closed a.held.region b.held.region refusal)
