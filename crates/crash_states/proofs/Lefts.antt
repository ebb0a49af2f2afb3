-- Each pair that a crash may leave now belongs to the tables.
use Rattle.std.proofs.Common.{◌≡◌, ◌⊎◌, inl, inr, ℕ, true, false, List, [], length, take, Option, Some, sym, ap, subst, ◌∙◌, arith}
use Rattle.std.specs.Prelude.{slice_get}
use Rattle.std.proofs.lemmas.List.{take_all}
use Rattle.leaf_model.specs.declared.writes.Write.{Write}
use Rattle.row_records.specs.Records.{LogRecord}
use Rattle.berth_face.specs.Berth.{Pair, Meaning, IsClosed}
use Rattle.berth_face.specs.Moments.{EachNow}
use Rattle.berth_face.proofs.Moments.{passes_none}
use Rattle.region_layout.specs.Images.{TableImage}
use Rattle.region_layout.specs.Region.{reads, IsAdoptable}
use Rattle.disk_backup.specs.State.{LogState}
use Rattle.disk_backup.specs.Settling.{HasLog, with_writes}
use Rattle.drain_copy.specs.Draining.{DrainState}
use Rattle.leaf_history.specs.History.{HistoryState, no_base}
use Rattle.region_layout.specs.ImageWrites.{AreImagesOf}
use Rattle.disk_backup.specs.SoundLogs.{HasSoundLog, HasFewRows}
use Rattle.disk_backup.proofs.SoundLogs.{none_short, no_writes}
use Rattle.crash_moments.specs.Left.{NamedStates, Left, RegionLeft, closed}
use Rattle.crash_moments.specs.Watched.{Watched, IsWatched, AreWatched, is_watched, now_of, state_then, tables_then, was_opened}
use Rattle.crash_moments.specs.Told.{SeenMore, Told}
use Rattle.crash_moments.proofs.Histories.{cut_keeps}
use Rattle.crash_moments.proofs.Alike.{region_alike}
use Rattle.crash_states.specs.Standing.{IsLogged, Runs, IsKept, Rests, IsTreated, Copies, Holds, spare_in, states_of_tables}
use Rattle.crash_states.specs.Laws.{IsLeftNow}
use Rattle.crash_states.proofs.Names.{IsOwn, IsForeign, find_name, same_by_name, others_at, no_others, each_at, named_at}
use Rattle.crash_states.proofs.States.{IsFrontOf, IsBetween, front_short, no_front, front_before, shut_then, now_sound, then_sound, without_owed, with_owed, between_few, logged_front, kept_least, kept_most, treated_front, treated_none}
use Rattle.crash_states.proofs.Disks.{sound_owing, sound_log}
use Rattle.crash_states.proofs.Pairs.{left_by, image_left, not_open, rests_region}

-- ---- a leaf that serves or shuts its tables

module _ (ws : List Watched) (owner : ℕ) (log : LogState) (writes : List ℕ → List Write) (m : Meaning) (runs : Runs ws owner log writes m) where
  abbrev taken : List ℕ → List Write
  taken = with_writes log.owed writes

  -- what lies between the log and what was taken is a front of each table's writes, now and as they were at the
  -- steward's last entry
  pub runs_front : (others : NamedStates) (held : List ℕ → List Write) → ((name : List ℕ) → IsBetween (writes name) (taken name) (held name)) → (name : List ℕ) → IsFrontOf (held name) (tables_then others m.clock ws name)
  runs_front others held between name = by (find_name ws name)
    where
      by : IsOwn ws name ⊎ IsForeign ws name → IsFrontOf (held name) (tables_then others m.clock ws name)
      by (inl own) =
          let w : Watched = own.table in
          let watched : IsWatched m.clock w = each_at (IsWatched m.clock) ws runs.watched.each own.place w own.at in
          let logged : IsLogged (writes name) (taken name) (now_of w) = subst (λ (n : List ℕ). IsLogged (writes n) (taken n) (now_of w)) own.named (runs.each own.place w own.at) in
          let now : IsFrontOf (held name) (now_of w) = logged_front (writes name) (taken name) (held name) (now_of w) logged (between name) in
          subst (IsFrontOf (held name)) (sym (own.stands (state_then m.clock) (others_at others m.clock ws)))
          (front_before (held name) (state_then m.clock w) (now_of w) (cut_keeps m.clock w watched) (then_sound m.clock w watched)
          (between_few (writes name) (taken name) (held name) (now_of w) logged (between name)) now)
      by (inr foreign) =
          let nothing_taken : taken name ≡ [] = runs.others name foreign.unwatched in
          let none : held name ≡ [] = (between name).front ∙ ap (λ (l : List Write). take (length (held name)) l) nothing_taken ∙ take_all (length (held name)) no_writes (omega arith) in
          subst (IsFrontOf (held name)) (sym (foreign.stands (state_then m.clock) (others_at others m.clock ws) ∙ no_others (was_opened m.clock ws) others name runs.opened))
          (no_front (held name) none)

  pub taken_short : (name : List ℕ) → HasFewRows (taken name)
  taken_short name = by (find_name ws name)
    where
      by : IsOwn ws name ⊎ IsForeign ws name → HasFewRows (taken name)
      by (inl own) =
          let w : Watched = own.table in
          let watched : IsWatched m.clock w = each_at (IsWatched m.clock) ws runs.watched.each own.place w own.at in
          let logged : IsLogged (writes name) (taken name) (now_of w) = subst (λ (n : List ℕ). IsLogged (writes n) (taken n) (now_of w)) own.named (runs.each own.place w own.at) in
          front_short (taken name) (now_of w) (logged_front (writes name) (taken name) (taken name) (now_of w) logged (with_owed log.owed writes name)) (now_sound m.clock w watched).short
      by (inr foreign) = subst HasFewRows (sym (runs.others name foreign.unwatched)) none_short

  -- each disk has the log with or without what that is owed
  pub runs_logs : EachNow (λ p. HasSoundLog writes p.disk ⊎ HasSoundLog taken p.disk) m
  runs_logs p left =
      let had = runs.logs p left in
      sound_owing writes p.disk had.0 had.2 log.owed log.laid log.end had.1 taken_short

pub runs_left : (ws : List Watched) (others : NamedStates) (owner : ℕ) (log : LogState) (writes : List ℕ → List Write) (m : Meaning) → Runs ws owner log writes m → IsLeftNow ws others m
runs_left ws others owner log writes m runs p left =
    let front = runs_front ws owner log writes m runs others in
    elim (runs_logs ws owner log writes m runs p left) [
      | inl without ↦ left_by (tables_then others m.clock ws) writes p without (front writes (without_owed log.owed writes)) (λ name serves. runs.closed p left) (closed (runs.closed p left))
      | inr more ↦ left_by (tables_then others m.clock ws) (with_writes log.owed writes) p more (front (with_writes log.owed writes) (with_owed log.owed writes)) (λ name serves. runs.closed p left) (closed (runs.closed p left))
    ]

-- ---- a leaf at rest

module _ (ws : List Watched) (others : NamedStates) (least : List ℕ → List Write) (next : Option LogRecord) (m : Meaning) (rests : Rests ws others least next m) where
  -- each table is shut, and so stood at the steward's last entry where it stands
  pub rests_then : (name : List ℕ) → tables_then others m.clock ws name ≡ states_of_tables others ws m name
  rests_then = same_by_name (state_then m.clock) now_of (others_at others m.clock ws) ws (λ place w at.
      let stands : states_of_tables others ws m w.name ≡ now_of w = named_at now_of (others_at others m.clock ws) ws place w rests.watched.apart at in
      shut_then m.clock w (each_at (IsWatched m.clock) ws rests.watched.each place w at) (ap (λ (s : HistoryState). s.live) (sym stands) ∙ (rests.each w.name).shut))

  pub rests_front : (name : List ℕ) → IsFrontOf (least name) (tables_then others m.clock ws name) × IsFrontOf (with_writes next least name) (tables_then others m.clock ws name)
  rests_front name =
      let most : List Write = with_writes next least name in
      let kept : IsKept (least name) most (tables_then others m.clock ws name) = subst (IsKept (least name) most) (sym (rests_then name)) (rests.each name) in
      (kept_least (least name) most (tables_then others m.clock ws name) kept, kept_most (least name) most (tables_then others m.clock ws name) kept (with_owed next least name).no_less)

  -- no table is open
  rests_serving : (p : Pair) (name : List ℕ) → (tables_then others m.clock ws name).live ≡ true → IsClosed p.region
  rests_serving p name = not_open (tables_then others m.clock ws name) p (ap (λ (s : HistoryState). s.live) (rests_then name) ∙ (rests.each name).shut)

  -- what may be left of its region
  region_then : (p : Pair) → m.leaves m.clock p → RegionLeft reads (tables_then others m.clock ws) p
  region_then p left =
      region_alike reads (states_of_tables others ws m) (tables_then others m.clock ws) p (λ name. sym (rests_then name))
      (rests_region (states_of_tables others ws m) m p rests.stands rests.region left)

pub rests_left : (ws : List Watched) (others : NamedStates) (least : List ℕ → List Write) (next : Option LogRecord) (m : Meaning) → Rests ws others least next m → IsLeftNow ws others m
rests_left ws others least next m rests p left =
    let tables : NamedStates = tables_then others m.clock ws in
    let fronts = rests_front ws others least next m rests in
    let region : RegionLeft reads tables p = region_then ws others least next m rests p left in
    let serving = rests_serving ws others least next m rests p in
    elim (rests.logs p left) [
      | inl shortest ↦ left_by tables least p shortest (λ name. (fronts name).0) serving region
      | inr longest ↦ left_by tables (with_writes next least) p longest (λ name. (fronts name).1) serving region
    ]

-- ---- a leaf that copies its tables, and one whose image is copied

-- each table is shut and whole in the log, and no other name has writes
pub record AreTreated (ws : List Watched) (writes : List ℕ → List Write) (m : Meaning) : Type 0 where
  pub watched : AreWatched m.clock ws
  pub opened : was_opened m.clock ws ≡ true
  pub each : (place : ℕ) (w : Watched) → slice_get ws place ≡ Some w → IsTreated (writes w.name) (now_of w)
  pub others : (name : List ℕ) → is_watched ws name ≡ false → writes name ≡ []

module _ (ws : List Watched) (writes : List ℕ → List Write) (m : Meaning) (are : AreTreated ws writes m) where
  -- each name was treated by the steward's last entry
  pub treated_then : (others : NamedStates) (name : List ℕ) → IsTreated (writes name) (tables_then others m.clock ws name)
  treated_then others name = by (find_name ws name)
    where
      by : IsOwn ws name ⊎ IsForeign ws name → IsTreated (writes name) (tables_then others m.clock ws name)
      by (inl own) =
          let w : Watched = own.table in
          let treated : IsTreated (writes name) (now_of w) = subst (λ (n : List ℕ). IsTreated (writes n) (now_of w)) own.named (are.each own.place w own.at) in
          let watched : IsWatched m.clock w = each_at (IsWatched m.clock) ws are.watched.each own.place w own.at in
          subst (IsTreated (writes name)) (sym (own.stands (state_then m.clock) (others_at others m.clock ws) ∙ shut_then m.clock w watched treated.shut)) treated
      by (inr foreign) =
          subst (IsTreated (writes name)) (sym (foreign.stands (state_then m.clock) (others_at others m.clock ws) ∙ no_others (was_opened m.clock ws) others name are.opened))
          (treated_none (writes name) (are.others name foreign.unwatched))

  -- and had the spare columns that it has
  treated_spare : (others : NamedStates) (name : List ℕ) → (tables_then others m.clock ws name).spare ≡ spare_in ws name
  treated_spare others name = by (find_name ws name)
    where
      by : IsOwn ws name ⊎ IsForeign ws name → (tables_then others m.clock ws name).spare ≡ spare_in ws name
      by (inl own) =
          let watched : IsWatched m.clock own.table = each_at (IsWatched m.clock) ws are.watched.each own.place own.table own.at in
          let then : state_then m.clock own.table ≡ now_of own.table = shut_then m.clock own.table watched (are.each own.place own.table own.at).shut in
          ap (λ (s : HistoryState). s.spare) (own.stands (state_then m.clock) (others_at others m.clock ws) ∙ then ∙ sym (own.stands now_of (λ n. no_base)))
      by (inr foreign) =
          ap (λ (s : HistoryState). s.spare)
          (foreign.stands (state_then m.clock) (others_at others m.clock ws) ∙ no_others (was_opened m.clock ws) others name are.opened ∙ sym (foreign.stands now_of (λ n. no_base)))

  pub treated_short : (name : List ℕ) → HasFewRows (writes name)
  treated_short name = by (find_name ws name)
    where
      by : IsOwn ws name ⊎ IsForeign ws name → HasFewRows (writes name)
      by (inl own) =
          let w : Watched = own.table in
          let watched : IsWatched m.clock w = each_at (IsWatched m.clock) ws are.watched.each own.place w own.at in
          subst HasFewRows ((are.each own.place w own.at).whole ∙ ap writes own.named) (now_sound m.clock w watched).short
      by (inr foreign) = subst HasFewRows (sym (are.others name foreign.unwatched)) none_short

  -- a pair belongs to them whose region is closed, or an image with their writes
  pub treated_closed : (others : NamedStates) (p : Pair) (log_end : ℕ) → HasLog writes log_end p.disk → IsClosed p.region → Left reads (tables_then others m.clock ws) p
  treated_closed others p log_end had shut =
      left_by (tables_then others m.clock ws) writes p (sound_log writes log_end p.disk had treated_short) (λ name. treated_front (writes name) (tables_then others m.clock ws name) (treated_then others name)) (λ name serves. shut) (closed shut)

  pub treated_image : (others : NamedStates) (p : Pair) (images : List TableImage) (log_end : ℕ) → HasLog writes log_end p.disk → IsAdoptable p.region images log_end → AreImagesOf (spare_in ws) writes images
      → Left reads (tables_then others m.clock ws) p
  treated_image others p images log_end had is same =
      let log : HasSoundLog writes p.disk = sound_log writes log_end p.disk had treated_short in
      left_by (tables_then others m.clock ws) writes p log (λ name. treated_front (writes name) (tables_then others m.clock ws name) (treated_then others name))
      (λ name. not_open (tables_then others m.clock ws name) p (treated_then others name).shut)
      (image_left (tables_then others m.clock ws) (spare_in ws) writes p images log_end (treated_spare others) (λ name. (treated_then others name).whole) is same had)

pub copies_treated : (ws : List Watched) (drain : DrainState) (writes : List ℕ → List Write) (m : Meaning) → Copies ws drain writes m → AreTreated ws writes m
copies_treated ws drain writes m copies = record { watched = copies.watched; opened = copies.opened; each = copies.each; others = copies.others }

pub holds_treated : (ws : List Watched) (image : List ℕ) (writes : List ℕ → List Write) (m : Meaning) → Holds ws image writes m → AreTreated ws writes m
holds_treated ws image writes m holds = record { watched = holds.watched; opened = holds.opened; each = holds.each; others = holds.others }

pub copies_left : (ws : List Watched) (others : NamedStates) (drain : DrainState) (writes : List ℕ → List Write) (m : Meaning) → Copies ws drain writes m → IsLeftNow ws others m
copies_left ws others drain writes m copies p left = treated_closed ws writes m (copies_treated ws drain writes m copies) others p copies.log_end (copies.logs p left) (copies.closed p left)

pub holds_left : (ws : List Watched) (others : NamedStates) (image : List ℕ) (writes : List ℕ → List Write) (m : Meaning) → Holds ws image writes m → IsLeftNow ws others m
holds_left ws others image writes m holds p left =
    let treated : AreTreated ws writes m = holds_treated ws image writes m holds in
    let had : HasLog writes holds.log_end p.disk = holds.logs p left in
    elim (holds.stands.regions p left) [
      | inl same ↦ treated_image ws writes m treated others p holds.images holds.log_end had (subst (λ (l : List ℕ). IsAdoptable l holds.images holds.log_end) (sym (same ∙ holds.region)) holds.is) holds.same
      | inr shut ↦ treated_closed ws writes m treated others p holds.log_end had shut
    ]

-- ---- what is told

-- what is left now is told of entries that were made while no call on the berth went on
pub told_now : (ws ws' : List Watched) (others : NamedStates) (m : Meaning) → IsLeftNow ws' others m → SeenMore m.clock m.clock ws ws' → Told others ws ws' m m
told_now ws ws' others m now more = record {
  passes = passes_none m;
  more = more;
  left = λ t p from to left.
      let here : t ≡ m.clock = omega (arith, from, to) in
      subst (λ (u : ℕ). Left reads (tables_then others u ws') p) (sym here) (now p (subst (λ (u : ℕ). m.leaves u p) here left));
}

-- entries were made while no call on the berth went on
pub runs_told : (ws ws' : List Watched) (others : NamedStates) (owner : ℕ) (log : LogState) (writes : List ℕ → List Write) (m : Meaning)
    → Runs ws' owner log writes m → SeenMore m.clock m.clock ws ws' → Told others ws ws' m m
runs_told ws ws' others owner log writes m runs more = told_now ws ws' others m (runs_left ws' others owner log writes m runs) more

pub rests_told : (ws ws' : List Watched) (others : NamedStates) (least : List ℕ → List Write) (next : Option LogRecord) (m : Meaning)
    → Rests ws' others least next m → SeenMore m.clock m.clock ws ws' → Told others ws ws' m m
rests_told ws ws' others least next m rests more = told_now ws ws' others m (rests_left ws' others least next m rests) more

pub copies_told : (ws ws' : List Watched) (others : NamedStates) (drain : DrainState) (writes : List ℕ → List Write) (m : Meaning)
    → Copies ws' drain writes m → SeenMore m.clock m.clock ws ws' → Told others ws ws' m m
copies_told ws ws' others drain writes m copies more = told_now ws ws' others m (copies_left ws' others drain writes m copies) more
