-- Each pair that a crash may leave now belongs to the tables with all their entries, not only with those up to the
-- steward's last.
use Rattle.std.proofs.Common.{◌≡◌, ◌⊎◌, inl, inr, ℕ, List, [], length, take, Option, sym, ap, subst, ◌∙◌, arith}
use Rattle.std.proofs.lemmas.List.{take_all}
use Rattle.leaf_model.specs.declared.writes.Write.{Write}
use Rattle.row_records.specs.Records.{LogRecord}
use Rattle.berth_face.specs.Berth.{Meaning}
use Rattle.berth_face.specs.Moments.{EachNow}
use Rattle.region_layout.specs.Region.{reads}
use Rattle.disk_backup.specs.State.{LogState}
use Rattle.disk_backup.specs.Settling.{with_writes}
use Rattle.disk_backup.proofs.SoundLogs.{no_writes}
use Rattle.crash_moments.specs.Left.{NamedStates, Left, RegionLeft, closed}
use Rattle.crash_moments.specs.Watched.{Watched, now_of, was_opened}
use Rattle.crash_states.specs.Standing.{IsLogged, Runs, Rests, states_of_tables}
use Rattle.crash_states.proofs.Names.{IsOwn, IsForeign, find_name, others_at, no_others}
use Rattle.crash_states.proofs.States.{IsFrontOf, IsBetween, no_front, without_owed, with_owed, logged_front, kept_least, kept_most}
use Rattle.crash_states.proofs.Pairs.{left_by, not_open, rests_region}
use Rattle.crash_states.proofs.Lefts.{runs_logs}

-- ---- a leaf that serves or shuts its tables

module _ (ws : List Watched) (owner : ℕ) (log : LogState) (writes : List ℕ → List Write) (m : Meaning) (runs : Runs ws owner log writes m) where
  -- what lies between the log and what was taken is a front of each table's writes as they are now
  front_now : (others : NamedStates) (held : List ℕ → List Write) → ((name : List ℕ) → IsBetween (writes name) (with_writes log.owed writes name) (held name)) → (name : List ℕ)
      → IsFrontOf (held name) (states_of_tables others ws m name)
  front_now others held between name = by (find_name ws name)
    where
      by : IsOwn ws name ⊎ IsForeign ws name → IsFrontOf (held name) (states_of_tables others ws m name)
      by (inl own) =
          let w : Watched = own.table in
          let logged : IsLogged (writes name) (with_writes log.owed writes name) (now_of w) =
          subst (λ (n : List ℕ). IsLogged (writes n) (with_writes log.owed writes n) (now_of w)) own.named (runs.each own.place w own.at) in
          subst (IsFrontOf (held name)) (sym (own.stands now_of (others_at others m.clock ws)))
          (logged_front (writes name) (with_writes log.owed writes name) (held name) (now_of w) logged (between name))
      by (inr foreign) =
          let nothing_taken : with_writes log.owed writes name ≡ [] = runs.others name foreign.unwatched in
          let none : held name ≡ [] = (between name).front ∙ ap (λ (l : List Write). take (length (held name)) l) nothing_taken ∙ take_all (length (held name)) no_writes (omega arith) in
          subst (IsFrontOf (held name)) (sym (foreign.stands now_of (others_at others m.clock ws) ∙ no_others (was_opened m.clock ws) others name runs.opened))
          (no_front (held name) none)

pub runs_whole : (ws : List Watched) (others : NamedStates) (owner : ℕ) (log : LogState) (writes : List ℕ → List Write) (m : Meaning) → Runs ws owner log writes m
    → EachNow (λ p. Left reads (states_of_tables others ws m) p) m
runs_whole ws others owner log writes m runs p left =
    let front = front_now ws owner log writes m runs others in
    elim (runs_logs ws owner log writes m runs p left) [
      | inl without ↦ left_by (states_of_tables others ws m) writes p without (front writes (without_owed log.owed writes)) (λ name serves. runs.closed p left) (closed (runs.closed p left))
      | inr more ↦ left_by (states_of_tables others ws m) (with_writes log.owed writes) p more (front (with_writes log.owed writes) (with_owed log.owed writes)) (λ name serves. runs.closed p left) (closed (runs.closed p left))
    ]

-- ---- a leaf at rest

pub rests_whole : (ws : List Watched) (others : NamedStates) (least : List ℕ → List Write) (next : Option LogRecord) (m : Meaning) → Rests ws others least next m
    → EachNow (λ p. Left reads (states_of_tables others ws m) p) m
rests_whole ws others least next m rests p left =
    let most : (name : List ℕ) → IsFrontOf (with_writes next least name) (states_of_tables others ws m name) =
    λ name. kept_most (least name) (with_writes next least name) (states_of_tables others ws m name) (rests.each name) (with_owed next least name).no_less in
    let region : RegionLeft reads (states_of_tables others ws m) p = rests_region (states_of_tables others ws m) m p rests.stands rests.region left in
    let serving = λ (name : List ℕ). not_open (states_of_tables others ws m name) p (rests.each name).shut in
    elim (rests.logs p left) [
      | inl shortest ↦ left_by (states_of_tables others ws m) least p shortest (λ name. kept_least (least name) (with_writes next least name) (states_of_tables others ws m name) (rests.each name)) serving region
      | inr longest ↦ left_by (states_of_tables others ws m) (with_writes next least) p longest most serving region
    ]
