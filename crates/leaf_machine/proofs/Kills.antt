-- A leaf that serves its tables or shuts them is killed: the open tables are shut, and it rests.
use Rattle.std.proofs.Common.{◌≡◌, ℕ, ◌+◌, ◌<◌, ◌≤◌, true, List, length, inl, inr, sym, ap, ◌∙◌, le_refl}
use Rattle.std.specs.Prelude.{slice_get}
use Rattle.std.proofs.lemmas.Bool.{cases_lt}
use Rattle.leaf_model.specs.declared.writes.Write.{Write}
use Rattle.berth_face.specs.Berth.{Meaning}
use Rattle.crash_moments.specs.Watched.{Watched, was_opened}
use Rattle.crash_moments.proofs.Telling.{opened_more}
use Rattle.crash_states.specs.Standing.{Runs, Rests}
use Rattle.crash_states.proofs.Lefts.{rests_left, told_now}
use Rattle.crash_serving.specs.Laws.{IsKilled}
use Rattle.crash_serving.proofs.Running.{kills}
use Rattle.leaf_words.specs.declared.note.Note.{Note}
use Rattle.leaf_steward.specs.Seated.{Seated, AtEach, AreSeated, AreFounded, watched_by}
use Rattle.leaf_table.specs.Turns.{Shared}
use Rattle.leaf_table.specs.Calls.{SeesShut}
use Rattle.leaf_steward.specs.Making.{Makes, EachNoted, IsClosedNote}
use Rattle.leaf_steward.proofs.Keeping.{founded_as, makes_tables}
use Rattle.leaf_steward.proofs.Watching.{makes_shuts}
use Rattle.leaf_machine.specs.States.{Serving, IsDown, UpStands, RestsOn}
use Rattle.leaf_machine.proofs.CopyWatching.{no_others, nothing_sound, left_others}

module _ (first : ℕ) (x : Serving) (y : Seated) (m : Meaning) (notes : List Note) (seated : AreSeated x.seated) (makes : Makes m.clock m.clock x.seated notes y)
    (shut : AtEach (λ place t v. place < first → SeesShut t v) x.seated) (each : (count : ℕ) × (first + count ≡ length x.seated.tables) × EachNoted IsClosedNote first count notes) where
  killed : (writes : List ℕ → List Write) → AreFounded x.seated → Runs (watched_by x.seated) x.owing.owner x.owing.log writes m → IsKilled (watched_by x.seated) (watched_by y) x.owing.log writes m
  killed writes founded runs =
      kills (watched_by x.seated) (watched_by y) x.owing.owner x.owing.log writes m runs (makes_shuts m.clock first each.0 x.seated notes y seated founded makes each.1 each.2 shut)

  -- what runs rests once it is killed
  pub kill_rests : (writes : List ℕ → List Write) → AreFounded x.seated → Runs (watched_by x.seated) x.owing.owner x.owing.log writes m → RestsOn x.seated y m m
  kill_rests writes founded runs =
      let ws : List Watched = watched_by x.seated in
      let ws' : List Watched = watched_by y in
      let is : IsKilled ws ws' x.owing.log writes m = killed writes founded runs in
      let rests : Rests ws' no_others writes x.owing.log.owed m = is.rests no_others nothing_sound in
      let opened : was_opened m.clock ws' ≡ true = opened_more m.clock m.clock m.clock m.clock ws ws' (le_refl m.clock) is.more runs.opened in
      record {
        least = writes;
        next = x.owing.log.owed;
        rests = is.rests;
        told = λ others. told_now ws ws' others m (left_others ws' others m opened (rests_left ws' no_others writes x.owing.log.owed m rests)) is.more;
      }

  pub kill_down : UpStands x m → AtEach (λ place t v. first ≤ place → SeesShut t v) y → ((place : ℕ) → place < first → slice_get y.seats place ≡ slice_get x.seated.seats place) → IsDown y m
  kill_down stands shut_now before = record {
    shut = λ place t v at was. elim (cases_lt place first) [
      | inl earlier ↦ shut place t v (ap (λ (ts : List Shared). slice_get ts place) (sym tables) ∙ at) (sym (before place earlier) ∙ was) earlier
      | inr later ↦ shut_now place t v at was later
    ];
    stands = λ founded.
        let base : AreFounded x.seated = founded_as y x.seated (sym tables) founded in
        let old = stands base in
        (old.0, (no_others, old.1.0, x.owing.log.owed, (killed old.1.0 base old.1.1).rests no_others nothing_sound));
  }
    where
      tables : y.tables ≡ x.seated.tables
      tables = makes_tables m.clock m.clock x.seated notes y makes
