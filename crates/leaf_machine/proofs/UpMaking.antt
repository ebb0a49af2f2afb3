-- A table is taken, and what is told of it.
use Rattle.std.proofs.Common.{◌≡◌, ℕ, true, Bool, List, [], ◌∷◌, ◌++◌, Option, Some, None, refl, sym, ap, subst, ◌∙◌, le_refl}
use Rattle.std.specs.Prelude.{slice_get, slice_set}
use Rattle.leaf_model.specs.declared.writes.Write.{Write}
use Rattle.row_records.specs.Records.{LogRecord}
use Rattle.berth_face.specs.Berth.{Meaning}
use Rattle.leaf_history.specs.Calls as call
use Rattle.leaf_history.specs.Replies as reply
use Rattle.leaf_history.specs.History.{Entry, HistoryState, after, untaken}
use Rattle.crash_moments.specs.Left.{NamedStates}
use Rattle.leaf_table.specs.Turns.{Shared, is_founded, start_of}
use Rattle.leaf_table.specs.Turns as table
use Rattle.leaf_table.specs.Calls.{base_seen, name_of, seen_of, state_before}
use Rattle.crash_moments.specs.Watched.{Watched}
use Rattle.crash_moments.specs.Told.{SeenMore, Told}
use Rattle.crash_moments.proofs.Telling.{more_on}
use Rattle.crash_states.specs.Standing.{Runs}
use Rattle.crash_states.specs.Entries.{Enters}
use Rattle.crash_serving.specs.Laws.{Owes, record_for, untaken_before}
use Rattle.crash_serving.proofs.Running.{takes}
use Rattle.leaf_words.specs.declared.note.What.TheVariants as what
use Rattle.leaf_steward.specs.Seated.{Seated, AreSeated, AreFounded, watched, watched_by}
use Rattle.leaf_steward.specs.Making.{TakesAt}
use Rattle.leaf_steward.proofs.WatchPlaces.{watch_all}
use Rattle.leaf_steward.proofs.Keeping.{makes_one}
use Rattle.leaf_steward.proofs.WatchEntries.{made_enters}
use Rattle.leaf_steward.proofs.WatchMakes.{makes_more}
use Rattle.leaf_steward.proofs.Watching.{watch_get, watch_set}
use Rattle.leaf_steward.specs.Owing.{Owing, HasJustTaken}
use Rattle.leaf_machine.proofs.UpSeats.{takes_entry}

-- ---- what is told

-- entries were made while no call on the berth went on, and then what is told
pub told_behind : (others : NamedStates) (xs ys zs : List Watched) (a b : Meaning) → SeenMore a.clock a.clock xs ys → Told others ys zs a b → Told others xs zs a b
told_behind others xs ys zs a b more told =
    record { passes = told.passes; more = more_on a.clock a.clock b.clock xs ys zs (le_refl a.clock) told.passes.later more told.more; left = told.left }

-- ---- a table was taken

pub same_record : (name : List ℕ) (ws : List Write) → table.record_for name ws ≡ record_for name ws
same_record name [] = refl
same_record name (w ∷ ws) = refl

module _ (m : Meaning) (place number n : ℕ) (pending : Option LogRecord) (x y : Seated) (taken : TakesAt m.clock x place number n pending y) (seated : AreSeated x) (founded : AreFounded x) where
  is_base : is_founded (base_seen taken.table) ≡ true
  is_base = watch_all (λ (t : Shared). is_founded (base_seen t) ≡ true) x.tables place taken.table founded taken.at

  abbrev old : Watched
  old = watched taken.table taken.before

  abbrev new : Watched
  new = watched taken.table taken.after

  enters : (e : Enters m.clock call.Take (reply.Counted n) old new) × (e.between ≡ taken.made.between)
  enters = made_enters taken.table taken.before taken.after m.clock call.Take (reply.Counted n) is_base (seated.each place taken.table taken.before taken.at taken.was) taken.made

  -- what is owed of it is what its steward had not taken
  record_is : pending ≡ record_for (name_of taken.table) (untaken_before enters.0)
  record_is =
      let base = base_seen taken.table in
      let start : HistoryState = start_of base in
      let seen : List Entry = seen_of taken.before in
      let state : state_before base taken.before taken.made.between ≡ after true start (seen ++ enters.0.between) =
      ap (λ (b : Bool). after b start (seen ++ taken.made.between)) is_base ∙ ap (λ (es : List Entry). after true start (seen ++ es)) (sym enters.1) in
      taken.record_is ∙ ap (λ (s : HistoryState). table.record_for (name_of taken.table) (untaken s)) state ∙ same_record (name_of taken.table) (untaken_before enters.0)

  watched_now : watched_by y ≡ slice_set (watched_by x) place new
  watched_now = ap (λ (s : Seated). watched_by s) taken.now ∙ watch_set x place taken.table taken.after taken.at

  -- whatever its log then is, the leaf runs
  pub has_taken : (o : Owing) (writes : List ℕ → List Write) → o.log.owed ≡ None → Runs (watched_by x) o.owner o.log writes m → HasJustTaken y o place pending writes m
  has_taken o writes none runs = λ log' owes.
      let here : slice_get (watched_by x) place ≡ Some old = watch_get x place taken.table taken.before taken.at taken.was in
      let of_it : Owes (record_for old.name (untaken_before enters.0)) o.log log' = subst (λ (q : Option LogRecord). Owes q o.log log') record_is owes in
      subst (λ (ws : List Watched). Runs ws place log' writes m) (sym watched_now) (takes (watched_by x) place o.owner n old new o.log log' writes m runs none here enters.0 of_it).runs

  -- its steward has seen more
  pub taken_more : SeenMore m.clock m.clock (watched_by x) (watched_by y)
  taken_more = makes_more m.clock m.clock x (record { table = place; number = number; what = what.Took n } ∷ []) y seated founded
      (makes_one m.clock m.clock m.clock x (record { table = place; number = number; what = what.Took n }) y (le_refl m.clock) (le_refl m.clock) (takes_entry m.clock place number n pending x y taken seated))
