-- What a start that is refused leaves.
use Rattle.std.proofs.Common.{◌≡◌, ◌⊎◌, inl, inr, ℕ, List, [], Option, Err, refl, sym, ap, subst, le_refl}
use Rattle.std.specs.Prelude.{◌≢◌, IsTrue, Result}
use Rattle.leaf_model.specs.declared.writes.Write.{Write}
use Rattle.row_records.specs.Records.{LogRecord}
use Rattle.berth_face.specs.Berth.{Meaning}
use Rattle.berth_face.proofs.Moments.{passes_none}
use Rattle.disk_backup.specs.Logs.{IsSound}
use Rattle.disk_backup.specs.Settling.{with_writes}
use Rattle.leaf_opening.specs.declared.ways.OpenFault.{OpenFault}
use Rattle.leaf_opening.specs.declared.ways.OpenFault.TheVariants as found
use Rattle.disk_backup.specs.SoundLogs.{HasSoundLog}
use Rattle.leaf_opening.specs.declared.opening.Opened.{Opened}
use Rattle.leaf_opening.specs.Starts.{IsOpeningRefusal}
use Rattle.leaf_table.specs.Calls.{IsFresh}
use Rattle.crash_moments.specs.Left.{NamedStates}
use Rattle.crash_moments.specs.Watched.{Watched}
use Rattle.crash_moments.specs.Told.{Told}
use Rattle.crash_moments.proofs.Telling.{none_more}
use Rattle.crash_states.specs.Standing.{Rests}
use Rattle.crash_states.proofs.Lefts.{rests_told}
use Rattle.crash_starting.proofs.Starting.{opening_told, refused}
use Rattle.leaf_words.specs.declared.note.Note.{Note}
use Rattle.leaf_steward.specs.Seated.{Seated, AreSeated, AtEach, watched_by}
use Rattle.leaf_steward.specs.Making.{Makes}
use Rattle.leaf_steward.proofs.Watching.{watch_names}
use Rattle.leaf_machine.specs.declared.faults.StartFault.TheVariants as fault
use Rattle.leaf_machine.specs.States.{IsDown}
use Rattle.leaf_machine.specs.Starts.{IsFirstWorn, told_of}
use Rattle.leaf_machine.specs.Started.{Finds, Started}
use Rattle.leaf_machine.proofs.StartFaults.{told_as, told_exact, told_refused, told_start}

-- ---- a leaf that rests has a log that is sound

one_sound : (first second : List ℕ → List Write) (disk : List ℕ) → HasSoundLog first disk ⊎ HasSoundLog second disk → IsSound disk
one_sound first second disk (inl has) = has.sound
one_sound first second disk (inr has) = has.sound

rests_sound : (ws : List Watched) (others : NamedStates) (least : List ℕ → List Write) (next : Option LogRecord) (m : Meaning) → Rests ws others least next m → IsSound m.held.disk
rests_sound ws others least next m rests = one_sound least (λ name. with_writes next least name) m.held.disk (rests.logs m.held rests.stands.reads)

-- ---- a refusal

-- the opening's answer
abbrev failed : OpenFault → Result Opened OpenFault
failed f = Err f

module _ (x : Seated) (seated : AreSeated x) (a b : Meaning) (f : OpenFault) (is : Finds x.names (Err f) a b) where
  abbrev ws : List Watched
  ws = watched_by x

  rests_on : (others : NamedStates) (least : List ℕ → List Write) (next : Option LogRecord) → IsTrue a.tells → Rests ws others least next a → Rests ws others least next b
  rests_on others least next tells rests =
      refused ws others least next a b f rests (is.made tells) (subst (λ (names : List (List ℕ)). IsOpeningRefusal names a b f) (sym (watch_names x seated)) (is.refused tells))

  goes_on : (others : NamedStates) (least : List ℕ → List Write) (next : Option LogRecord) → IsTrue a.tells → Rests ws others least next a
      → Rests ws others least next b × Told others ws ws a b × (told_of f ≢ fault.DiskDamaged)
  goes_on others least next tells rests = (
    rests_on others least next tells rests,
    opening_told ws others least next a b (Err f) rests (is.made tells),
    λ damaged. is.sound tells (rests_sound ws others least next a rests) (ap failed (told_as f found.DiskDamaged damaged)),
  )

  pub down_on : IsDown x a → IsDown x b
  down_on down = record {
    shut = down.shut;
    stands = λ founded.
        let stood = down.stands founded in
        (subst IsTrue (sym is.time.tells) stood.0, (stood.1.0, stood.1.1, stood.1.2, rests_on stood.1.0 stood.1.1 stood.1.2 stood.0 stood.1.3));
  }

-- all that a start does for which the opening was refused
pub err_starts : {B : Type 0} (meaning : B → Meaning) (x : Seated) (before after : B) (f : OpenFault) (notes : List Note) → AreSeated x → AtEach (λ place t v. IsFresh v) x
    → Finds x.names (Err f) (meaning before) (meaning after) → notes ≡ [] → Started meaning x before notes (Err ((x, after), told_of f))
err_starts meaning x before after f notes seated fresh is none = record {
  start = told_start x before after notes f fresh none is.named;
  made = Makes.none (meaning before).clock (meaning after).clock x notes x is.time.later none refl;
  came = λ tells. tt;
  way = λ tells. tt;
  refused = λ tells. told_refused x.names (meaning before) (meaning after) f (is.refused tells);
  exact = λ tells. told_exact x.names (meaning before).held f (is.exact tells);
  disk = λ tells. (is.made tells).held;
  crash = λ others least next tells founded rests. goes_on x seated (meaning before) (meaning after) f is others least next tells rests;
  time = is.time;
  region_cause = λ same. is.region_cause (ap failed (told_as f found.RegionFault same));
  disk_cause = λ same. is.disk_cause (ap failed (told_as f found.DiskFault same));
  reads = tt;
}

-- all that a start does where a seat is worn: nothing is touched
pub worn_starts : {B : Type 0} (meaning : B → Meaning) (x : Seated) (b : B) (table : ℕ) (notes : List Note) → IsFirstWorn x table → notes ≡ [] → Started meaning x b notes (Err ((x, b), fault.Worn table))
worn_starts meaning x b table notes worn none = record {
  start = (worn, refl, refl, none);
  made = Makes.none (meaning b).clock (meaning b).clock x notes x (le_refl (meaning b).clock) none refl;
  came = λ tells. tt;
  way = λ tells. tt;
  refused = λ tells. tt;
  exact = λ tells. tt;
  disk = λ tells. inl refl;
  crash = λ others least next tells founded rests.
      (rests, rests_told (watched_by x) (watched_by x) others least next (meaning b) rests (none_more (meaning b).clock (meaning b).clock (watched_by x)), λ same. absurd cc);
  time = passes_none (meaning b);
  region_cause = λ same. absurd cc;
  disk_cause = λ same. absurd cc;
  reads = tt;
}
