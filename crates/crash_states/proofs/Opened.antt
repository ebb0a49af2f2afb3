-- A berth that was opened on a pair which belongs to some tables may be begun over, with all that its log has: a front
-- of their writes with each flushed one.
use Rattle.std.proofs.Common.{◌≡◌, inl, inr, ◌∙◌, ℕ, ◌≤◌, List, [], length, take, None, refl, sym, ap, subst, arith, lit≤}
use Rattle.std.specs.Prelude.{◌⊎◌}
use Rattle.std.proofs.lemmas.List.{length-take-le, take_all}
use Rattle.leaf_model.specs.declared.writes.Write.{Write}
use Rattle.row_records.specs.Records.{LogRecord}
use Rattle.berth_face.specs.Berth.{Pair, Meaning, IsClosed, OpenedOn}
use Rattle.leaf_history.specs.History.{base_of}
use Rattle.region_layout.specs.Region.{IsAdoptable, reads}
use Rattle.disk_backup.specs.Logs.{writes_of}
use Rattle.disk_backup.specs.Settling.{HasLog}
use Rattle.disk_backup.specs.SoundLogs.{HasSoundLog}
use Rattle.crash_moments.specs.Left.{NamedStates, Left, RegionLeft, closed, other_version, image}
use Rattle.crash_states.specs.Standing.{Rests}
use Rattle.crash_states.proofs.Disks.{same_log}
use Rattle.crash_states.proofs.Spare.{few_left, least_spare, spare_fewer, spare_left, spared}
use Rattle.crash_states.specs.Beginning.{BeginsOnLog, IsFrontOf, IsLeastSpare}

module _ (tables : NamedStates) (p : Pair) (m : Meaning) (left : Left reads tables p) (o : OpenedOn p.region p.disk m) (there : m.leaves m.clock m.held) where
  -- what the log has of each name
  abbrev logged : List ℕ → List Write
  logged name = writes_of name left.sound.0

  abbrev spare : List ℕ → ℕ
  spare name = spare_left tables logged p left.region name

  -- all of it is flushed
  abbrev base_on : NamedStates
  base_on name = base_of (logged name) (length (logged name)) (spare name)

  sound_log : HasSoundLog logged p.disk
  sound_log = record { sound = left.sound; each = λ name. refl }

  -- a log that has all of the tables has just their writes
  whole : (disk : List ℕ) → HasSoundLog logged disk → (end : ℕ) → HasLog (λ n. (tables n).writes) end disk → (name : List ℕ) → (tables name).writes ≡ logged name
  whole disk log end had name =
      let one = same_log (λ (n : List ℕ). (tables n).writes) logged end disk had log in
      sym (had.2 name) ∙ (ap (λ (rs : List LogRecord). writes_of name rs) (sym one.0) ∙ log.each name)

  -- a region that belongs to the tables belongs to the base, beside the same log
  rebased : (q : Pair) → q.region ≡ p.region → HasSoundLog logged q.disk → RegionLeft reads tables q → RegionLeft reads base_on q
  rebased q here log (closed shut) = closed shut
  rebased q here log (other_version version head other) = other_version version head other
  rebased q here log (image version images end reads_it is are had) =
      let all : (name : List ℕ) → (tables name).writes ≡ logged name = whole q.disk log end had in
      let there : IsAdoptable p.region images end = subst (λ (r : List ℕ). IsAdoptable r images end) here (record { version = version; reads_it = reads_it; is = is }) in
      image version images end reads_it is
      (spared (λ n. (tables n).spare) spare (λ n. (tables n).writes) logged images all (few_left tables logged p left.region images end there) are) (had.0, had.1, λ name. had.2 name ∙ all name)

  rests_on : Rests [] base_on logged None m
  rests_on = record {
    watched = record { each = tt; apart = tt };
    stands = record { reads = there; regions = λ q at. subst (λ (r : List ℕ). (q.region ≡ r) ⊎ IsClosed q.region) (sym (ap (λ (h : Pair). h.region) o.held)) (o.pairs q at).0 };
    logs = λ q at. inl (subst (HasSoundLog logged) (sym (o.pairs q at).1) sound_log);
    each = λ name. record {
      shut = refl;
      flushed = omega arith;
      shortest = sym (take_all (length (logged name)) (logged name) (omega arith));
      longest = sym (take_all (length (logged name)) (logged name) (omega arith));
      handed = λ e. (refl, refl);
    };
    sound = λ name. record { before = refl; handed_in = refl; taken = omega arith; short = λ k. left.sound.3 name k };
    empty = λ e q at. subst (λ (d : List ℕ). length d ≤ 1) (sym ((o.pairs q at).1 ∙ (sym (ap (λ (h : Pair). h.disk) o.held) ∙ e))) (lit≤ tt);
    region = λ q at. rebased (record { region = m.held.region; disk = q.disk }) (ap (λ (h : Pair). h.region) o.held) (subst (HasSoundLog logged) (sym (o.pairs q at).1) sound_log)
        (subst (λ (d : List ℕ). RegionLeft reads tables (record { region = m.held.region; disk = d })) (sym (o.pairs q at).1)
        (subst (λ (r : List ℕ). RegionLeft reads tables (record { region = r; disk = p.disk })) (sym (ap (λ (h : Pair). h.region) o.held)) left.region));
  }

  front_on : (name : List ℕ) → IsFrontOf (tables name) (base_on name)
  front_on name =
      let f = left.front name in
      let size : length (logged name) ≡ f.0 = ap (λ (ws : List Write). length ws) f.3 ∙ length-take-le f.0 (tables name).writes f.1 in
      record { front = f.3 ∙ ap (λ (k : ℕ). take k (tables name).writes) (sym size); flushed = omega (arith, f.2, size); spare = spare_fewer tables logged p left.region name (λ end had. whole p.disk sound_log end had name) }

  pub begins_on : BeginsOnLog tables p.disk m
  begins_on = record {
    logged = logged;
    spare = spare;
    log = sound_log;
    begins = (o.tells, (logged, None, rests_on));
    least = λ name. subst (λ (r : List ℕ). IsLeastSpare r name (base_on name)) (sym (ap (λ (h : Pair). h.region) o.held)) (least_spare tables logged p left.region name (base_on name) refl refl);
    front = front_on;
  }
