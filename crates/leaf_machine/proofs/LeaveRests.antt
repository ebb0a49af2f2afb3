-- Another leaf may begin where one rests: its base has the writes of the longest log, and those of the shortest are
-- flushed.
use Rattle.std.proofs.Common.{◌≡◌, ◌⊎◌, inl, inr, ◌∙◌, ℕ, ◌≤◌, Bool, true, false, List, [], length, Option, refl, sym, ap, subst, arith}
use Rattle.std.specs.Prelude.{IsTrue}
use Rattle.std.proofs.lemmas.Bool.{false≢true}
use Rattle.std.proofs.lemmas.List.{take_all}
use Rattle.leaf_model.specs.declared.writes.Write.{Write}
use Rattle.row_records.specs.Records.{LogRecord}
use Rattle.berth_face.specs.Berth.{Pair, Meaning}
use Rattle.region_layout.specs.Region.{reads}
use Rattle.disk_backup.specs.Logs.{writes_of}
use Rattle.disk_backup.specs.Settling.{HasLog, with_writes}
use Rattle.leaf_history.specs.History.{base_of}
use Rattle.disk_backup.specs.SoundLogs.{HasSoundLog, HasFewRows}
use Rattle.crash_moments.specs.Left.{NamedStates, RegionLeft, closed, other_version, image}
use Rattle.crash_moments.specs.Watched.{Watched, IsFoundation, IsWatched, now_of, others_then, was_opened}
use Rattle.crash_moments.proofs.Alike.{log_alike}
use Rattle.crash_states.specs.Standing.{IsKept, RegionRests, Rests, states_of_tables}
use Rattle.crash_states.proofs.Names.{IsOwn, IsForeign, find_name, each_at, others_at}
use Rattle.crash_states.proofs.States.{front_short, kept_most, now_sound, with_owed, without_owed}
use Rattle.crash_states.proofs.Disks.{same_log}
use Rattle.crash_states.proofs.Spare.{few_left, least_spare, spare_fewer, spare_left, spared}
use Rattle.crash_states.specs.Beginning.{BeginsAgain}
use Rattle.leaf_machine.proofs.CopyWatching.{nothing_sound}

-- names that the leaf does not have are sound, whether it has opened a table or not
others_sound : (opened : Bool) (others : NamedStates) (name : List ℕ) → IsFoundation (others name) → IsFoundation (others_then opened others name)
others_sound true others name sound = nothing_sound name
others_sound false others name sound = sound

module _ (ws : List Watched) (others : NamedStates) (least : List ℕ → List Write) (next : Option LogRecord) (m : Meaning) (rests : Rests ws others least next m) where
  abbrev tables : NamedStates
  tables = states_of_tables others ws m

  abbrev most : List ℕ → List Write
  most = with_writes next least

  -- ---- the base

  region_now : RegionLeft reads tables m.held
  region_now = rests.region m.held rests.stands.reads

  abbrev spare : List ℕ → ℕ
  spare name = spare_left tables most m.held region_now name

  abbrev base : NamedStates
  base name = base_of (most name) (length (least name)) (spare name)

  table_sound : (name : List ℕ) → IsFoundation (tables name)
  table_sound name = by (find_name ws name)
    where
      by : IsOwn ws name ⊎ IsForeign ws name → IsFoundation (tables name)
      by (inl own) =
          subst IsFoundation (sym (own.stands now_of (others_at others m.clock ws))) (now_sound m.clock own.table (each_at (IsWatched m.clock) ws rests.watched.each own.place own.table own.at))
      by (inr foreign) =
          subst IsFoundation (sym (foreign.stands now_of (others_at others m.clock ws))) (others_sound (was_opened m.clock ws) others name (rests.sound name))

  most_short : (name : List ℕ) → HasFewRows (most name)
  most_short name =
      front_short (most name) (tables name) (kept_most (least name) (most name) (tables name) (rests.each name) (with_owed next least name).no_less) (table_sound name).short

  base_sound : (name : List ℕ) → IsFoundation (base name)
  base_sound name = record { before = refl; handed_in = refl; taken = omega arith; short = most_short name }

  base_kept : (name : List ℕ) → IsKept (least name) (most name) (base name)
  base_kept name = record {
    shut = refl;
    flushed = omega arith;
    shortest = (without_owed next least name).front;
    longest = (with_owed next least name).front;
    handed = λ done. absurd (false≢true done);
  }

  -- ---- the region

  -- where a log has all of the tables, they have just what the longest has
  module _ (p : Pair) (left : m.leaves m.clock p) (log_end : ℕ) (had : HasLog (λ n. (tables n).writes) log_end p.disk) (name : List ℕ) where
    of_log : (held : List ℕ → List Write) → HasSoundLog held p.disk → (tables name).writes ≡ held name
    of_log held log = sym (had.2 name) ∙ ap (λ (records : List LogRecord). writes_of name records) (sym (same_log (λ n. (tables n).writes) held log_end p.disk had log).0) ∙ log.each name

    pub whole_most : (tables name).writes ≡ most name
    whole_most = by (rests.logs p left)
      where
        by : HasSoundLog least p.disk ⊎ HasSoundLog most p.disk → (tables name).writes ≡ most name
        by (inl log) =
            let few : length (tables name).writes ≤ length (most name) = omega (arith, ap (λ (l : List Write). length l) (of_log least log), (with_owed next least name).no_less) in
            sym ((rests.each name).longest ∙ take_all (length (most name)) (tables name).writes few)
        by (inr log) = of_log most log

  base_region : RegionRests (states_of_tables base [] m) m
  base_region p left = by (rests.region p left)
    where
      beside : Pair
      beside = record { region = m.held.region; disk = p.disk }

      by : RegionLeft reads tables beside → RegionLeft reads (states_of_tables base [] m) beside
      by (closed shut) = closed shut
      by (other_version version head other) = other_version version head other
      by (image version images end reads_it is are had) =
          image version images end reads_it is
          (spared (λ n. (tables n).spare) spare (λ n. (tables n).writes) most images (whole_most p left end had)
          (few_left tables most m.held region_now images end (record { version = version; reads_it = reads_it; is = is })) are)
          (log_alike (λ n. (tables n).writes) most end p.disk (whole_most p left end had) had)

  -- ---- the leaf

  pub rests_begin : IsTrue m.tells → BeginsAgain tables m
  rests_begin tells = record {
    base = base;
    is = λ name. refl;
    begins = (
      tells,
      (
        least,
        next,
        record {
          watched = record { each = tt; apart = tt };
          stands = rests.stands;
          logs = rests.logs;
          each = base_kept;
          sound = base_sound;
          empty = rests.empty;
          region = base_region;
        },
      ),
    );
    tight = λ name. refl;
    least = λ name. least_spare tables most m.held region_now name (base name) refl refl;
    front = λ name. record { front = (rests.each name).longest; flushed = (rests.each name).flushed; spare = spare_fewer tables most m.held region_now name (λ end had. whole_most m.held rests.stands.reads end had name) };
  }
