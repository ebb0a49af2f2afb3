-- Over a berth that is ready a leaf rests with its base.
use Rattle.std.proofs.Common.{◌≡◌, ℕ, List, Option, Some, sym, ap, subst}
use Rattle.region_layout.specs.Region.{reads}
use Rattle.std.specs.List.{AllByRecursion}
use Rattle.leaf_model.specs.declared.writes.Write.{Write}
use Rattle.leaf_history.specs.History.{HistoryState}
use Rattle.row_records.specs.Records.{LogRecord}
use Rattle.disk_backup.specs.Settling.{with_writes}
use Rattle.berth_face.specs.Berth.{Pair, Meaning}
use Rattle.crash_moments.specs.Left.{NamedStates, Left, RegionLeft, closed, other_version, image}
use Rattle.crash_moments.specs.Base.{IsReady, PairsMayBegin}
use Rattle.crash_moments.specs.Watched.{Watched, IsFoundation}
use Rattle.crash_moments.proofs.Alike.{region_alike}
use Rattle.crash_states.specs.Standing.{IsKept, RegionRests, Rests, StandsNow, states_of_tables}
use Rattle.crash_starting.specs.Laws.{AreUnseen}
use Rattle.crash_starting.proofs.ReadyLogs.{OneVaries, least_of, log_is, most_is, next_of, one_varies}
use Rattle.crash_starting.proofs.ReadyTables.{IsNew, all_watched, are_new, founded, kept_one, tables_same}

-- its region is left of the base beside each disk: an image that is read stands beside logs that have all of the base
region_is : (base tables : NamedStates) (m : Meaning) → PairsMayBegin reads (m.leaves m.clock) m.held base → ((name : List ℕ) → tables name ≡ base name) → RegionLeft reads base m.held → RegionRests tables m
region_is base tables m begins same held p left = region_alike reads base tables beside (λ name. sym (same name)) (by held)
  where
    beside : Pair
    beside = record { region = m.held.region; disk = p.disk }

    by : RegionLeft reads base m.held → RegionLeft reads base beside
    by (closed shut) = closed shut
    by (other_version version head other) = other_version version head other
    by (image version images end reads_it is are had) = image version images end reads_it is are (begins.image version images end reads_it is p left)

pub ready_rests : (base : NamedStates) (ws : List Watched) (m : Meaning) → IsReady reads m base → StandsNow m → AreUnseen base ws
    → (least : List ℕ → List Write) × (next : Option LogRecord) × Rests ws base least next m
ready_rests base ws m ready stands new =
    let may : Pair → Type 0 = λ p. m.leaves m.clock p in
    let begins = ready.begins in
    let one : (but : List ℕ) × OneVaries may base but = one_varies reads may m.held base begins in
    let unseen : AllByRecursion (IsNew base) ws = are_new base ws new in
    let same : (name : List ℕ) → states_of_tables base ws m name ≡ base name = tables_same base ws m unseen in
    let sound : (name : List ℕ) → IsFoundation (base name) = λ name. founded reads may base name begins.left (begins.base_is name) in
    let held : Left reads base m.held = begins.left m.held stands.reads in
    let next : Option LogRecord = Some (next_of base one.0) in (
      least_of base,
      next,
      record {
        watched = record { each = all_watched m.clock base ws sound unseen; apart = new.apart };
        stands = stands;
        logs = λ p left. log_is reads may base one.0 p one.1 (begins.left p left) left;
        each = λ name.
            subst (λ (s : HistoryState). IsKept (least_of base name) (with_writes next (least_of base) name) s) (sym (same name))
            (kept_one may name (base name) (with_writes next (least_of base) name) (begins.base_is name) (most_is may base one.0 name one.1));
        sound = sound;
        empty = begins.empty;
        region = region_is base (states_of_tables base ws m) m begins same held.region;
      },
    )
