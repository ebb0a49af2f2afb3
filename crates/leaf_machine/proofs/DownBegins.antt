-- Over a berth where a leaf with a base may begin, tables that are founded with that base rest.
use Rattle.std.proofs.Common.{◌≡◌, ℕ, List, [], Option, sym, subst}
use Rattle.std.specs.List.{AllByRecursion}
use Rattle.leaf_model.specs.declared.writes.Write.{Write}
use Rattle.row_records.specs.Records.{LogRecord}
use Rattle.berth_face.specs.Berth.{Meaning}
use Rattle.region_layout.specs.Region.{reads}
use Rattle.disk_backup.specs.Settling.{with_writes}
use Rattle.leaf_history.specs.History.{HistoryState}
use Rattle.crash_moments.specs.Left.{NamedStates}
use Rattle.crash_moments.specs.Watched.{Watched}
use Rattle.crash_moments.proofs.Alike.{region_alike}
use Rattle.crash_states.specs.Standing.{IsKept, Rests, states_of_tables}
use Rattle.crash_starting.specs.Laws.{AreUnseen}
use Rattle.crash_starting.proofs.ReadyTables.{IsNew, all_watched, are_new, tables_same}

-- tables that their steward has not seen yet, founded with that base, rest there
pub begun_rests : (base : NamedStates) (ws : List Watched) (least : List ℕ → List Write) (next : Option LogRecord) (m : Meaning) → Rests [] base least next m → AreUnseen base ws → Rests ws base least next m
begun_rests base ws least next m rests new =
    let unseen : AllByRecursion (IsNew base) ws = are_new base ws new in
    let same : (name : List ℕ) → states_of_tables base ws m name ≡ base name = tables_same base ws m unseen in
    record {
      watched = record { each = all_watched m.clock base ws rests.sound unseen; apart = new.apart };
      stands = rests.stands;
      logs = rests.logs;
      each = λ name. subst (λ (s : HistoryState). IsKept (least name) (with_writes next least name) s) (sym (same name)) (rests.each name);
      sound = rests.sound;
      empty = rests.empty;
      region = λ p left.
          region_alike reads (states_of_tables base [] m) (states_of_tables base ws m) (record { region = m.held.region; disk = p.disk }) (λ name. sym (same name)) (rests.region p left);
    }

-- no table is founded with any base
pub none_new : (base : NamedStates) → AreUnseen base []
none_new base = record { apart = tt; each = λ place w at. absurd cc }
