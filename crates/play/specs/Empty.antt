-- The base of a new berth in memory, which is empty and was never written.
use Rattle.std.specs.Prelude.{◌≡◌, ◌⊎◌, ℕ, ◌≤◌, List, [], length, None, refl}
use mathlib.Core.Logic.{inl}
use Rattle.std.proofs.Common.{ap, sym, subst, lit<, lit≤}
use Rattle.leaf_model.specs.declared.writes.Write.{Write}
use Rattle.leaf_history.specs.History.{no_base}
use Rattle.berth_face.specs.Berth.{Pair, Meaning, IsClosed, OpenedOn}
use Rattle.berth_mem.specs.declared.berth.MemBerth.{MemBerth}
use Rattle.berth_mem.specs.Forms.{FreshOn, meaning}
use Rattle.berth_mem.specs.Laws.{stands}
use Rattle.disk_backup.specs.Logs.{is_short}
use Rattle.disk_backup.specs.SoundLogs.{HasSoundLog}
use Rattle.disk_backup.proofs.SoundLogs.{none_short}
use Rattle.crash_moments.specs.Left.{NamedStates, closed}
use Rattle.crash_states.specs.Standing.{Rests}
use Rattle.play.specs.Played.{IsBase}

-- no name has writes
abbrev pub nothing_kept : NamedStates
nothing_kept name = no_base

-- ---- a leaf may begin over it

abbrev none_written : List ℕ → List Write
none_written name = []

-- the log of an empty disk has no writes
empty_log : HasSoundLog none_written []
empty_log = record { sound = ([], 0, is_short (lit≤ tt) refl refl, λ name. none_short); each = λ name. refl }

-- the berth is as a leaf at rest without tables leaves it
rests_empty : (m : Meaning) → OpenedOn [] [] m → m.leaves m.clock m.held → Rests [] nothing_kept none_written None m
rests_empty m o there = record {
  watched = record { each = tt; apart = tt };
  stands = record { reads = there; regions = λ p left. subst (λ (r : List ℕ). (p.region ≡ r) ⊎ IsClosed p.region) (sym (ap (λ (held : Pair). held.region) o.held)) (o.pairs p left).0 };
  logs = λ p left. inl (subst (HasSoundLog none_written) (sym (o.pairs p left).1) empty_log);
  each = λ name. record { shut = refl; flushed = lit≤ tt; shortest = refl; longest = refl; handed = λ e. (refl, refl) };
  sound = λ name. record { before = refl; handed_in = refl; taken = lit≤ tt; short = none_short };
  empty = λ e p left. subst (λ (disk : List ℕ). length disk ≤ 1) (sym (o.pairs p left).1) (lit≤ tt);
  region = λ p left. closed (subst (λ (held : Pair). IsClosed held.region) (sym o.held) (inl (lit< tt)));
}

-- a leaf may begin over a berth that was just made empty, where no name has writes
pub is_fresh_base : (berth : MemBerth) → FreshOn [] [] berth → IsBase nothing_kept (meaning berth)
is_fresh_base berth f =
    let there = stands berth.region.items berth.disk.items berth.calls.items berth.region_faults berth.disk_faults berth.disk_reads in
    record { begins = (refl, (none_written, None, rests_empty (meaning berth) f.opened there)); is = λ name. refl; least = λ name. inl refl }
