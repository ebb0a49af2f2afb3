-- A worked life of a leaf: a start over an empty disk, a flush, a crash inside it, and a drain.
use Rattle.std.specs.Prelude.{ℕ, Bool, true, false, List, [], ◌∷◌, None, Some, codes, refl, map, pos}
use Rattle.std.proofs.Common.{lit<, lit≤, inl, inr}
use Rattle.row_model.specs.declared.rows.Row.{Row}
use Rattle.leaf_model.specs.declared.writes.Write.{Write}
use Rattle.leaf_model.specs.declared.writes.Write.TheVariants as write
use Rattle.leaf_model.specs.Content.{nothing}
use Rattle.leaf_history.specs.Calls as call
use Rattle.leaf_history.specs.Replies as reply
use Rattle.leaf_history.specs.History.{Entry}
use Rattle.crash_events.specs.Machine.{Machine, Tracked, Down, Up, Closed, Whole}
use Rattle.crash_events.specs.Events.{Step, Reaches, here, next, find, way, first_gate, barrier, open_table, turn, take_writes, lay, gate, gate_sync, flushed, prepare, close_taking, plan, copy, open_flag, flag_open, done, crash}

abbrev times : List ℕ → List Row
times ts = map (λ t. record { time = pos t; cells = [] }) ts

-- one table with these writes
abbrev table : List Write → Bool → ℕ → ℕ → Bool → ℕ → Tracked
table writes live taken known handed sure = record {
  name = codes "t";
  own = true;
  state = record { before = nothing; handed_in = 0; writes = writes; live = live; taken = taken; flushed = known; handed = handed; spare = 0 };
  sure = sure;
}

abbrev one : Write
one = write.Add (times (5 ∷ []))

abbrev machine : Tracked → Machine
machine x = record { tables = x ∷ []; hand = None; mode = Down; region = Closed }

abbrev at_first : Machine
at_first = machine (table [] false 0 0 false 0)

abbrev is_up : Machine
is_up = record (machine (table [] true 0 0 false 0)) { mode = Up }

-- a start over an empty disk
starts : Reaches at_first is_up
starts = next (next (next (next (next here (find Closed refl (refl, tt) tt refl)) (way false refl refl refl)) (first_gate false refl refl))
    (barrier false (table [] false 0 0 false 0 ∷ []) refl ((0, inl refl, refl), tt) refl)) (open_table 0 (table [] false 0 0 false 0) refl refl refl refl ((λ e. refl), tt) refl)

abbrev add : Entry
add = record { caller = 1; call = call.Add (times (5 ∷ [])); reply = reply.Added 1 0; clock = 0 }

-- a row is added, and flushed
flushes : Reaches is_up (record (machine (table (one ∷ []) true 1 1 false 1)) { mode = Up })
flushes = next (next (next (next (next (next here (turn 0 (table [] true 0 0 false 0) add refl refl (lit< tt) (lit< tt, (refl, lit≤ tt, refl, refl)) refl))
    (take_writes 0 (table (one ∷ []) true 0 0 false 0) refl refl refl refl refl))
    (lay (record { table = 0; writes = 1; laid = false; gate = false }) refl refl tt refl))
    (gate (record { table = 0; writes = 1; laid = true; gate = false }) refl refl refl))
    (gate_sync (record { table = 0; writes = 1; laid = true; gate = true }) (table (one ∷ []) true 1 0 false 0) refl refl refl refl))
    (flushed 0 1 (table (one ∷ []) true 1 0 false 1) refl refl (lit≤ tt) (lit≤ tt) refl)

-- a crash before the sync of the open gate leaves the row, or does not
abbrev at_gate : Machine
at_gate = record { tables = table (one ∷ []) true 1 0 false 0 ∷ []; hand = Some (record { table = 0; writes = 1; laid = true; gate = true }); mode = Up; region = Closed }

keeps_it : Step at_gate (machine (table (one ∷ []) true 1 0 false 1))
keeps_it = crash Closed (table (one ∷ []) true 1 0 false 1 ∷ []) tt ((1, inr refl, refl), tt) refl

loses_it : Step at_gate (machine (table (one ∷ []) true 1 0 false 0))
loses_it = crash Closed (table (one ∷ []) true 1 0 false 0 ∷ []) tt ((0, inl refl, refl), tt) refl

-- the leaf is drained, and its region is then an image
drains : Reaches (record (machine (table (one ∷ []) true 1 1 false 1)) { mode = Up }) (record (machine (table (one ∷ []) false 1 1 true 1)) { region = Whole })
drains = next (next (next (next (next (next (next here (prepare refl refl)) (close_taking 0 (table (one ∷ []) true 1 1 false 1) refl refl refl refl refl refl))
    (plan refl (refl, tt) refl ((refl, refl), tt) refl)) (copy refl refl refl)) (open_flag refl refl refl)) (flag_open refl refl refl))
    (done 0 (table (one ∷ []) false 1 1 false 1) refl refl refl refl refl)
