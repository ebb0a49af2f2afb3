use Rattle.std.proofs.Common.{◌≡◌, ◌≤◌, vec_len, vec_capacity}
use Rattle.tailer.specs.Calls.{tries_seen}
use Rattle.tailer.proofs.Going.{Trying}
use Rattle.tailer.proofs.trying.try_all.Given as goal

abbrev pub invariant-loop-turn : goal.invariant-loop-turn
invariant-loop-turn g l =
    (vec_len l.tries ≡ l.turn)
    × (16 ≤ vec_capacity l.tries)
    × Trying l.tail.fleet.now l.tail.table l.tail.rows.now l.fn.words l.fn.seats l.turn (tries_seen l.tries.items) l.words l.seats
