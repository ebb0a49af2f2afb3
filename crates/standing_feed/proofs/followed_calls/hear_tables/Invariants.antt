use Rattle.std.proofs.Common.{◌≡◌, ◌++◌, List}
use Rattle.std.specs.VecDeque.{deque_len}
use Rattle.standing_feed.specs.declared.table_calls.TableCalls.{TableCalls}
use Rattle.standing_feed.specs.Sharing.{AreHeard}
use Rattle.standing_feed.proofs.followed_calls.hear_tables.Given as goal

-- the tables whose lines were heard, and those that are left
abbrev pub invariant-loop-table : goal.invariant-loop-table
invariant-loop-table l = (done : List TableCalls) × (l.fn.tables.items ≡ done ++ l.rest.items) × AreHeard l.lines done l.all.items

abbrev pub decreases-loop-table : goal.decreases-loop-table
decreases-loop-table l = deque_len l.rest
