use Rattle.std.proofs.Common.{◌≡◌, ◌+◌, ◌++◌, ◌≤◌, List, [], length, map}
use Rattle.std.specs.List.{AllByRecursion}
use Rattle.std.specs.VecDeque.{deque_len}
use Rattle.script_text.specs.declared.item.Item.{Item}
use Rattle.player.specs.Crew.{HasAll}
use Rattle.script_text.specs.Fits.{TellAbove, declared_in}
use Rattle.transcript_standing.specs.Followed.{AreFollowers}
use Rattle.play.specs.Standing.{MayRun}
use Rattle.play.specs.Runs.{RunSoFar}
use Rattle.play.proofs.berths.play_all.Given as goal

-- some items were played, and the others are left
abbrev pub invariant-loop-item : goal.invariant-loop-item
invariant-loop-item g l =
    (done : List Item)
    × (done ++ l.rest.items ≡ l.fn.items.items)
    × RunSoFar g.N.Bases.base g.B.Berth.meaning l.initial.crew.fleet l.initial.crew.holds (g.K.Sink.written l.initial.sink) (g.K.Sink.written l.sink)
    (map (λ b. (goal.Watch-dyn g (b.vtable, b.value)).held b.value) l.fn.watches.items)
    (map (λ b. (goal.Watch-dyn g (b.vtable, b.value)).held b.value) l.watches.items)
    done l.followers.list.items l.crew.holds
    × (l.crew.fleet ≡ l.initial.crew.fleet)
    × AllByRecursion (MayRun l.initial.crew.fleet) l.rest.items
    × (g.K.Sink.faults l.initial.sink ≤ g.K.Sink.faults l.sink)
    × HasAll l.crew.fleet l.crew.holds
    × (done ≡ [] → l.crew.holds ≡ l.initial.crew.holds)
    × AreFollowers l.initial.crew.fleet l.followers.list.items
    × TellAbove (length l.followers.list.items) l.rest.items
    × (length l.followers.list.items + declared_in l.rest.items ≤ 16)

abbrev pub decreases-loop-item : goal.decreases-loop-item
decreases-loop-item g l = deque_len l.rest
