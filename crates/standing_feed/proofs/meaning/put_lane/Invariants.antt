use Rattle.std.proofs.Common.{◌≡◌, ◌++◌, take}
use Rattle.standing_feed.specs.Hearing.{meant_lane, place_in}
use Rattle.standing_feed.proofs.meaning.put_lane.Given as goal

abbrev pub invariant-loop-command : goal.invariant-loop-command
invariant-loop-command l = l.calls.items ≡ l.initial.calls.items ++ meant_lane (place_in l.place) (take l.command-index l.lane)
