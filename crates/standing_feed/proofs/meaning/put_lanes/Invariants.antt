use Rattle.std.proofs.Common.{◌≡◌, ◌++◌, take}
use Rattle.std.specs.List.{flat_map}
use Rattle.standing_feed.specs.Hearing.{meant_lane, place_in}
use Rattle.standing_feed.proofs.meaning.put_lanes.Given as goal

abbrev pub invariant-loop-lane : goal.invariant-loop-lane
invariant-loop-lane l = l.calls.items ≡ l.initial.calls.items ++ flat_map (meant_lane (place_in l.place)) (take l.lane-index l.lanes)
