use Rattle.std.proofs.Common.{◌≡◌, map, take}
use Rattle.std.specs.List.{flat_map}
use Rattle.tailer.specs.Calls.{try_seen}
use Rattle.player.specs.Commands.{try_lines}
use Rattle.player.proofs.tail.tail_lines.Given as goal

-- the lines of the tries before this one
abbrev pub invariant-loop-tried : goal.invariant-loop-tried
invariant-loop-tried l = l.lines.items ≡ flat_map (try_lines l.table) (map try_seen (take l.tried-index l.tried-items))
