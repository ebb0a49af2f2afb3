use Rattle.std.proofs.Common.{◌≡◌, take}
use Rattle.player.specs.Rolled.{wave_lines}
use Rattle.player.proofs.rolled.wave_lines.Given as goal

-- the lines of the waves before this one
abbrev pub invariant-loop-begun : goal.invariant-loop-begun
invariant-loop-begun l = l.lines.items ≡ wave_lines 1 l.of (take l.begun l.waves)
