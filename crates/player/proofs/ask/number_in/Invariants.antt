use Rattle.std.proofs.Common.{◌≡◌, drop}
use Rattle.player.specs.Commands.{number_in}
use Rattle.player.proofs.ask.number_in.Given as goal

-- it does not stand before the place
abbrev pub invariant-loop-named : goal.invariant-loop-named
invariant-loop-named l = number_in l.leaf l.list ≡ number_in l.leaf (drop l.named-index l.list)
