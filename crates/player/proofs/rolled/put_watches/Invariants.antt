use Rattle.std.proofs.Common.{◌≡◌, ◌++◌, map, take}
use Rattle.player.specs.Rolled.{watch_lines}
use Rattle.player.proofs.rolled.put_watches.Given as goal

abbrev pub invariant-loop-watch : goal.invariant-loop-watch
invariant-loop-watch g l =
    l.lines.items ≡ l.fn.lines.items ++ watch_lines (map (λ b. (goal.Watch-dyn g (b.vtable, b.value)).held b.value) (take l.watch-index l.watches))
