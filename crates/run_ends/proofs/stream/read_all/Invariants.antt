use Rattle.std.proofs.Common.{◌≡◌, ◌≤◌, ◌-◌, vec_len}
use Rattle.std.specs.Io.KnownBytes.{Consumes}
use Rattle.run_ends.proofs.stream.read_all.Given as goal

abbrev pub invariant-loop-text : goal.invariant-loop-text
invariant-loop-text g l =
    Consumes (g.S.Source.left l.initial.source) (g.S.Source.left l.source) l.text.items
    × (g.S.Source.faults l.initial.source ≤ g.S.Source.faults l.source)
    × (vec_len l.text ≤ 16777217)
    × (vec_len l.chunk ≡ 65536)

abbrev pub decreases-loop-text : goal.decreases-loop-text
decreases-loop-text g l = 16777217 - vec_len l.text
