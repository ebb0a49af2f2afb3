use Rattle.std.proofs.Common.{◌≡◌, ◌≤◌, ◌+◌, ◌-◌, vec_len}
use Rattle.run_ends.specs.Source.{Took}
use Rattle.run_ends.proofs.stream.read_piece.Given as goal

abbrev pub invariant-loop-text : goal.invariant-loop-text
invariant-loop-text g l =
    Took (g.S.Source.left l.initial.source) (g.S.Source.left l.source) l.initial.text.items l.text.items
    × (g.S.Source.faults l.initial.source ≤ g.S.Source.faults l.source)
    × (l.passed + vec_len l.text ≤ 16777216)
    × (vec_len l.chunk ≡ 65536)

abbrev pub decreases-loop-text : goal.decreases-loop-text
decreases-loop-text g l = l.full - vec_len l.text
