use Rattle.std.proofs.Common.{◌≡◌, ◌≤◌, ◌-◌, vec_len}
use Rattle.berth_face.specs.Streams.{TakesCount}
use Rattle.run_ends.proofs.stream.pass_rest.Given as goal

abbrev pub invariant-loop-taken : goal.invariant-loop-taken
invariant-loop-taken g l =
    TakesCount (g.S.Source.left l.initial.source) (g.S.Source.left l.source) (l.taken - l.passed)
    × (g.S.Source.faults l.initial.source ≤ g.S.Source.faults l.source)
    × (l.passed ≤ l.taken)
    × (l.taken ≤ 16777217)
    × (vec_len l.chunk ≡ 65536)

abbrev pub decreases-loop-taken : goal.decreases-loop-taken
decreases-loop-taken g l = 16777217 - l.taken
