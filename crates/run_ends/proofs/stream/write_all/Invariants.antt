use Rattle.std.proofs.Common.{◌≤◌, length}
use Rattle.berth_face.specs.Streams.{Written}
use Rattle.run_ends.proofs.stream.write_all.Given as goal

abbrev pub invariant-loop-rest : goal.invariant-loop-rest
invariant-loop-rest g l =
    Written (g.K.Sink.written l.initial.sink) (g.K.Sink.written l.sink) l.fn.piece l.rest
    × (g.K.Sink.faults l.initial.sink ≤ g.K.Sink.faults l.sink)

abbrev pub decreases-loop-rest : goal.decreases-loop-rest
decreases-loop-rest g l = length l.rest
