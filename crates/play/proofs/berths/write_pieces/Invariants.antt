use Rattle.std.proofs.Common.{◌≤◌}
use Rattle.std.specs.Slice.Iter.{chunks_rest}
use Rattle.play.proofs.Pieces.{AreWritten}
use Rattle.play.proofs.berths.write_pieces.Given as goal

abbrev pub invariant-loop-piece : goal.invariant-loop-piece
invariant-loop-piece g l = record {
  can_next : (goal.iterator-loop-piece g).can_next l.piece-iterator;
  is_finite : (goal.iterator-loop-piece g).is_finite l.piece-iterator;
  written : AreWritten l.names l.lines (chunks_rest l.piece-iterator) (g.K.Sink.written l.initial.sink) (g.K.Sink.written l.sink);
  later : g.K.Sink.faults l.initial.sink ≤ g.K.Sink.faults l.sink;
}
