use Rattle.play_again.specs.Keeping.{LeavesKnown}
use Rattle.play_again.proofs.known.run_keeping.Given as goal

-- what this run leaves known
abbrev pub ghosts-keep_left : goal.ghosts-keep_left
ghosts-keep_left g a = record {
  fits = λ known. LeavesKnown a._status.now g.N.Bases.base g.B.Berth.meaning (g.S.Source.left a._source_was.now.value) (g.S.Source.left a._source.now)
      (g.K.Sink.written a._sink_was.now.value) (g.K.Sink.written a._sink.now) a._berths_were.now.value.items a._berths.now.items known;
}
