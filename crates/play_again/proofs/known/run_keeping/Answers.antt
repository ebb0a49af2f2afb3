use Rattle.std.proofs.Common.{ap}
use Rattle.play_again.proofs.Again.{named_bases}
use Rattle.play_again.proofs.KeepsBase.{leaves_kept, left_known}
use Rattle.play_again.proofs.known.run_keeping.Goals as goal

pub keep_left-requires : goal.keep_left-requires
keep_left-requires g c =
    let then = c.run-status in
    leaves_kept g.N.Bases.base g.B.Berth.meaning g.S.Source.left g.K.Sink.written c.args.source.now c.of-source_was.result.value then.new.source c.args.sink.now c.of-sink_was.result.value then.new.sink
    c.args.berths.now.items c.of-berths_were.result.value.items then.new.berths.items then.result c.of-source_was.ensures c.of-sink_was.ensures (ap (λ v. v.items) c.of-berths_were.ensures)
    (left_known then.ensures c.requires.words c.requires.bases)

pub returns-in-Ok-clause-again : goal.returns-in-Ok-clause-again
returns-in-Ok-clause-again g c = named_bases c.run-status.ensures c.requires.bases

pub returns-clause-again : goal.returns-clause-again
returns-clause-again g c = named_bases c.run-status.ensures c.requires.bases
