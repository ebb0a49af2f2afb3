use Rattle.std.proofs.Common.{IfSome, refl, subst}
use Rattle.play_again.specs.Keeping.{LeavesKnown}
use Rattle.play_again.proofs.KeepsBase.{bases_left}
use Rattle.play_again.proofs.known.run_twice.Goals as goal

pub run_known-next-requires-clause-bases : goal.run_known-next-requires-clause-bases
run_known-next-requires-clause-bases g c κs within =
    let now = c.run_keeping-status.new in
    let left = g.S.Source.left in
    let written = g.K.Sink.written in
    bases_left c.run_keeping-status.result.0 g.N.Bases.base g.B.Berth.meaning (left c.args.source.now) (left now.source) (written c.args.sink.now) (written now.sink) c.args.berths.now.items now.berths.items c.in-Some.known
    (subst (λ r. IfSome r (LeavesKnown c.run_keeping-status.result.0 g.N.Bases.base g.B.Berth.meaning (left c.args.source.now) (left now.source) (written c.args.sink.now) (written now.sink) c.args.berths.now.items now.berths.items))
    c.in-Some.is c.run_keeping-status.ensures.known)

pub returns-in-Some : goal.returns-in-Some
returns-in-Some g c =
    let now = c.run_keeping-status.new in
    let left = g.S.Source.left in
    let written = g.K.Sink.written in
    let kept = subst (λ r. IfSome r (LeavesKnown c.run_keeping-status.result.0 g.N.Bases.base g.B.Berth.meaning (left c.args.source.now) (left now.source) (written c.args.sink.now) (written now.sink) c.args.berths.now.items now.berths.items))
    c.in-Some.is c.run_keeping-status.ensures.known in
    record { between = now.berths; watches = now.watches; held = _; first = c.run_keeping-status.ensures.ran; second = (c.in-Some.known, kept, c.run_known-next.ensures) }

pub returns-in-None : goal.returns-in-None
returns-in-None g c = record { between = c.run_keeping-status.new.berths; watches = c.run_keeping-status.new.watches; held = _; first = c.run_keeping-status.ensures.ran; second = refl }
