use Rattle.std.proofs.Common.{arith, sym, ◌∙◌}
use Rattle.std.proofs.lemmas.Bool.{eqb-true}
use Rattle.berth_face.proofs.Streams.{written_start, written_more, written_kept, written_all}
use Rattle.run_ends.proofs.stream.write_all.Goals as goal

pub loop-rest-init : goal.loop-rest-init
loop-rest-init g c = (written_start _ _, omega arith)

pub loop-rest-preserved : goal.loop-rest-preserved
loop-rest-preserved g c =
    (written_more c.in_ok-count.count c.loop-rest.invariant.0 c.in_ok-count.ensures.bytes, omega (arith, c.loop-rest.invariant.1, c.in_ok-count.ensures.cause.later))

pub returns-in_err-count-clause-front : goal.returns-in_err-count-clause-front
returns-in_err-count-clause-front g c = (_, written_kept c.loop-rest.invariant.0 c.in_err-count.ensures.bytes)

pub returns-clause-front : goal.returns-clause-front
returns-clause-front g c = (_, c.loop-rest.invariant.0)

pub returns-clause-written : goal.returns-clause-written
returns-clause-written g c = written_all c.loop-rest.invariant.0 (eqb-true _ _ (sym c.is_empty.ensures ∙ c.loop-rest-test.false))
