use Rattle.std.proofs.Common.{List, subst, sym}
use Rattle.std.specs.List.{AllByRecursion}
use Rattle.aggregator.specs.Partial.{bases_in}
use Rattle.tailer.specs.declared.tries.Try.{Try}
use Rattle.tailer.specs.Calls.{IsOverRows, calls_of_tries, tries_seen}
use Rattle.tailer.proofs.Seeing.{all_seen}
use Rattle.tailer.proofs.sending.send.Goals as goal

pub returns-clause-over : goal.returns-clause-over
returns-clause-over g c = λ histories go.
    let fleet = c.args.fleet.now in
    let tries = c.try_all-sent.new.tries.items in
    subst (λ (ts : List Try). AllByRecursion (IsOverRows (bases_in fleet c.args.table) histories) (calls_of_tries c.args.rows.now (tries_seen ts))) (sym c.of.ensures)
    (all_seen fleet c.args.table histories c.args.rows.now c.args.seats.now c.try_all-sent.new.seats (tries_seen tries) c.try_all-sent.ensures.calls go)
