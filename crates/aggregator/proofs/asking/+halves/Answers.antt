use Rattle.std.proofs.Common.{List, ◌++◌, ◌∙◌, sym, subst, arith}
use Rattle.leaf_table.specs.Calls.{SeatView}
use Rattle.aggregator.specs.Asks.{Asked}
use Rattle.aggregator.proofs.Halves.{front_may, back_may, both_asked}
use Rattle.aggregator.proofs.asking.+halves.Goals as goal

pub ask_each-ask_both-requires-clause-low : goal.ask_each-ask_both-requires-clause-low
ask_each-ask_both-requires-clause-low g t c κs within =
    let seats = c.split_at_mut-low in
    let replies = c.split_at_mut-front in
    front_may c.args.question.now.fleet.now c.args.question.now.table c.args.first seats.result.0.now seats.result.1.now c.args.seats.now replies.result.0.now c.args.replies.now
    seats.ensures.value (replies.ensures.front_len ∙ sym seats.ensures.front_len) c.requires

pub ask_each-ask_both-requires-clause-high : goal.ask_each-ask_both-requires-clause-high
ask_each-ask_both-requires-clause-high g t c κs within =
    let seats = c.split_at_mut-low in
    let replies = c.split_at_mut-front in
    back_may c.args.question.now.fleet.now c.args.question.now.table c.args.first seats.result.0.now seats.result.1.now c.args.seats.now replies.result.1.now c.args.replies.now
    seats.ensures.value (omega (arith, seats.ensures.back_len, replies.ensures.back_len, c.requires.room)) c.requires

pub ask_each-returns : goal.ask_each-returns
ask_each-returns g t c =
    let q = c.args.question.now in
    let seats = c.split_at_mut-low in
    let then = c.ask_both.new in
    subst (λ (vs : List SeatView). Asked q.query.now q.fleet.now q.table c.args.first vs (then.front ++ then.back) (then.low ++ then.high)) (sym seats.ensures.value)
    (both_asked q.fleet.now q.table q.query.now c.args.first seats.result.0.now seats.result.1.now then.front then.back then.low then.high c.ask_both.ensures.low c.ask_both.ensures.high)
