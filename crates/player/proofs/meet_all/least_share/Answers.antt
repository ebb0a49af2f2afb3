use Rattle.std.proofs.Common.{arith}
use Rattle.player.proofs.MeetLeaves.{least_more}
use Rattle.player.proofs.meet_all.least_share.Goals as goal

pub loop-seat-init : goal.loop-seat-init
loop-seat-init c = λ leaf s below at. absurd (omega (arith, below))

pub loop-seat-preserved : goal.loop-seat-preserved
loop-seat-preserved c =
    let was = c.loop-seat in
    least_more c.args.seats.now was.seat-index was.least c.lesser-least.result c.seat-item.result (omega (arith, c.loop-seat-test.true)) c.seat-item.is was.invariant c.lesser-least.ensures.0
    (omega (arith, c.lesser-least.ensures.1, c.share.ensures.all))
