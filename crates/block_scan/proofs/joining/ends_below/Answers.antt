use Rattle.block_scan.proofs.Joined.{ends}
use Rattle.block_scan.proofs.joining.ends_below.Goals as goal

pub returns-in-Some-Some : goal.returns-in-Some-Some
returns-in-Some-Some c = λ less.
    ends c.args.front.now c.args.back.now c.in-Some-Some.last.now c.in-Some-Some.first.now c.in-Some-Some.ensures.value c.in-Some-Some.ensures'.value (c.is_less.ensures less)
