use Rattle.std.proofs.Common.{arith}
use Rattle.standing_query.proofs.Held.{pushed_counted, pushed_held}
use Rattle.standing_query.proofs.parts.Parts.put.Goals as goal

pub put_part-requires : goal.put_part-requires
put_part-requires c =
    let held = c.requires.held in
    pushed_counted c.args.spread.now c.args.self.now.list.items c.args.self.now.rows c.in_ok-part.part c.args.rows.now c.in_ok-part.ensures.value c.requires.of.query c.requires.of.is
    held.0 held.1 (omega (arith, held.1.bound, c.if-self-count.false))

pub returns-clause-rows : goal.returns-clause-rows
returns-clause-rows c = λ before held.
    pushed_held c.args.spread.now c.args.self.now.list.items c.args.self.now.rows c.in_ok-part.part c.args.rows.now c.in_ok-part.ensures.value before c.put_part.new.list.items
    (λ rows parts. c.in_ok-put_part.ensures.rows c.args.spread.now rows parts) (omega (arith, held.bound, c.if-self-count.false)) held
