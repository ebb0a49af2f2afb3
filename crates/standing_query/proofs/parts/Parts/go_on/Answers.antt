use Rattle.std.proofs.Common.{rules}
use Rattle.standing_query.proofs.Going.{expired_goes}
use Rattle.standing_query.proofs.Falling.{parts_never_fall}
use Rattle.standing_query.proofs.parts.Parts.go_on.Goals as goal

pub forget-requires : goal.forget-requires
forget-requires c =
    parts_never_fall c.args.spread.now c.requires.of.query c.requires.of.is c.args.self.now.list.items c.requires.held.0 c.requires.held.1.are

pub returns-in-Expired-clause-rows : goal.returns-in-Expired-clause-rows
returns-in-Expired-clause-rows c = λ before held.
    expired_goes c.args.spread.now c.requires.of.query c.requires.of.is c.args.fed c.in-Expired.horizon c.args.self.now.list.items c.forget.new.list.items c.args.self.now.rows before _
    c.in-Expired.is c.forget.ensures.groups (search rules) held
