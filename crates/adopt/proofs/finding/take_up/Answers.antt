use Rattle.adopt.proofs.Looking.{ready_found}
use Rattle.adopt.proofs.finding.take_up.Goals as goal

pub returns-clause-told : goal.returns-clause-told
returns-clause-told g c =
    λ region told closed read looks.
    ready_found c.args.names.now region (g.B.Berth.meaning c.args.berth.now).held.region (g.B.Berth.meaning c.cut.new.berth).held.region c.args.version c.args.looked c.in_ok-left.left.items c.begun.result
    closed (c.in_ok-cut.ensures.ok told) read looks c.requires.known c.in_ok-left.ensures c.begun.ensures
