use Rattle.player.proofs.TakenBack.{back_nothing}
use Rattle.player.proofs.members.Members.take_slot.Goals as goal

pub returns-in-None-clause-back : goal.returns-in-None-clause-back
returns-in-None-clause-back g c = back_nothing c.args.self.now c.args.number c.requires.members c.requires.within g.B.Berth.meaning c.args.slot c.in-None.is
