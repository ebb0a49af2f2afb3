use Rattle.std.proofs.Common.{sym, subst}
use Rattle.player.specs.declared.members.Members.{Members}
use Rattle.player.specs.Crew.{CrewState, MayTakeBack}
use Rattle.player.specs.Members.{fleet_in, holds_in}
use Rattle.player.proofs.crew.Crew.take_back.Goals as goal

abbrev state_in : {B : Type 0} → Members B → CrewState B
state_in x = record { fleet = fleet_in x; tables = x.tables.now; holds = holds_in x }

pub take_back-requires-clause-leaves : goal.take_back-requires-clause-leaves
take_back-requires-clause-leaves g c = λ κs bounds.
    (subst (λ (o : CrewState g.row.B.Denot). MayTakeBack (state_in c.self.inside.members) o) (sym c.other.view_is)
    (subst (λ (s : CrewState g.row.B.Denot). MayTakeBack s c.args.other) (sym c.self.view_is) c.requires.may)).leaves

pub take_back-requires-clause-seats : goal.take_back-requires-clause-seats
take_back-requires-clause-seats g c = λ κs bounds.
    (subst (λ (o : CrewState g.row.B.Denot). MayTakeBack (state_in c.self.inside.members) o) (sym c.other.view_is)
    (subst (λ (s : CrewState g.row.B.Denot). MayTakeBack s c.args.other) (sym c.self.view_is) c.requires.may)).seats
