use Rattle.std.proofs.Common.{ℕ, subst}
use Rattle.player.specs.Crew.{CrewState, Spares}
use Rattle.player.specs.Members.{holds_in}
use Rattle.player.proofs.crew.Crew.meet_all.Goals as goal

pub returns-clause-spares : goal.returns-clause-spares
returns-clause-spares g c =
    subst (λ (s : CrewState g.row.B.Denot). (table n : ℕ) → Spares s.holds table n → Spares (holds_in c.meet_all.new.self) table n) c.self.view_is c.meet_all.ensures.spares
