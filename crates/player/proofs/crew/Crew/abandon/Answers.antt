use Rattle.std.proofs.Common.{◌≡◌, ℕ, Some, subst}
use Rattle.std.specs.Prelude.{slice_get}
use Rattle.leaf_moves.specs.Holds.{HasMet, Hold}
use Rattle.player.specs.Crew.{CrewState}
use Rattle.player.proofs.crew.Crew.abandon.Goals as goal

pub returns-clause-met : goal.returns-clause-met
returns-clause-met g c =
    subst (λ (s : CrewState g.row.B.Denot). (leaf : ℕ) (x : Hold g.row.B.Denot) → slice_get s.holds leaf ≡ Some x → HasMet g.B.Berth.meaning x) c.self.view_is c.abandon.ensures.met
