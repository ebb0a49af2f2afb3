use Rattle.std.proofs.Common.{sym, subst}
use Rattle.std.specs.Prelude.{IfOk}
use Rattle.std.specs.List.{AllByRecursion}
use Rattle.script_text.specs.Commands.{leaf_count}
use Rattle.script_text.specs.Orders.{IsOrder}
use Rattle.printed_lines.specs.Lines.{IsOf}
use Rattle.player.specs.Crew.{CrewState, HasOrder}
use Rattle.player.specs.Members.{fleet_in, holds_in}
use Rattle.player.proofs.Playing.{lines_fit}
use Rattle.player.proofs.crew.Crew.play.Goals as goal

pub play-requires-clause-may : goal.play-requires-clause-may
play-requires-clause-may g c = λ κs bounds. subst (λ (s : CrewState g.row.B.Denot). IsOrder (leaf_count s.fleet) s.fleet.names c.args.order) (sym c.self.view_is) c.requires.may

pub play-requires-clause-has : goal.play-requires-clause-has
play-requires-clause-has g c = λ κs bounds. subst (λ (s : CrewState g.row.B.Denot). HasOrder s.fleet s.holds c.args.order) (sym c.self.view_is) c.requires.has

pub returns-clause-lines_fit : goal.returns-clause-lines_fit
returns-clause-lines_fit g c =
    let x = c.self.inside.members in
    subst (λ (s : CrewState g.row.B.Denot). IfOk c.play.result (λ lines. AllByRecursion (IsOf s.fleet.names) lines.items)) c.self.view_is
    (lines_fit g.B.Berth.meaning (fleet_in x) c.args.order (holds_in x) (holds_in c.play.new.self) _ _ c.play.result c.play.ensures.plays)
