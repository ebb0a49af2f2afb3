use Rattle.std.proofs.Common.{◌≡◌, ◌<◌, Bool, List, length, sym, subst, ◌∙◌}
use mir.Syntax.{of_param}
use denote.Exit.{unseen}
use denote.Param.Send.{Quiet-if}
use Rattle.printed_lines.specs.declared.line.Line.{Line}
use Rattle.script_text.specs.Commands.{leaf_count}
use Rattle.player.specs.declared.members.Members.{Members}
use Rattle.player.specs.Members.{fleet_in}
use Rattle.player.specs.Restarts.{Chain, DeedIsDone, MayDo, RollsOn}
use Rattle.player.specs.Rolled.{wave_lines}
use Rattle.player.proofs.Restarting.{chained, may_still, of_waves}
use Rattle.player.proofs.WaveLines.{waves_fit}
use Rattle.player.proofs.members.Members.roll.Goals as goal

pub of-fleet-requires : goal.of-fleet-requires
of-fleet-requires g c = record {
  may_call = λ p number deed may is. (
    (may, is),
    (
      record { owned = c.type_bounds.send-B.owned; leaving = λ k. Quiet-if {D = g.row.B.Denot} (k (of_param 0)) unseen unseen (λ x w. tt) (λ x w. tt) },
      record { shared = c.type_bounds.sync-R.shared },
      record { shared = c.type_bounds.sync-G.shared },
    ),
  );
  does = λ p q number deed r done. done.1;
  keeps = λ x y number deed r other done may. may_still g.B.Berth.meaning number deed x y r done other may;
}

pub drive-rolled-requires-clause-known : goal.drive-rolled-requires-clause-known
drive-rolled-requires-clause-known g c =
    let made = c.of-fleet.ensures in
    of_waves (λ leaf. leaf < leaf_count (fleet_in c.args.self.now)) _ c.args.plan.now
    (λ leaf within. record {
      here = subst (λ (x : Members g.row.B.Denot). MayDo x leaf) (sym c.taken.ensures.taken ∙ sym made.leaves) (record { members = c.requires.members; within = within; held = c.requires.held });
      deeds = made.deeds;
    }) c.requires.known

pub returns : goal.returns
returns g c =
    let driven = c.drive-rolled.ensures.drives in
    let made = c.of-fleet.ensures in
    let meaning = g.B.Berth.meaning in
    let fleet = c.of-fleet.result in
    let then = c.drive-rolled.new.fleet in
    let plan = c.args.plan.now in
    let x = c.args.self.now in
    let heads : List Line = wave_lines 1 (length plan) plan in
    let leaves : fleet.leaves ≡ x = made.leaves ∙ c.taken.ensures.taken in
    let chain = subst (λ (b : Bool). Chain (λ u leaf t r v. DeedIsDone meaning leaf t u r v) x fleet.lines heads b driven.0 then.leaves then.lines then.heads.items then.draining) made.draining
    (subst (λ (ls : List Line). Chain (λ u leaf t r v. DeedIsDone meaning leaf t u r v) x fleet.lines ls fleet.draining driven.0 then.leaves then.lines then.heads.items then.draining) (made.heads ∙ c.requires.heads)
    (subst (λ (u : Members g.row.B.Denot). Chain (λ u leaf t r v. DeedIsDone meaning leaf t u r v) u fleet.lines fleet.heads.items fleet.draining driven.0 then.leaves then.lines then.heads.items then.draining) leaves driven.1)) in
    record {
      calls = driven.0;
      left = then.heads.items;
      draining = then.draining;
      rolls = subst (λ (y : Members g.row.B.Denot). RollsOn meaning x heads driven.0 then.lines y then.heads.items then.draining) (sym c.put_back.ensures)
          (chained meaning x heads fleet.lines made.lines (waves_fit x.names 1 (length plan) plan) driven.0 then.leaves then.lines then.heads.items then.draining chain);
      drives = driven.2;
    }
