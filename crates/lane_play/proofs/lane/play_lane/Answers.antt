use Rattle.std.proofs.Common.{◌≡◌, [], ◌∷◌, ◌++◌, Some, refl, sym, ap, subst, ◌∙◌, append_assoc}
use Rattle.std.specs.Prelude.{Ok}
use Rattle.std.specs.List.{AllByRecursion}
use Rattle.std.specs.declared.alloc.AllocError.{AllocError}
use Rattle.std.proofs.lemmas.Result.{err_from_is_err_and}
use Rattle.script_text.specs.Fits.{IsCommand}
use Rattle.script_text.specs.declared.fleet.FleetShape.{FleetShape}
use Rattle.script_text.specs.Commands.{leaf_count}
use Rattle.player.specs.Crew.{HasFor}
use Rattle.lane_play.specs.Played.{MayPlayOn}
use Rattle.lane_play.proofs.Held.{pass_none, pass_on, still_on, still_same}
use Rattle.lane_play.proofs.Still.{may_play, still_may}
use Rattle.lane_play.proofs.Playing.{lane_begins, lane_goes_on, lane_stops, no_lines, over_fleet, was_played}
use Rattle.lane_play.proofs.lane.play_lane.Goals as goal

pub loop-command-init : goal.loop-command-init
loop-command-init g c = record {
  done = [];
  all = c.from_vec-rest.ensures.items;
  went = lane_begins g.B.Berth.meaning c.args.crew.now.fleet c.args.crew.now.holds _ c.new-lines.result.items c.new-lines.ensures.items;
  may = subst (AllByRecursion (MayPlayOn c.args.crew.now.fleet c.args.crew.now.holds)) (sym c.from_vec-rest.ensures.items) c.requires;
  fleet = refl;
  tables = refl;
  still = still_same c.args.crew.now.holds;
  time = pass_none g.B.Berth.meaning c.args.crew.now.holds;
}

pub returns-in_err-more-clause-still : goal.returns-in_err-more-clause-still
returns-in_err-more-clause-still g c = still_on c.args.crew.now.holds c.loop-command.crew.holds c.play_command.new.crew.holds c.loop-command.invariant.still c.play_command.ensures.still

pub returns-in_err-more-clause-time : goal.returns-in_err-more-clause-time
returns-in_err-more-clause-time g c =
    pass_on g.B.Berth.meaning c.args.crew.now.holds c.loop-command.crew.holds c.play_command.new.crew.holds c.loop-command.invariant.time c.play_command.ensures.time

pub returns-in_err-append-clause-still : goal.returns-in_err-append-clause-still
returns-in_err-append-clause-still g c = still_on c.args.crew.now.holds c.loop-command.crew.holds c.play_command.new.crew.holds c.loop-command.invariant.still c.play_command.ensures.still

pub returns-in_err-append-clause-time : goal.returns-in_err-append-clause-time
returns-in_err-append-clause-time g c =
    pass_on g.B.Berth.meaning c.args.crew.now.holds c.loop-command.crew.holds c.play_command.new.crew.holds c.loop-command.invariant.time c.play_command.ensures.time

pub loop-command-preserved : goal.loop-command-preserved
loop-command-preserved g c =
    let inv = c.loop-command.invariant in
    let fleet = c.args.crew.now.fleet in
    let command = c.in-Some.command in
    let rest = c.pop_front.new.self.items in
    let items : c.loop-command.rest.items ≡ command ∷ rest = c.in-Some.ensures.items in
    let may = subst (AllByRecursion (MayPlayOn fleet c.loop-command.crew.holds)) items inv.may in
    let one = over_fleet g.B.Berth.meaning fleet c.loop-command.crew.fleet inv.fleet c.loop-command.crew.holds c.play_command.new.crew.holds _ _ command (Ok c.in_ok-more.more) c.in_ok-more.ensures.plays in
    record {
      done = inv.done ++ command ∷ [];
      all = append_assoc inv.done (command ∷ []) rest ∙ (ap (λ r. inv.done ++ r) (sym items) ∙ inv.all);
      went = lane_goes_on g.B.Berth.meaning fleet c.args.crew.now.holds c.loop-command.crew.holds _ _ inv.done c.loop-command.lines.items inv.went command [] (Ok c.in_ok-more.more) (Some c.append.new.self.items)
          c.play_command.new.crew.holds _ (was_played AllocError c.in_ok-more.more one) (c.in_ok-more.more, refl, refl, c.in_ok-append.ensures.items);
      may = still_may fleet c.loop-command.crew.holds c.play_command.new.crew.holds c.play_command.ensures.still rest may.1;
      fleet = c.play_command.ensures.fleet.0 ∙ inv.fleet;
      tables = c.play_command.ensures.fleet.1 ∙ inv.tables;
      still = still_on c.args.crew.now.holds c.loop-command.crew.holds c.play_command.new.crew.holds inv.still c.play_command.ensures.still;
      time = pass_on g.B.Berth.meaning c.args.crew.now.holds c.loop-command.crew.holds c.play_command.new.crew.holds inv.time c.play_command.ensures.time;
    }

pub play_command-requires-clause-may : goal.play_command-requires-clause-may
play_command-requires-clause-may g c κs within =
    let inv = c.loop-command.invariant in
    let may = subst (AllByRecursion (MayPlayOn c.args.crew.now.fleet c.loop-command.crew.holds)) c.in-Some.ensures.items inv.may in
    may_play c.loop-command.crew.fleet c.in-Some.command (subst (λ (f : FleetShape). IsCommand (leaf_count f) f.names c.in-Some.command) (sym inv.fleet) may.0.0)

pub play_command-requires-clause-has : goal.play_command-requires-clause-has
play_command-requires-clause-has g c κs within =
    let inv = c.loop-command.invariant in
    let may = subst (AllByRecursion (MayPlayOn c.args.crew.now.fleet c.loop-command.crew.holds)) c.in-Some.ensures.items inv.may in
    subst (λ (f : FleetShape). HasFor f c.loop-command.crew.holds c.in-Some.command) (sym inv.fleet) may.0.1

pub returns-in_err-more-clause-went : goal.returns-in_err-more-clause-went
returns-in_err-more-clause-went g c =
    let inv = c.loop-command.invariant in
    let fleet = c.args.crew.now.fleet in
    let e = err_from_is_err_and c.from_residual.result c.from_residual.ensures.1 in
    let one = over_fleet g.B.Berth.meaning fleet c.loop-command.crew.fleet inv.fleet c.loop-command.crew.holds c.play_command.new.crew.holds _ _ c.in-Some.command _ c.play_command.ensures.plays in
    lane_stops g.B.Berth.meaning fleet c.args.crew.now.holds c.loop-command.crew.holds _ _ inv.done c.loop-command.lines.items inv.went c.in-Some.command c.pop_front.new.self.items c.args.commands.items _ _
    c.play_command.new.crew.holds _ one (ap (λ r. inv.done ++ r) (sym c.in-Some.ensures.items) ∙ inv.all) (no_lines _ e.0 e.1)

pub returns-in_err-append-clause-went : goal.returns-in_err-append-clause-went
returns-in_err-append-clause-went g c =
    let inv = c.loop-command.invariant in
    let fleet = c.args.crew.now.fleet in
    let e = err_from_is_err_and c.from_residual-in_err-append.result c.from_residual-in_err-append.ensures.1 in
    let one = over_fleet g.B.Berth.meaning fleet c.loop-command.crew.fleet inv.fleet c.loop-command.crew.holds c.play_command.new.crew.holds _ _ c.in-Some.command _ c.play_command.ensures.plays in
    lane_stops g.B.Berth.meaning fleet c.args.crew.now.holds c.loop-command.crew.holds _ _ inv.done c.loop-command.lines.items inv.went c.in-Some.command c.pop_front.new.self.items c.args.commands.items _ _
    c.play_command.new.crew.holds _ one (ap (λ r. inv.done ++ r) (sym c.in-Some.ensures.items) ∙ inv.all) (no_lines _ e.0 e.1)
