use Rattle.std.proofs.Common.{◌≡◌, List, [], map, refl, sym, ap, subst, ◌∙◌, arith}
use Rattle.std.specs.Prelude.{Ok}
use Rattle.std.specs.List.{AllByRecursion}
use Rattle.std.proofs.lemmas.List.{length-map, nil_from_length}
use Rattle.std.proofs.lemmas.Result.{err_from_is_err_and}
use Rattle.script_text.specs.declared.fleet.FleetShape.{FleetShape}
use Rattle.lane_play.specs.Played.{MayPlayOn}
use Rattle.lane_play.proofs.Held.{pass_on, still_on}
use Rattle.bursts.specs.declared.plan.LanePlan.{LanePlan}
use Rattle.bursts.specs.Needs.{IsLanePlan, planned_commands}
use Rattle.bursts.proofs.Cutting.{front_all, lanes_last}
use Rattle.bursts.proofs.Items.{all_on}
use Rattle.bursts.proofs.Lanes.{turns_begin, turns_go_on, turns_stop}
use Rattle.bursts.proofs.Needed.{all_may}
use Rattle.bursts.proofs.turns.+play_in_turn.Goals as goal

pub returns-in_default-clause-went : goal.returns-in_default-clause-went
returns-in_default-clause-went g t c =
    let none : c.args.plans.items ≡ [] = nil_from_length c.args.plans.items (omega (arith, c.in_default.ensures.cases.0, c.args.plans.ok.0)) in
    turns_begin g.B.Berth.meaning c.args.crew.now.fleet (map planned_commands c.args.plans.items) c.args.crew.now.holds _ c.new.result.items (ap (λ (ps : List LanePlan). map planned_commands ps) none) c.new.ensures.items

pub play_in_turn-requires-clause-plans : goal.play_in_turn-requires-clause-plans
play_in_turn-requires-clause-plans g t c κs within =
    let fleet = c.args.crew.now.fleet in
    (front_all (IsLanePlan fleet) c.pop.new.self.items c.in-Some.plan (subst (AllByRecursion (IsLanePlan fleet)) c.in-Some.ensures.items c.requires.plans)).0

pub returns-in_err-lines-clause-went : goal.returns-in_err-lines-clause-went
returns-in_err-lines-clause-went g t c =
    let crew = c.args.crew.now in
    let e = err_from_is_err_and c.from_residual.result c.from_residual.ensures.1 in
    let lanes = lanes_last c.pop.new.self.items c.in-Some.plan c.args.plans.items c.in-Some.ensures.items in
    turns_stop g.B.Berth.meaning crew.fleet (map planned_commands c.pop.new.self.items) (planned_commands c.in-Some.plan) _ lanes crew.holds c.play_in_turn.new.crew.holds _ _ c.play_in_turn.result c.from_residual.result e.0 e.1
    c.play_in_turn.ensures.went

pub play_lane-own-requires-after_bounds : goal.play_lane-own-requires-after_bounds
play_lane-own-requires-after_bounds g t c κs within =
    let crew = c.args.crew.now in
    let plans = front_all (IsLanePlan crew.fleet) c.pop.new.self.items c.in-Some.plan (subst (AllByRecursion (IsLanePlan crew.fleet)) c.in-Some.ensures.items c.requires.plans) in
    let now = c.play_in_turn.new.crew.holds in
    subst (λ (f : FleetShape). AllByRecursion (MayPlayOn f now) c.in-Some.plan.commands.items) (sym c.play_in_turn.ensures.fleet.0)
    (all_may crew.fleet now (all_on crew.fleet crew.fleet crew.holds now refl c.play_in_turn.ensures.still c.requires.all) c.in-Some.plan.commands.items plans.1.commands)

pub returns-clause-went : goal.returns-clause-went
returns-clause-went g t c =
    let crew = c.args.crew.now in
    let lanes = lanes_last c.pop.new.self.items c.in-Some.plan c.args.plans.items c.in-Some.ensures.items in
    turns_go_on g.B.Berth.meaning crew.fleet (map planned_commands c.pop.new.self.items) (planned_commands c.in-Some.plan) _ lanes crew.holds c.play_in_turn.new.crew.holds c.play_lane-own.new.crew.holds _ _ _
    c.play_in_turn.new.crew.fleet c.play_in_turn.ensures.fleet.0 (Ok c.in_ok-lines.lines) c.play_lane-own.result c.behind.result c.count-number.result c.in_ok-lines.ensures.went c.play_lane-own.ensures.went
    (length-map c.pop.new.self.items planned_commands ∙ sym c.count-number.ensures) c.behind.ensures

pub returns-clause-still : goal.returns-clause-still
returns-clause-still g t c = still_on c.args.crew.now.holds c.play_in_turn.new.crew.holds c.play_lane-own.new.crew.holds c.play_in_turn.ensures.still c.play_lane-own.ensures.still

pub returns-clause-time : goal.returns-clause-time
returns-clause-time g t c = pass_on g.B.Berth.meaning c.args.crew.now.holds c.play_in_turn.new.crew.holds c.play_lane-own.new.crew.holds c.play_in_turn.ensures.time c.play_lane-own.ensures.time
