use Rattle.std.proofs.Common.{◌≤◌, List, length, map, ap, subst, sym, ◌∙◌, arith, inl}
use Rattle.std.proofs.lemmas.List.{length-map}
use Rattle.std.proofs.lemmas.List.Elements.{All-nil, All-same}
use Rattle.script_text.specs.declared.command.Command.{Command}
use Rattle.script_text.specs.declared.item.Item.TheVariants as item
use Rattle.lane_play.specs.Went.{told_lines}
use Rattle.lane_play.proofs.Held.{pass_on, still_on}
use Rattle.bursts.specs.declared.plan.LanePlan.{LanePlan}
use Rattle.bursts.specs.Lanes.{MayWork}
use Rattle.bursts.specs.Needs.{AreSpare, planned_commands}
use Rattle.bursts.specs.Rolling.{rolling}
use Rattle.bursts.proofs.Cutting.{can_lend}
use Rattle.bursts.proofs.Hearing.{one_rolls}
use Rattle.bursts.proofs.Items.{all_on, beside_went, lines_of_item, turns_went}
use Rattle.bursts.proofs.Needed.{alone}
use Rattle.bursts.proofs.burst.play_burst.Goals as goal

-- ---- beside one another

pub play_beside-lines-requires-clause-lend : goal.play_beside-lines-requires-clause-lend
play_beside-lines-requires-clause-lend g c κs within =
    let crew = c.args.crew.now in
    let plans = c.in_ok-plans in
    can_lend crew.fleet c.meet_all.new.self.fleet crew.holds c.meet_all.new.self.holds plans.plans.items c.meet_all.ensures.fleet.0 plans.ensures.each (alone crew.fleet c.args.lanes.items plans.plans.items plans.ensures c.requires.burst.stewards)
    (subst (λ (ps : List LanePlan). AreSpare crew.fleet crew.holds ps) c.as_slice.ensures.value (c.are_spare.ensures c.if-are_spare.true)) c.requires.all c.meet_all.ensures.still c.meet_all.ensures.spares

pub play_beside-lines-requires-clause-few : goal.play_beside-lines-requires-clause-few
play_beside-lines-requires-clause-few g c κs within =
    omega (arith, length-map c.in_ok-plans.plans.items planned_commands, ap (λ (ls : List (List Command)). length ls) c.in_ok-plans.ensures.lanes_are, c.requires.burst.few)

pub play_beside-lines-requires-clause-one : goal.play_beside-lines-requires-clause-one
play_beside-lines-requires-clause-one g c κs within =
    subst (λ (ls : List (List Command)). rolling ls ≤ 1) (sym c.in_ok-plans.ensures.lanes_are) (one_rolls c.args.lanes.items c.requires.burst.stewards)

pub play_beside-lines-requires-clause-may : goal.play_beside-lines-requires-clause-may
play_beside-lines-requires-clause-may g c κs within = All-same MayWork _ _ c.in_ok-works.ensures.items (All-nil MayWork)

pub returns-in_ok-works-clause-went : goal.returns-in_ok-works-clause-went
returns-in_ok-works-clause-went g c =
    let crew = c.args.crew.now in
    let met = c.meet_all.new.self in
    inl (beside_went g.B.Berth.meaning crew.fleet crew.holds c.play_beside-lines.new.crew.holds _ _ met.holds (map planned_commands c.in_ok-plans.plans.items) c.args.lanes.items (told_lines c.play_beside-lines.result) met.fleet
    c.meet_all.ensures.fleet.0 c.in_ok-plans.ensures.lanes_are c.meet_all.ensures.met c.play_beside-lines.ensures.went)

pub returns-in_ok-works-clause-all : goal.returns-in_ok-works-clause-all
returns-in_ok-works-clause-all g c =
    let crew = c.args.crew.now in
    let met = c.meet_all.new.self in
    let now = c.play_beside-lines.new.crew in
    all_on crew.fleet now.fleet crew.holds now.holds (c.play_beside-lines.ensures.fleet.0 ∙ c.meet_all.ensures.fleet.0) (still_on crew.holds met.holds now.holds c.meet_all.ensures.still c.play_beside-lines.ensures.still) c.requires.all

pub returns-in_ok-works-clause-time : goal.returns-in_ok-works-clause-time
returns-in_ok-works-clause-time g c =
    pass_on g.B.Berth.meaning c.args.crew.now.holds c.meet_all.new.self.holds c.play_beside-lines.new.crew.holds c.meet_all.ensures.time c.play_beside-lines.ensures.time

pub returns-in_ok-works-clause-lines_fit : goal.returns-in_ok-works-clause-lines_fit
returns-in_ok-works-clause-lines_fit g c =
    let crew = c.args.crew.now in
    let met = c.meet_all.new.self in
    lines_of_item g.B.Berth.meaning crew.fleet crew.holds c.play_beside-lines.new.crew.holds _ _ (item.Burst c.args.lanes.items) c.play_beside-lines.result
    (inl (beside_went g.B.Berth.meaning crew.fleet crew.holds c.play_beside-lines.new.crew.holds _ _ met.holds (map planned_commands c.in_ok-plans.plans.items) c.args.lanes.items (told_lines c.play_beside-lines.result) met.fleet
    c.meet_all.ensures.fleet.0 c.in_ok-plans.ensures.lanes_are c.meet_all.ensures.met c.play_beside-lines.ensures.went))

-- ---- in turn

pub play_in_turn-requires-clause-few : goal.play_in_turn-requires-clause-few
play_in_turn-requires-clause-few g c κs within =
    omega (arith, length-map c.in_ok-plans.plans.items planned_commands, ap (λ (ls : List (List Command)). length ls) c.in_ok-plans.ensures.lanes_are, c.requires.burst.few)

pub returns-else-are_spare-clause-went : goal.returns-else-are_spare-clause-went
returns-else-are_spare-clause-went g c =
    let crew = c.args.crew.now in
    inl (turns_went g.B.Berth.meaning crew.fleet crew.holds c.play_in_turn.new.crew.holds _ _ (map planned_commands c.in_ok-plans.plans.items) c.args.lanes.items (told_lines c.play_in_turn.result)
    c.in_ok-plans.ensures.lanes_are c.play_in_turn.ensures.went)

pub returns-else-are_spare-clause-all : goal.returns-else-are_spare-clause-all
returns-else-are_spare-clause-all g c =
    all_on c.args.crew.now.fleet c.play_in_turn.new.crew.fleet c.args.crew.now.holds c.play_in_turn.new.crew.holds c.play_in_turn.ensures.fleet.0 c.play_in_turn.ensures.still c.requires.all

pub returns-else-are_spare-clause-lines_fit : goal.returns-else-are_spare-clause-lines_fit
returns-else-are_spare-clause-lines_fit g c =
    let crew = c.args.crew.now in
    lines_of_item g.B.Berth.meaning crew.fleet crew.holds c.play_in_turn.new.crew.holds _ _ (item.Burst c.args.lanes.items) c.play_in_turn.result
    (inl (turns_went g.B.Berth.meaning crew.fleet crew.holds c.play_in_turn.new.crew.holds _ _ (map planned_commands c.in_ok-plans.plans.items) c.args.lanes.items (told_lines c.play_in_turn.result)
    c.in_ok-plans.ensures.lanes_are c.play_in_turn.ensures.went))
