use Rattle.std.proofs.Common.{◌≡◌, ◌<◌, ◌≤◌, Bool, true, List, [], ◌∷◌, length, map, refl, sym, ap, subst, ◌∙◌, arith}
use Rattle.std.specs.List.{AllByRecursion}
use Rattle.std.proofs.lemmas.List.{length-map, nil_from_length}
use Rattle.std.proofs.lemmas.List.Elements.{All-push, All-same}
use Rattle.std.proofs.lemmas.Result.{err_from_is_err_and}
use Rattle.script_text.specs.declared.command.Command.{Command}
use Rattle.script_text.specs.declared.fleet.FleetShape.{FleetShape}
use Rattle.leaf_moves.specs.Holds.{Hold}
use Rattle.player.specs.Crew.{AllPass, StillHas, is_set}
use Rattle.lane_play.specs.Played.{MayPlayOn}
use Rattle.lane_play.proofs.Held.{pass_none, still_same, still_seats}
use Rattle.lane_play.proofs.Playing.{no_lines}
use Rattle.bursts.specs.declared.plan.LanePlan.{LanePlan}
use Rattle.bursts.specs.Lanes.{MayWork}
use Rattle.bursts.specs.Needs.{CanLend, planned_commands}
use Rattle.bursts.specs.Rolling.{has_rollover, rolling}
use Rattle.bursts.proofs.Cutting.{cut_by, lane_ready, lanes_last, lends_leaf, lends_on, lends_seats, marks_leaves, marks_tables, rest_seats}
use Rattle.bursts.proofs.Hearing.{rolling_append}
use Rattle.bursts.proofs.Idle.{fans_idle}
use Rattle.bursts.proofs.Lanes.{fans_begin}
use Rattle.bursts.proofs.Taking.{apart, fans_go_on, has_back, time_back}
use Rattle.bursts.proofs.Working.{all_done, last_done, none_done}
use Rattle.bursts.proofs.beside.+play_beside.Goals as goal

-- ---- no lane is left to cut off

pub returns-in_default-clause-went : goal.returns-in_default-clause-went
returns-in_default-clause-went g t c =
    let none : c.args.plans.items ≡ [] = nil_from_length c.args.plans.items (omega (arith, c.in_default.ensures.cases.0, c.args.plans.ok.0)) in
    fans_begin g.B.Berth.meaning c.args.crew.now.fleet (map planned_commands c.args.plans.items) c.args.crew.now.holds _ c.new.result.items (ap (λ (ps : List LanePlan). map planned_commands ps) none) c.new.ensures.items

pub returns-in_default-clause-done : goal.returns-in_default-clause-done
returns-in_default-clause-done g t c =
    all_done _ g.B.Berth.meaning c.args.lanes.now.items c.as_mut_slice.result.now c.work_all.new.lanes c.args.lanes.now.len c.as_mut_slice.ensures.value c.work_all.ensures.same (omega (arith, c.args.lanes.now.ok.0))
    c.work_all.ensures.each

-- ---- what the last lane needs is cut off

pub cut_off-requires-clause-counts : goal.cut_off-requires-clause-counts
cut_off-requires-clause-counts g t c κs within =
    let crew = c.args.crew.now in
    let can = subst (CanLend crew.fleet crew.holds) c.in-Some.ensures.items c.requires.lend in (
      ap (λ (ms : List Bool). length ms) c.as_slice.ensures.value ∙ marks_tables crew.fleet c.pop.new.self.items c.in-Some.plan crew.holds can,
      ap (λ (ms : List Bool). length ms) c.as_slice-2.ensures.value ∙ marks_leaves crew.fleet c.pop.new.self.items c.in-Some.plan crew.holds can,
    )

pub cut_off-requires-clause-seats : goal.cut_off-requires-clause-seats
cut_off-requires-clause-seats g t c κs within =
    let crew = c.args.crew.now in
    let can = subst (CanLend crew.fleet crew.holds) c.in-Some.ensures.items c.requires.lend in
    λ table set. lends_seats crew.fleet c.pop.new.self.items c.in-Some.plan crew.holds can table (subst (λ (ms : List Bool). is_set ms table ≡ true) c.as_slice.ensures.value set)

pub cut_off-requires-clause-held : goal.cut_off-requires-clause-held
cut_off-requires-clause-held g t c κs within =
    let crew = c.args.crew.now in
    let can = subst (CanLend crew.fleet crew.holds) c.in-Some.ensures.items c.requires.lend in
    λ leaf set. lends_leaf crew.fleet c.pop.new.self.items c.in-Some.plan crew.holds can leaf (subst (λ (ms : List Bool). is_set ms leaf ≡ true) c.as_slice-2.ensures.value set)

pub returns-in_err-off-clause-went : goal.returns-in_err-off-clause-went
returns-in_err-off-clause-went g t c =
    let crew = c.args.crew.now in
    let e = err_from_is_err_and c.from_residual.result c.from_residual.ensures.1 in
    fans_idle g.B.Berth.meaning crew.fleet crew.holds (map planned_commands c.args.plans.items) _ c.cut_off.new.self.holds _ (c.in_err-off.ensures.refused refl) (no_lines _ e.0 e.1)

pub returns-in_err-off-clause-done : goal.returns-in_err-off-clause-done
returns-in_err-off-clause-done g t c = none_done _ g.B.Berth.meaning c.args.lanes.now.items c.requires.may

pub returns-in_err-off-clause-still : goal.returns-in_err-off-clause-still
returns-in_err-off-clause-still g t c = subst (λ (hs : List (Hold g.row.B.Denot)). StillHas c.args.crew.now.holds hs) (sym (c.in_err-off.ensures.refused refl)) (still_same c.args.crew.now.holds)

pub returns-in_err-off-clause-time : goal.returns-in_err-off-clause-time
returns-in_err-off-clause-time g t c =
    subst (λ (hs : List (Hold g.row.B.Denot)). AllPass g.B.Berth.meaning c.args.crew.now.holds hs) (sym (c.in_err-off.ensures.refused refl)) (pass_none g.B.Berth.meaning c.args.crew.now.holds)

-- ---- the others play

pub play_beside-lines-requires-clause-lend : goal.play_beside-lines-requires-clause-lend
play_beside-lines-requires-clause-lend g t c κs within =
    let crew = c.args.crew.now in
    let plan = c.in-Some.plan in
    let can = subst (CanLend crew.fleet crew.holds) c.in-Some.ensures.items c.requires.lend in
    let off = c.in_ok-off.off.holds in
    let rest = c.cut_off.new.self.holds in
    let cut = cut_by plan crew.holds off rest _ _ c.as_slice.ensures.value c.as_slice-2.ensures.value c.in_ok-off.ensures.cut in
    subst (λ (f : FleetShape). CanLend f rest c.pop.new.self.items) (sym c.cut_off.ensures.fleet.0) (lends_on crew.fleet c.pop.new.self.items plan crew.holds can off rest cut)

pub play_beside-lines-requires-clause-one : goal.play_beside-lines-requires-clause-one
play_beside-lines-requires-clause-one g t c κs within =
    let lane = planned_commands c.in-Some.plan in
    let few = subst (λ (ls : List (List Command)). rolling ls ≤ 1) (lanes_last c.pop.new.self.items c.in-Some.plan c.args.plans.items c.in-Some.ensures.items) c.requires.one in
    omega (arith, few, rolling_append (map planned_commands c.pop.new.self.items) (lane ∷ []))

pub play_beside-lines-requires-clause-may : goal.play_beside-lines-requires-clause-may
play_beside-lines-requires-clause-may g t c κs within =
    let crew = c.args.crew.now in
    let plan = c.in-Some.plan in
    let can = subst (CanLend crew.fleet crew.holds) c.in-Some.ensures.items c.requires.lend in
    let off = c.in_ok-off.off.holds in
    let rest = c.cut_off.new.self.holds in
    let cut = cut_by plan crew.holds off rest _ _ c.as_slice.ensures.value c.as_slice-2.ensures.value c.in_ok-off.ensures.cut in
    All-same MayWork _ _ c.put_last.ensures.items (All-push MayWork c.args.lanes.now.items _ c.requires.may (record {
      may = subst (λ (f : FleetShape). AllByRecursion (MayPlayOn f off) plan.commands.items) (sym c.in_ok-off.ensures.off.0) (lane_ready crew.fleet c.pop.new.self.items plan crew.holds can off rest cut);
      unplayed = refl;
    }))

-- ---- the lane is taken back

pub unreachable-requires : goal.unreachable-requires
unreachable-requires g t c =
    omega (arith, c.in_default-pop.ensures.cases.0, c.play_beside-lines.new.lanes.ok.0, c.play_beside-lines.ensures.done.count, c.put_last.ensures.len, c.put_last.new.list.ok.0)

pub take_back-requires-clause-may : goal.take_back-requires-clause-may
take_back-requires-clause-may g t c κs within =
    let crew = c.args.crew.now in
    let rest = c.cut_off.new.self in
    let others = c.play_beside-lines.new.crew in
    let last = last_done _ g.B.Berth.meaning c.args.lanes.now.items c.pop-2.new.self.items _ c.in-Some-pop.lane _ _ c.put_last.ensures.items c.in-Some-pop.ensures.items c.play_beside-lines.ensures.done in
    let fleet : others.fleet ≡ crew.fleet = c.play_beside-lines.ensures.fleet.0 ∙ c.cut_off.ensures.fleet.0 in
    record {
      fleet = last.1.fleet ∙ (c.in_ok-off.ensures.off.0 ∙ sym fleet);
      tables = last.1.tables ∙ (c.in_ok-off.ensures.off.1 ∙ sym (c.play_beside-lines.ensures.fleet.1 ∙ c.cut_off.ensures.fleet.1));
      leaves = apart g.B.Berth.meaning _ _ crew.holds c.in_ok-off.off.holds rest.holds c.in-Some-pop.lane.crew.holds others.holds c.in_ok-off.ensures.cut last.1.still c.play_beside-lines.ensures.still;
      seats = λ table below. still_seats rest.holds others.holds c.play_beside-lines.ensures.still table
          (rest_seats _ _ crew.holds c.in_ok-off.off.holds rest.holds c.in_ok-off.ensures.cut table (c.requires.lend.seats table (subst (λ (f : FleetShape). table < length f.names) fleet below)));
    }

pub returns-clause-went : goal.returns-clause-went
returns-clause-went g t c =
    let crew = c.args.crew.now in
    let off = c.in_ok-off.off in
    let rest = c.cut_off.new.self in
    let plan = c.in-Some.plan in
    let plans = c.pop.new.self.items in
    let last = last_done _ g.B.Berth.meaning c.args.lanes.now.items c.pop-2.new.self.items _ c.in-Some-pop.lane _ _ c.put_last.ensures.items c.in-Some-pop.ensures.items c.play_beside-lines.ensures.done in
    let rolls : c.has_rollover-rolls.result ≡ has_rollover plan.commands.items = c.has_rollover-rolls.ensures ∙ ap (λ (cs : List Command). has_rollover cs) c.as_slice-3.ensures.value in
    fans_go_on g.B.Berth.meaning _ _ crew.holds off.holds rest.holds c.in-Some-pop.lane.crew.holds c.play_beside-lines.new.crew.holds c.take_back.new.self.holds c.in_ok-off.ensures.cut c.take_back.ensures.back
    crew.fleet rest.fleet off.fleet c.cut_off.ensures.fleet.0 c.in_ok-off.ensures.off.0 (map planned_commands plans) (planned_commands plan) _ (lanes_last plans plan c.args.plans.items c.in-Some.ensures.items) c.requires.one
    _ _ _ _ _ _ c.has_rollover-rolls.result rolls c.hand_over.ensures c.take_over.ensures c.play_beside-lines.result c.in-Some-pop.lane.lines c.behind.result c.count-number.result c.play_beside-lines.ensures.went last.1.went
    (length-map plans planned_commands ∙ sym c.count-number.ensures) c.behind.ensures

pub returns-clause-done : goal.returns-clause-done
returns-clause-done g t c =
    (last_done _ g.B.Berth.meaning c.args.lanes.now.items c.pop-2.new.self.items _ c.in-Some-pop.lane _ _ c.put_last.ensures.items c.in-Some-pop.ensures.items c.play_beside-lines.ensures.done).0

pub returns-clause-still : goal.returns-clause-still
returns-clause-still g t c =
    let last = last_done _ g.B.Berth.meaning c.args.lanes.now.items c.pop-2.new.self.items _ c.in-Some-pop.lane _ _ c.put_last.ensures.items c.in-Some-pop.ensures.items c.play_beside-lines.ensures.done in
    has_back g.B.Berth.meaning _ _ c.args.crew.now.holds c.in_ok-off.off.holds c.cut_off.new.self.holds c.in-Some-pop.lane.crew.holds c.play_beside-lines.new.crew.holds c.take_back.new.self.holds
    c.in_ok-off.ensures.cut c.take_back.ensures.back last.1.still c.play_beside-lines.ensures.still c.take_back.ensures.seats

pub returns-clause-time : goal.returns-clause-time
returns-clause-time g t c =
    let last = last_done _ g.B.Berth.meaning c.args.lanes.now.items c.pop-2.new.self.items _ c.in-Some-pop.lane _ _ c.put_last.ensures.items c.in-Some-pop.ensures.items c.play_beside-lines.ensures.done in
    time_back g.B.Berth.meaning _ _ c.args.crew.now.holds c.in_ok-off.off.holds c.cut_off.new.self.holds c.in-Some-pop.lane.crew.holds c.play_beside-lines.new.crew.holds c.take_back.new.self.holds
    c.in_ok-off.ensures.cut c.take_back.ensures.back last.1.time c.play_beside-lines.ensures.time
