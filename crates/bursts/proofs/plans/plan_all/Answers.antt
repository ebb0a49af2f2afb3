use Rattle.std.proofs.Common.{◌≡◌, List, [], ◌∷◌, ◌++◌, map, sym, ap, subst, ◌∙◌, append_assoc}
use Rattle.std.specs.List.{AllByRecursion}
use Rattle.script_text.specs.declared.command.Command.{Command}
use Rattle.script_text.specs.Fits.{IsCommand}
use Rattle.script_text.specs.Commands.{leaf_count}
use Rattle.lane_play.proofs.Playing.{all_append}
use Rattle.bursts.specs.Needs.{IsLanePlan, planned_commands}
use Rattle.bursts.proofs.Cutting.{lanes_last}
use Rattle.bursts.proofs.plans.plan_all.Goals as goal

pub loop-lane-preserved : goal.loop-lane-preserved
loop-lane-preserved g c =
    let inv = c.loop-lane.invariant in
    let fleet = c.args.crew.now.fleet in
    let lane = c.in-Some.lane in
    let plan = c.in_ok-plan.field-0 in
    let rest = c.pop_front.new.self.items in
    let plans = c.loop-lane.plans.items in
    let items : c.loop-lane.rest.items ≡ lane ∷ rest = c.in-Some.ensures.items in
    let pushed : c.push.new.self.items ≡ plans ++ plan ∷ [] = c.in_ok-push.ensures.items in
    record {
      all = ap (λ (ls : List (List Command)). ls ++ rest) (lanes_last plans plan c.push.new.self.items pushed) ∙ (append_assoc (map planned_commands plans) (planned_commands plan ∷ []) rest
          ∙ (ap (λ (l : List Command). map planned_commands plans ++ l ∷ rest) c.in_ok-plan.ensures.lane_is ∙ (ap (λ (ls : List (List Command)). map planned_commands plans ++ ls) (sym items) ∙ inv.all)));
      each = subst (AllByRecursion (IsLanePlan fleet)) (sym pushed) (all_append (IsLanePlan fleet) plans (plan ∷ []) inv.each (c.in_ok-plan.ensures.is, tt));
      may = (subst (AllByRecursion (AllByRecursion (IsCommand (leaf_count fleet) fleet.names))) items inv.may).1;
    }
