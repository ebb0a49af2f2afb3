use Rattle.std.proofs.Common.{◌∙◌, sym, arith}
use Rattle.std.proofs.lemmas.List.FromFn.{map-range_with_len_more}
use Rattle.rollover_plan.proofs.Turns.{leaf_at, turns_end}
use Rattle.rollover_plan.proofs.Cuts.{one_pushed}
use Rattle.rollover_plan.proofs.plan.by_place.Goals as goal

pub loop-turn-preserved : goal.loop-turn-preserved
loop-turn-preserved c =
    one_pushed _ _ _ _ c.in_ok-push.ensures.items c.loop-turn.invariant c.leaf_at.ensures
    ∙ sym (map-range_with_len_more (leaf_at c.args.machines c.args.per_machine) 0 c.loop-turn.turn c.loop-turn.turn (omega arith))

pub returns : goal.returns
returns c = turns_end c.args.machines c.args.per_machine c.loop-turn.turn _ c.requires.some c.loop-turn.invariant (omega arith) (omega arith)
