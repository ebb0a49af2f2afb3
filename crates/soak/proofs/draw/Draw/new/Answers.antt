use Rattle.std.proofs.Common.{◌∙◌}
use Rattle.soak.proofs.Drawn.{none_drawn}
use Rattle.soak.proofs.draw.Draw.new.Goals as goal

pub invariant_of-result : goal.invariant_of-result
invariant_of-result c = record { behind = c.new.ensures ∙ none_drawn c.args.seed }
