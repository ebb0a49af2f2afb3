use Rattle.std.proofs.Common.{sym, ◌∙◌}
use Rattle.script_text.proofs.Spaces.{trimmed_less, trimmed_end}
use Rattle.script_text.proofs.words.trimmed.Goals as goal

pub loop-front-preserved : goal.loop-front-preserved
loop-front-preserved c = trimmed_less c.loop-front.front.now (sym c.loop-front-test.ensures) ∙ c.loop-front.invariant

pub returns : goal.returns
returns c = sym (trimmed_end c.loop-front.front.now (sym c.loop-front-test.ensures)) ∙ c.loop-front.invariant
