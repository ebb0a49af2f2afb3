use Rattle.std.proofs.Common.{◌+◌, ◌∙◌, ap, sym}
use Rattle.play_tests.proofs.files.moments_of.Goals as goal

pub returns : goal.returns
returns c = c.moments.ensures ∙ ap (λ n. n + 1) (sym c.files-kept.ensures.clock)
