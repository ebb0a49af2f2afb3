use Rattle.std.specs.Prelude.{vec_len}
use Rattle.bursts.proofs.beside.+play_beside.Given as goal

abbrev pub decreases-play_beside : goal.decreases-play_beside
decreases-play_beside g l = vec_len l.plans
