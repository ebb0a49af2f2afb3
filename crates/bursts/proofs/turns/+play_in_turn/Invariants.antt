use Rattle.std.specs.Prelude.{vec_len}
use Rattle.bursts.proofs.turns.+play_in_turn.Given as goal

abbrev pub decreases-play_in_turn : goal.decreases-play_in_turn
decreases-play_in_turn g l = vec_len l.plans
