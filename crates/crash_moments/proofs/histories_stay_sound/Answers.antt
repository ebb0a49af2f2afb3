use Rattle.crash_moments.proofs.Histories.{stays_sound, cut_keeps}
use Rattle.crash_moments.proofs.histories_stay_sound.Goals as goal

pub returns-clause-sound : goal.returns-clause-sound
returns-clause-sound c = λ base es founded legal. stays_sound base es founded legal

pub returns-clause-keeps : goal.returns-clause-keeps
returns-clause-keeps c = λ clock w watched. cut_keeps clock w watched
