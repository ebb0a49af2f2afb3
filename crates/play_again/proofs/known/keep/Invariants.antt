use Rattle.play_again.specs.Keeping.{IsKeptBase}
use Rattle.play_again.proofs.known.keep.Given as goal

abbrev pub ghosts-keep_base : goal.ghosts-keep_base
ghosts-keep_base g a = record { fits = λ known. IsKeptBase (g.B.Berth.meaning a._berth.now) known }
