use Rattle.std.proofs.Common.{[], ◌∷◌, refl}
use Rattle.std.specs.Prelude.{Some}
use Rattle.play_again.proofs.known.keep.Goals as goal

pub keep_base-requires : goal.keep_base-requires
keep_base-requires g c = (Some c.requires.0 ∷ [], (c.requires.1, refl))
