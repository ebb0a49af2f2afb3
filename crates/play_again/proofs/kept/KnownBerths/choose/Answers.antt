use Rattle.std.proofs.Common.{rules}
use Rattle.atomic_table.specs.Table.{keeps}
use Rattle.play_again.proofs.kept.KnownBerths.choose.Goals as goal

pub load-requires : goal.load-requires
load-requires g c = (search rules, search rules, λ s _ _ _ _. (c.requires.0, keeps, tt, tt, c.requires.1))
