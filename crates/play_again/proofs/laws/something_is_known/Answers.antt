use Rattle.play_again.proofs.KeepsBase.{all_known}
use Rattle.play_again.proofs.laws.something_is_known.Goals as goal

pub returns : goal.returns
returns g c = all_known g.N.Bases.base g.B.Berth.meaning c.args._olds.now.items c.args._news.now.items c.requires
