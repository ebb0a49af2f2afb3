use Rattle.player.proofs.Ordered.{plays_as}
use Rattle.bursts.proofs.Items.{all_on, one_went}
use Rattle.bursts.proofs.Needed.{all_has_order}
use Rattle.bursts.proofs.command.play_one.Goals as goal

pub play-requires-clause-has : goal.play-requires-clause-has
play-requires-clause-has g c κs within = all_has_order c.args.crew.now.fleet c.args.crew.now.holds c.requires.all c.args.order c.requires.may

pub returns-clause-went : goal.returns-clause-went
returns-clause-went g c = λ k is.
    one_went g.B.Berth.meaning c.args.crew.now.fleet c.args.crew.now.holds c.play.new.self.holds _ _ k c.play.result
    (plays_as g.B.Berth.meaning c.args.crew.now.fleet k c.args.order c.args.crew.now.holds c.play.new.self.holds _ _ c.play.result is c.play.ensures.plays)

pub returns-clause-lines_fit : goal.returns-clause-lines_fit
returns-clause-lines_fit g c = c.play.ensures.lines_fit

pub returns-clause-all : goal.returns-clause-all
returns-clause-all g c =
    all_on c.args.crew.now.fleet c.play.new.self.fleet c.args.crew.now.holds c.play.new.self.holds c.play.ensures.fleet.0 c.play.ensures.still c.requires.all
