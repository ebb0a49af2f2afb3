use Rattle.player.proofs.Ordered.{is_leaves, order_has, order_may, plays_as}
use Rattle.lane_play.proofs.command.play_command.Goals as goal

pub order-order-requires : goal.order-order-requires
order-order-requires g c = is_leaves c.args.crew.now.fleet c.args.command c.requires.may

pub play-requires-clause-may : goal.play-requires-clause-may
play-requires-clause-may g c κs bounds = order_may c.args.crew.now.fleet c.args.command c.order-order.result c.order-order.ensures c.requires.may

pub play-requires-clause-has : goal.play-requires-clause-has
play-requires-clause-has g c κs bounds = order_has c.args.crew.now.fleet c.args.crew.now.holds c.args.command c.order-order.result c.order-order.ensures c.requires.has

pub returns-clause-plays : goal.returns-clause-plays
returns-clause-plays g c =
    plays_as g.B.Berth.meaning c.args.crew.now.fleet c.args.command c.order-order.result c.args.crew.now.holds c.play.new.self.holds _ _ c.play.result c.order-order.ensures c.play.ensures.plays
