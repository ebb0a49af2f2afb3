use Rattle.std.proofs.Common.{rules, ◌∷◌, [], subst}
use Rattle.standing_feed.specs.Following.{AreFor, new_follower}
use Rattle.play.proofs.OwnFollowers.{declared_behind, declared_follower}
use Rattle.play.proofs.standing.declare.Goals as goal

pub returns-clause-followers : goal.returns-clause-followers
returns-clause-followers g c =
    declared_follower c.args.crew.now.fleet c.args.leaf c.place_of-table.result c.args.query c.args.followers.now.list.items c.declare.new.self.list.items c.requires.may (search rules) (search rules) c.requires.followers

pub returns-in_err-declare-clause-places : goal.returns-in_err-declare-clause-places
returns-in_err-declare-clause-places g c = λ noted are. subst (AreFor noted) (search rules) are

pub returns-clause-places : goal.returns-clause-places
returns-clause-places g c =
    declared_behind c.args.followers.now.list.items c.declare.new.self.list.items (new_follower c.args.leaf c.place_of-table.result c.args.query ∷ []) (search rules)
