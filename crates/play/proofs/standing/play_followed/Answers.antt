use Rattle.std.proofs.Common.{map, rules, subst}
use Rattle.standing_feed.specs.Following.{FollowAll, calls_in}
use Rattle.play.proofs.OwnItems.{followed_lines, lost_as}
use Rattle.play.proofs.OwnFollowers.{followers_stay}
use Rattle.play.proofs.standing.play_followed.Goals as goal

pub follow-requires : goal.follow-requires
follow-requires g c = record {
  places = c.play_any.ensures.places c.in_ok-notes.notes c.in_ok-notes.ensures.places;
}

pub returns-in_err-follow-clause-did : goal.returns-in_err-follow-clause-did
returns-in_err-follow-clause-did g c =
    lost_as g.B.Berth.meaning c.args.crew.now.fleet c.args.item _ _ c.args.followers.now.list.items c.args.crew.now.holds c.play_any.new.crew.holds _ _ _ c.from_residual-in_err-follow.result (search rules) c.play_any.ensures.did

pub returns-in_err-lines-clause-did : goal.returns-in_err-lines-clause-did
returns-in_err-lines-clause-did g c =
    lost_as g.B.Berth.meaning c.args.crew.now.fleet c.args.item _ _ c.args.followers.now.list.items c.args.crew.now.holds c.play_any.new.crew.holds _ _ _ c.from_residual-in_err-lines.result (search rules) c.play_any.ensures.did

pub returns-clause-did : goal.returns-clause-did
returns-clause-did g c =
    followed_lines g.B.Berth.meaning c.args.crew.now.fleet c.args.item c.args.followers.now.list.items c.play_any.new.followers.list.items c.follow.new.self.list.items c.args.crew.now.holds c.play_any.new.crew.holds _ _
    c.in_ok-lines.lines.items (map calls_in c.in_ok-notes.notes) c.in_ok-notes.ensures.calls
    (subst (λ lines. FollowAll (map calls_in c.in_ok-notes.notes) lines c.play_any.new.followers.list.items c.follow.new.self.list.items) c.as_slice.ensures.value c.in_ok-follow.ensures.follow)
    c.in_ok-lines.ensures.did

pub returns-in_err-follow-clause-followers : goal.returns-in_err-follow-clause-followers
returns-in_err-follow-clause-followers g c =
    followers_stay c.args.crew.now.fleet c.play_any.new.followers.list.items c.follow.new.self.list.items c.follow.ensures.places c.play_any.ensures.followers

pub returns-clause-followers : goal.returns-clause-followers
returns-clause-followers g c =
    followers_stay c.args.crew.now.fleet c.play_any.new.followers.list.items c.follow.new.self.list.items c.follow.ensures.places c.play_any.ensures.followers
