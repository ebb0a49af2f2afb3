use Rattle.std.proofs.Common.{◌≡◌, rules, get_or, ap, ◌∙◌}
use Rattle.std.proofs.Math.Seq.{map-set_same}
use Rattle.standing_feed.specs.Following.{table_place_of}
use Rattle.standing_feed.proofs.Followed.{followed_all, followed_next, followed_none}
use Rattle.standing_feed.proofs.followers.Followers.follow.Goals as goal

pub loop-place-init : goal.loop-place-init
loop-place-init c = followed_none c.args.lines.now c.args.noted c.args.self.now.list.items c.in_ok-entries.entries c.in_ok-entries.ensures c.requires.places

pub returns-in_err-feed_next-clause-places : goal.returns-in_err-feed_next-clause-places
returns-in_err-feed_next-clause-places c =
    let xs = c.loop-place.self.list.items in
    let i = c.loop-place.place in
    let f = c.index_mut.result.now in
    let is : f ≡ get_or xs i f = search rules in
    map-set_same table_place_of xs i c.feed_next.new.follower f (c.feed_next.ensures.place ∙ ap table_place_of is) ∙ c.loop-place.invariant.places

pub loop-place-preserved : goal.loop-place-preserved
loop-place-preserved c =
    followed_next c.args.lines.now c.args.noted c.args.self.now.list.items c.loop-place.self.list.items c.loop-place.place c.loop-place.entries c.feed_next.new.self c.index_mut.result.now c.feed_next.new.follower
    c.loop-place.invariant (search rules) (search rules) c.feed_next.ensures.place c.in_ok-feed_next.ensures.feeds

pub returns-clause-follow : goal.returns-clause-follow
returns-clause-follow c = followed_all c.args.lines.now c.args.noted c.args.self.now.list.items c.loop-place.self.list.items c.loop-place.place c.loop-place.entries c.loop-place.invariant (search rules)
