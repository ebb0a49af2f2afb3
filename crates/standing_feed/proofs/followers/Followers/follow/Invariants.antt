use Rattle.std.proofs.Common.{◌-◌, length}
use Rattle.standing_feed.proofs.Followed.{FollowedSome}
use Rattle.standing_feed.proofs.followers.Followers.follow.Given as goal

-- those in front have followed, and the entries of the others are left
abbrev pub invariant-loop-place : goal.invariant-loop-place
invariant-loop-place l = FollowedSome l.lines l.fn.noted l.initial.self.list.items l.self.list.items l.place l.entries

abbrev pub decreases-loop-place : goal.decreases-loop-place
decreases-loop-place l = length l.self.list.items - l.place
