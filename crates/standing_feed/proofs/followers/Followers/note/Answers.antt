use Rattle.std.proofs.Common.{◌≡◌, List, Option, map, ap, subst, sym, ◌∙◌}
use Rattle.std.proofs.lemmas.List.{take_all}
use Rattle.standing_feed.specs.declared.follower.Follower.{Follower}
use Rattle.standing_feed.specs.Following.{AreFor, CallsAt, calls_for, calls_in}
use Rattle.standing_feed.proofs.Noted.{noted_calls, noted_for}
use Rattle.standing_feed.proofs.followers.Followers.note.Goals as goal
use Rattle.standing_feed.proofs.followers.Followers.note.Goals.{After-loop-place}

-- each has noted
all_noted : (c : After-loop-place) → c.loop-place.noted ≡ map (calls_for c.args.item.now) c.args.self.now.list.items
all_noted c =
    c.loop-place.invariant.noted
    ∙ ap (λ (fs : List Follower). map (calls_for c.args.item.now) fs) (take_all c.loop-place.place c.as_slice-list.result.now c.loop-place-test.false ∙ c.as_slice-list.ensures.value)

pub returns-clause-calls : goal.returns-clause-calls
returns-clause-calls c = ap (λ (noted : List (Option CallsAt)). map calls_in noted) (all_noted c) ∙ noted_calls c.args.item.now c.args.self.now.list.items

pub returns-clause-places : goal.returns-clause-places
returns-clause-places c = subst (λ (noted : List (Option CallsAt)). AreFor noted c.args.self.now.list.items) (sym (all_noted c)) (noted_for c.args.item.now c.args.self.now.list.items)
