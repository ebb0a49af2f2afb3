use Rattle.std.proofs.Common.{◌≡◌, ◌++◌, ◌∷◌, [], Option, subst}
use Rattle.std.specs.Prelude.{OnOk}
use Rattle.standing_feed.specs.Following.{CallsAt}
use Rattle.standing_feed.proofs.Noted.{noted_like, noted_within}
use Rattle.standing_feed.proofs.followers.note_next.Goals as goal

pub share-requires : goal.share-requires
share-requires c = noted_within c.args.item.now c.args.before.now c.args.noted.now c.in-Some.place c.requires c.in-Some.ensures.0

pub returns-in-Some : goal.returns-in-Some
returns-in-Some c =
    subst (λ (calls : Option CallsAt). OnOk c.share.result (c.share.new.self ≡ c.args.noted.now ++ calls ∷ []))
    (noted_like c.args.item.now c.args.before.now c.args.noted.now c.in-Some.place c.args.follower.now c.requires c.in-Some.ensures.0 c.in-Some.ensures.1) c.share.ensures

pub returns-in_ok-note-in-None : goal.returns-in_ok-note-in-None
returns-in_ok-note-in-None c = subst (λ (calls : Option CallsAt). OnOk c.keep.result (c.keep.new.self ≡ c.args.noted.now ++ calls ∷ [])) c.in_ok-note-in-None.ensures c.keep.ensures
