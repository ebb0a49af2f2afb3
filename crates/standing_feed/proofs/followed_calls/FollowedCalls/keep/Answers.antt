use Rattle.std.proofs.Common.{rules, List, [], ◌∷◌, ◌++◌, Option, ap, ap₂, sym, ◌∙◌}
use Rattle.std.specs.Option.{option_map}
use Rattle.standing_feed.specs.declared.table_calls.TableCalls.{TableCalls}
use Rattle.standing_feed.specs.Following.{CallsAt}
use Rattle.standing_feed.specs.Sharing.{calls_at}
use Rattle.standing_feed.proofs.Kept.{kept_push}
use Rattle.standing_feed.proofs.followed_calls.FollowedCalls.keep.Goals as goal

pub returns : goal.returns
returns c =
    kept_push c.self.inside.tables.items c.push-2.new.self.items c.self.inside.heeded.items c.push-3.new.self.items c.in-Some.calls c.self.invariant (search rules) (search rules)
    ∙ ap₂ (λ (before : List (Option CallsAt)) (one : Option CallsAt). before ++ one ∷ []) c.self.view_is (ap (λ (calls : Option TableCalls). option_map calls_at calls) (sym c.in-Some.is))
