use Rattle.std.proofs.Common.{List, Option, map, sym, subst}
use Rattle.std.specs.List.{AllZip}
use Rattle.standing_feed.specs.Following.{CallsAt}
use Rattle.standing_feed.specs.Sharing.{AreKept, IsHeardBy, calls_at, kept_in}
use Rattle.standing_feed.proofs.Kept.{heard_count, heard_places}
use Rattle.standing_feed.proofs.followed_calls.FollowedCalls.hear.Goals as goal

pub new-requires : goal.new-requires
new-requires c =
    subst (λ n. AreKept n c.self.inside.heeded.items) (sym (heard_count c.args.lines.now c.self.inside.tables.items c.in_ok-tables.tables.items c.in_ok-tables.ensures)) c.self.invariant

pub returns : goal.returns
returns c =
    let tables = c.self.inside.tables.items in
    let heeded = c.self.inside.heeded.items in
    subst (λ (noted : List (Option CallsAt)). AllZip (IsHeardBy c.args.lines.now) noted c.new.result) c.self.view_is
    (subst (AllZip (IsHeardBy c.args.lines.now) (map (kept_in (map calls_at tables)) heeded)) (sym c.new.ensures)
    (heard_places c.args.lines.now tables c.in_ok-tables.tables.items heeded c.in_ok-tables.ensures c.self.invariant))
