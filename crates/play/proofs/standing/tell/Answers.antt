use Rattle.std.proofs.Common.{length, refl, set, sym, ap, ◌∙◌}
use Rattle.std.proofs.Math.Seq.{map-set_same}
use Rattle.std.proofs.lemmas.Option.{slice_get_read}
use Rattle.standing_feed.specs.Following.{table_place_of}
use Rattle.play.proofs.OwnFollowers.{same_tables}
use Rattle.play.proofs.OwnItems.{one_told, tells_fresh}
use Rattle.play.proofs.standing.tell.Goals as goal

pub returns-then-stale-clause-plays : goal.returns-then-stale-clause-plays
returns-then-stale-clause-plays g c =
    let olds = c.args.followers.now.list.items in
    let at = slice_get_read olds (length olds) c.args.standing c.index_mut-follower.result.now refl c.requires.there c.index_mut-follower.ensures.value in
    one_told g.B.Berth.meaning c.args.crew.now.fleet c.args.standing olds _ c.index_mut-follower.result.now c.tell_stale.new.follower c.args.crew.now.holds c.tell_stale.new.crew.holds c.tell_stale.result at refl
    c.tell_stale.ensures.plays

pub returns-else-stale-clause-plays : goal.returns-else-stale-clause-plays
returns-else-stale-clause-plays g c =
    let olds = c.args.followers.now.list.items in
    let f = c.index_mut-follower.result.now in
    let at = slice_get_read olds (length olds) c.args.standing f refl c.requires.there c.index_mut-follower.ensures.value in
    let now = c.tell_fresh.new.follower in
    one_told g.B.Berth.meaning c.args.crew.now.fleet c.args.standing olds _ f now c.args.crew.now.holds c.args.crew.now.holds c.tell_fresh.result at refl
    (tells_fresh g.B.Berth.meaning c.args.crew.now.fleet c.args.standing f now c.args.crew.now.holds c.tell_fresh.result (sym c.if-stale.ensures) c.tell_fresh.ensures.same c.tell_fresh.ensures.told)

pub returns-then-stale-clause-places : goal.returns-then-stale-clause-places
returns-then-stale-clause-places g c =
    let olds = c.args.followers.now.list.items in
    let f = c.index_mut-follower.result.now in
    let now = c.tell_stale.new.follower in
    same_tables olds (set olds c.args.standing now) (map-set_same table_place_of olds c.args.standing now f (c.tell_stale.ensures.place ∙ ap table_place_of c.index_mut-follower.ensures.value))

pub returns-else-stale-clause-places : goal.returns-else-stale-clause-places
returns-else-stale-clause-places g c =
    let olds = c.args.followers.now.list.items in
    let f = c.index_mut-follower.result.now in
    let now = c.tell_fresh.new.follower in
    same_tables olds (set olds c.args.standing now) (map-set_same table_place_of olds c.args.standing now f (ap table_place_of (c.tell_fresh.ensures.same ∙ c.index_mut-follower.ensures.value)))
