use Rattle.play.proofs.Looked.{failed_by, looked_at, seen_by}
use Rattle.play.proofs.inspecting.look_at.Goals as goal

pub returns-clause-seen : goal.returns-clause-seen
returns-clause-seen g c =
    let olds = c.args.berths.now.items in
    let looked = looked_at g.B.Berth.meaning c.args.leaf olds c.index_mut.result.now c.inspect.new.berth c.requires c.index_mut.ensures.value c.inspect.ensures.untouched in
    seen_by g.B.Berth.meaning c.args.leaf olds _ c.inspect.result looked c.inspect.ensures.shows

pub returns-clause-failed : goal.returns-clause-failed
returns-clause-failed g c = λ is.
    let olds = c.args.berths.now.items in
    let looked = looked_at g.B.Berth.meaning c.args.leaf olds c.index_mut.result.now c.inspect.new.berth c.requires c.index_mut.ensures.value c.inspect.ensures.untouched in
    failed_by g.B.Berth.meaning c.args.leaf olds _ c.inspect.result looked c.inspect.ensures.cause is

pub returns-clause-looked : goal.returns-clause-looked
returns-clause-looked g c =
    looked_at g.B.Berth.meaning c.args.leaf c.args.berths.now.items c.index_mut.result.now c.inspect.new.berth c.requires c.index_mut.ensures.value c.inspect.ensures.untouched
