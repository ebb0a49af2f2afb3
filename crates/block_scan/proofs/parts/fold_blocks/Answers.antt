use Rattle.std.proofs.Common.{◌≡◌, [], rules}
use Rattle.block_scan.proofs.Merged.{all_merged, next_fits, none_merged, one_merged}
use Rattle.block_scan.proofs.parts.fold_blocks.Goals as goal

pub loop-part-init : goal.loop-part-init
loop-part-init g c =
    none_merged c.args.query.now c.args.views.now c.of-all.result c.in_ok-fold_each.field-0.items c.from_vec-rest.result.items (search rules) c.from_vec-rest.ensures.items c.in_ok-fold_each.ensures

pub merge-requires : goal.merge-requires
merge-requires g c =
    next_fits c.args.query.now c.args.views.now c.loop-part.all c.in_ok-part.part c.in-Some.part c.loop-part.rest.items c.pop_front.new.self.items c.loop-part.invariant c.in-Some.ensures.items c.in_ok-part.was
    c.requires

pub loop-part-preserved : goal.loop-part-preserved
loop-part-preserved g c =
    one_merged c.args.query.now c.args.views.now c.loop-part.all c.in_ok-part.part c.in-Some.part c.loop-part.rest.items c.pop_front.new.self.items c.loop-part.invariant c.in-Some.ensures.items c.in_ok-part.was
    c.in_ok-all.all c.in_ok-all.ensures.within c.in_ok-all.ensures.both

pub returns-clause-groups : goal.returns-clause-groups
returns-clause-groups g c =
    let none : c.loop-part.rest.items ≡ [] = search rules in
    (all_merged c.args.query.now c.args.views.now c.loop-part.all c.loop-part.rest.items c.loop-part.invariant none).0

pub returns-clause-within : goal.returns-clause-within
returns-clause-within g c =
    let none : c.loop-part.rest.items ≡ [] = search rules in
    (all_merged c.args.query.now c.args.views.now c.loop-part.all c.loop-part.rest.items c.loop-part.invariant none).1
