use Rattle.std.proofs.Common.{◌≡◌, ◌+◌, ◌++◌, ◌<◌, suc, length, take, slice_get, Some, subst, rules, arith}
use Rattle.leaf_steward.proofs.Appending.{one_more, has_room}
use Rattle.leaf_steward.proofs.notes.Notes.append.Goals as goal

pub push-requires : goal.push-requires
push-requires c =
    let more : c.loop-i.i < length c.args.others.now = search rules in
    has_room c.args.self.now c.args.others.now c.loop-i.self c.loop-i.i c.loop-i.invariant more c.requires

pub loop-i-preserved : goal.loop-i-preserved
loop-i-preserved c =
    let next : suc c.loop-i.i ≡ c.loop-i.i + 1 = omega arith in
    let at : slice_get c.args.others.now c.loop-i.i ≡ Some c.get.result = search rules in
    subst (λ k. c.push.new.self ≡ c.args.self.now ++ take k c.args.others.now) next
    (one_more c.args.self.now c.args.others.now c.loop-i.self c.push.new.self c.loop-i.i c.get.result c.loop-i.invariant at c.push.ensures)
