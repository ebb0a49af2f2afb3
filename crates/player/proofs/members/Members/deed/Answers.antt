use Rattle.std.proofs.Common.{Some, sym, ap, ◌∙◌}
use Rattle.std.specs.Prelude.{slice_set}
use Rattle.player.proofs.MemberSteps.{deed_at, member_at, members_then, none_is_not, set_twice, slot_at, slot_held}
use Rattle.player.proofs.members.Members.deed.Goals as goal

pub unreachable-requires : goal.unreachable-requires
unreachable-requires g c =
    let one = slot_held c.args.self.now c.args.number c.index_mut.result.now c.requires.members c.requires.leaf c.requires.held c.index_mut.ensures.value in
    none_is_not c.take.result one.0 c.in-None.is (c.take.ensures.value ∙ one.1)

pub act_on-moved-requires-clause-member : goal.act_on-moved-requires-clause-member
act_on-moved-requires-clause-member g c = λ κs bounds.
    let x = c.args.self.now in
    let at = slot_at x c.args.number c.index_mut.result.now c.in-Some.leaf c.requires.members c.requires.leaf c.index_mut.ensures.value (sym c.take.ensures.value ∙ c.in-Some.is) in
    member_at x c.args.number c.in-Some.leaf c.requires.members c.requires.leaf (c.requires.members.each c.args.number c.in-Some.leaf at)

pub returns-clause-members : goal.returns-clause-members
returns-clause-members g c =
    let x = c.args.self.now in
    let at = slot_at x c.args.number c.index_mut.result.now c.in-Some.leaf c.requires.members c.requires.leaf c.index_mut.ensures.value (sym c.take.ensures.value ∙ c.in-Some.is) in
    let then = c.act_on-moved in
    let now = ap (λ o. slice_set (slice_set x.leaves.items c.args.number c.take.new.self) c.args.number o) c.put.ensures ∙ set_twice x.leaves.items c.args.number c.take.new.self (Some then.result.0) in
    members_then x c.args.number c.in-Some.leaf then.result.0 _ then.new.rows c.requires.members at now then.ensures.only then.ensures.member then.ensures.keeps.tables

pub returns-clause-deed : goal.returns-clause-deed
returns-clause-deed g c =
    let x = c.args.self.now in
    let at = slot_at x c.args.number c.index_mut.result.now c.in-Some.leaf c.requires.members c.requires.leaf c.index_mut.ensures.value (sym c.take.ensures.value ∙ c.in-Some.is) in
    let then = c.act_on-moved in
    let now = ap (λ o. slice_set (slice_set x.leaves.items c.args.number c.take.new.self) c.args.number o) c.put.ensures ∙ set_twice x.leaves.items c.args.number c.take.new.self (Some then.result.0) in
    deed_at x c.args.number c.in-Some.leaf then.result.0 _ then.new.rows c.requires.members at now then.ensures.only g.B.Berth.meaning c.args.deed then.result.1 then.result.2 then.ensures.acts then.ensures.time
