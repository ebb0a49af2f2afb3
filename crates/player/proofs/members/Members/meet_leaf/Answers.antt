use Rattle.std.proofs.Common.{Some, sym, ap, ◌∙◌}
use Rattle.std.specs.Prelude.{slice_set}
use Rattle.std.specs.Vec.{with_item}
use Rattle.leaf_table.specs.Lists.{lists_in}
use Rattle.player.proofs.Columns.{column_count}
use Rattle.player.proofs.MeetLeaves.{leaf_meets, leaf_spares, leaf_still}
use Rattle.player.proofs.MemberSteps.{member_at, members_then, none_is_not, set_twice, slot_at, slot_held}
use Rattle.player.proofs.SeatRows.{member_keeps}
use Rattle.player.proofs.members.Members.meet_leaf.Goals as goal

pub unreachable-requires : goal.unreachable-requires
unreachable-requires g c =
    let one = slot_held c.args.self.now c.args.number c.index_mut.result.now c.requires.members c.requires.leaf c.requires.held c.index_mut.ensures.value in
    none_is_not c.take.result one.0 c.in-None.is (c.take.ensures.value ∙ one.1)

pub meet-requires-after_bounds : goal.meet-requires-after_bounds
meet-requires-after_bounds g c = λ κs bounds.
    let x = c.args.self.now in
    let at = slot_at x c.args.number c.index_mut.result.now c.in-Some.leaf c.requires.members c.requires.leaf c.index_mut.ensures.value (sym c.take.ensures.value ∙ c.in-Some.is) in
    (member_at x c.args.number c.in-Some.leaf c.requires.members c.requires.leaf (c.requires.members.each c.args.number c.in-Some.leaf at)).may

pub returns-clause-members : goal.returns-clause-members
returns-clause-members g c =
    let x = c.args.self.now in
    let then = c.meet in
    let at = slot_at x c.args.number c.index_mut.result.now c.in-Some.leaf c.requires.members c.requires.leaf c.index_mut.ensures.value (sym c.take.ensures.value ∙ c.in-Some.is) in
    let now = ap (λ o. slice_set (slice_set x.leaves.items c.args.number c.take.new.self) c.args.number o) c.put.ensures ∙ set_twice x.leaves.items c.args.number c.take.new.self (Some then.new.leaf) in
    let member = member_at x c.args.number c.in-Some.leaf c.requires.members c.requires.leaf (c.requires.members.each c.args.number c.in-Some.leaf at) in
    members_then x c.args.number c.in-Some.leaf then.new.leaf (with_item (with_item x.leaves c.args.number c.take.new.self) c.args.number c.put.new.slot) then.new.rows c.requires.members at now then.ensures.only
    (member_keeps x.names c.args.number _ _ _ _ member then.ensures.keeps then.ensures.may) then.ensures.keeps.tables

pub returns-clause-met : goal.returns-clause-met
returns-clause-met g c =
    let x = c.args.self.now in
    let then = c.meet in
    let at = slot_at x c.args.number c.index_mut.result.now c.in-Some.leaf c.requires.members c.requires.leaf c.index_mut.ensures.value (sym c.take.ensures.value ∙ c.in-Some.is) in
    let now = ap (λ o. slice_set (slice_set x.leaves.items c.args.number c.take.new.self) c.args.number o) c.put.ensures ∙ set_twice x.leaves.items c.args.number c.take.new.self (Some then.new.leaf) in
    leaf_meets g.B.Berth.meaning x c.args.number c.in-Some.leaf then.new.leaf (with_item (with_item x.leaves c.args.number c.take.new.self) c.args.number c.put.new.slot) then.new.rows c.requires.members at now then.ensures.only then.ensures.met then.ensures.berth

pub returns-clause-still : goal.returns-clause-still
returns-clause-still g c =
    let x = c.args.self.now in
    let then = c.meet in
    let at = slot_at x c.args.number c.index_mut.result.now c.in-Some.leaf c.requires.members c.requires.leaf c.index_mut.ensures.value (sym c.take.ensures.value ∙ c.in-Some.is) in
    let now = ap (λ o. slice_set (slice_set x.leaves.items c.args.number c.take.new.self) c.args.number o) c.put.ensures ∙ set_twice x.leaves.items c.args.number c.take.new.self (Some then.new.leaf) in
    leaf_still g.B.Berth.meaning x c.args.number c.in-Some.leaf then.new.leaf (with_item (with_item x.leaves c.args.number c.take.new.self) c.args.number c.put.new.slot) then.new.rows c.requires.members at now then.ensures.only

pub returns-clause-spares : goal.returns-clause-spares
returns-clause-spares g c =
    let x = c.args.self.now in
    let then = c.meet in
    let at = slot_at x c.args.number c.index_mut.result.now c.in-Some.leaf c.requires.members c.requires.leaf c.index_mut.ensures.value (sym c.take.ensures.value ∙ c.in-Some.is) in
    let now = ap (λ o. slice_set (slice_set x.leaves.items c.args.number c.take.new.self) c.args.number o) c.put.ensures ∙ set_twice x.leaves.items c.args.number c.take.new.self (Some then.new.leaf) in
    let member = member_at x c.args.number c.in-Some.leaf c.requires.members c.requires.leaf (c.requires.members.each c.args.number c.in-Some.leaf at) in
    leaf_spares g.B.Berth.meaning x c.args.number c.in-Some.leaf then.new.leaf (with_item (with_item x.leaves c.args.number c.take.new.self) c.args.number c.put.new.slot) then.new.rows c.requires.members at now then.ensures.only then.ensures.met
    (column_count c.args.number (lists_in x.rows.items) ∙ (member.may.column.sizes.count ∙ sym member.may.seats))
