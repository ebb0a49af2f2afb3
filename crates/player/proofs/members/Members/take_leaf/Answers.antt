use Rattle.std.proofs.Common.{ap}
use Rattle.std.specs.Prelude.{slice_set}
use Rattle.std.specs.Vec.{with_item}
use Rattle.player.specs.Members.{holds_in}
use Rattle.player.proofs.MemberSteps.{with_parts}
use Rattle.player.proofs.Returned.{seats_of_still, seats_on}
use Rattle.player.proofs.TakenBack.{back_one, members_put, put_held, put_seats, slot_free}
use Rattle.player.proofs.members.Members.take_leaf.Goals as goal

pub put-requires : goal.put-requires
put-requires g c = slot_free c.args.self.now c.args.number c.requires.members c.requires.within c.requires.free c.index_mut.result.now c.index_mut.ensures.value

pub meet_leaf-requires-clause-members : goal.meet_leaf-requires-clause-members
meet_leaf-requires-clause-members g c = λ κs bounds.
    let x = c.args.self.now in
    members_put x c.args.number c.requires.members c.requires.within c.args.leaf (with_item x.leaves c.args.number c.put.new.slot) (ap (λ o. slice_set x.leaves.items c.args.number o) c.put.ensures) c.requires.own

pub meet_leaf-requires-clause-held : goal.meet_leaf-requires-clause-held
meet_leaf-requires-clause-held g c = λ κs bounds.
    let x = c.args.self.now in
    put_held x c.args.number c.requires.members c.requires.within c.args.leaf (with_item x.leaves c.args.number c.put.new.slot) (ap (λ o. slice_set x.leaves.items c.args.number o) c.put.ensures)

pub returns-clause-back : goal.returns-clause-back
returns-clause-back g c =
    let x = c.args.self.now in
    back_one x c.args.number c.requires.members c.requires.within c.args.leaf (with_item x.leaves c.args.number c.put.new.slot) (ap (λ o. slice_set x.leaves.items c.args.number o) c.put.ensures)
    g.B.Berth.meaning (holds_in c.meet_leaf.new.self) c.meet_leaf.ensures.met

pub returns-clause-seats : goal.returns-clause-seats
returns-clause-seats g c =
    let x = c.args.self.now in
    let leaves = with_item x.leaves c.args.number c.put.new.slot in
    seats_on (holds_in x) (holds_in (with_parts x leaves x.rows)) (holds_in c.meet_leaf.new.self)
    (put_seats x c.args.number c.requires.members c.requires.within c.args.leaf leaves (ap (λ o. slice_set x.leaves.items c.args.number o) c.put.ensures))
    (seats_of_still (holds_in (with_parts x leaves x.rows)) (holds_in c.meet_leaf.new.self) c.meet_leaf.ensures.still)
