use Rattle.std.proofs.Common.{◌≡◌, ◌+◌, ℕ, length, refl, subst, arith}
use Rattle.std.specs.Prelude.{slice_set}
use Rattle.player.specs.Crew.{is_set}
use Rattle.player.specs.Lending.{SlotsSplit}
use Rattle.player.proofs.Calling.{stands_at}
use Rattle.player.proofs.Lent.{slots_more, slots_none}
use Rattle.player.proofs.lend.split_slots.Goals as goal

pub loop-number-init : goal.loop-number-init
loop-number-init g c = record { splits = slots_none (is_set c.args.marks.now) c.args.slots.now.items c.args.off.now.items c.requires.none; room = c.requires.room }

pub put_behind-requires : goal.put_behind-requires
put_behind-requires g c =
    let was = c.loop-number in
    record { room = omega (arith, was.invariant.room, was.invariant.splits.counts.1, was.off.ok.0, c.loop-number-test.true) }

pub loop-number-preserved : goal.loop-number-preserved
loop-number-preserved g c =
    let was = c.loop-number in
    let splits = was.invariant.splits in
    let slot = c.index_mut.result.now in
    let at = stands_at was.slots.items was.number slot (omega (arith, c.loop-number-test.true, c.requires.count, splits.counts.0)) c.index_mut.ensures.value in
    record {
      splits = slots_more (is_set c.args.marks.now) was.number (was.number + 1) c.args.slots.now.items was.off.items was.slots.items c.put_behind.new.items.items
          (slice_set was.slots.items was.number c.split_slot-cut.new.slot) slot c.split_slot-cut.result c.split_slot-cut.new.slot (omega arith) splits at c.split_slot-cut.ensures refl c.put_behind.ensures.items;
      room = omega (arith, was.invariant.room, c.put_behind.ensures.room);
    }

pub returns : goal.returns
returns g c =
    let was = c.loop-number in
    let all : was.number ≡ length c.args.marks.now = omega (arith, c.loop-number-test.false, was.auto.number-end) in
    record { splits = subst (λ (n : ℕ). SlotsSplit n (is_set c.args.marks.now) c.args.slots.now.items was.off.items was.slots.items) all was.invariant.splits }
