use Rattle.std.proofs.Common.{◌≡◌, ◌++◌, ◌∷◌, [], ℕ, Some, length, sym, ap, subst, ◌∙◌, arith}
use Rattle.std.specs.Prelude.{option_to_list}
use Rattle.leaf_table.specs.Lists.{lists_in}
use Rattle.leaf_moves.specs.Stage.{MeetAll}
use Rattle.player.specs.Crew.{column}
use Rattle.player.specs.Rows.{MayMeet, OnlyColumn}
use Rattle.leaf_deeds.specs.Held.{berth_of, seats_of, leaf_state}
use Rattle.player.proofs.Ending.{abandoned_more, abandoned_none, last_at, longer, may_now, no_one, there}
use Rattle.player.proofs.end.abandon_all.Goals as goal

pub loop-slot-init : goal.loop-slot-init
loop-slot-init g c = record {
  so_far = abandoned_none g.B.Berth.meaning c.args.leaves.items (lists_in c.args.rows.items) c.args.berths.now.items;
  few = c.requires.few;
  room = c.requires.room;
}

pub unreachable-requires : goal.unreachable-requires
unreachable-requires g c =
    let was = c.loop-slot in
    let now = c.pop.new.self.items in
    let popped : was.leaves.items ≡ now ++ c.in-Some.slot ∷ [] = c.pop.ensures.items ∙ ap (λ o. now ++ option_to_list o) c.in-Some.is in
    let first = lists_in c.args.rows.items in
    no_one c.in-Some.slot c.in-None.is (c.requires.held (length now) c.in-Some.slot
    (last_at g.B.Berth.meaning c.args.leaves.items first c.args.berths.now.items was.leaves.items now (lists_in was.rows.items) was.berths.items c.in-Some.slot was.invariant.so_far popped))

pub abandon_one-requires-clause-may : goal.abandon_one-requires-clause-may
abandon_one-requires-clause-may g c = λ κs bounds.
    let was = c.loop-slot in
    let now = c.pop.new.self.items in
    let leaf = c.in-Some-slot.leaf in
    let first = lists_in c.args.rows.items in
    let popped : was.leaves.items ≡ now ++ Some leaf ∷ [] = c.pop.ensures.items ∙ ap (λ o. now ++ option_to_list o) (c.in-Some.is ∙ ap (λ o. Some o) c.in-Some-slot.is) in
    let count : c.len.result ≡ length now = omega (arith, c.len.ensures, c.pop.new.self.ok.0) in
    subst (λ (n : ℕ). MayMeet n (seats_of leaf) (lists_in was.rows.items)) (sym count)
    (may_now g.B.Berth.meaning c.args.leaves.items first c.args.berths.now.items was.leaves.items now (lists_in was.rows.items) was.berths.items leaf was.invariant.so_far popped
    (c.requires.may (length now) leaf (there g.B.Berth.meaning c.args.leaves.items first c.args.berths.now.items was.leaves.items now (lists_in was.rows.items) was.berths.items leaf was.invariant.so_far popped)))

pub loop-slot-preserved : goal.loop-slot-preserved
loop-slot-preserved g c =
    let was = c.loop-slot in
    let now = c.pop.new.self.items in
    let leaf = c.in-Some-slot.leaf in
    let first = lists_in c.args.rows.items in
    let popped : was.leaves.items ≡ now ++ Some leaf ∷ [] = c.pop.ensures.items ∙ ap (λ o. now ++ option_to_list o) (c.in-Some.is ∙ ap (λ o. Some o) c.in-Some-slot.is) in
    let count : c.len.result ≡ length now = omega (arith, c.len.ensures, c.pop.new.self.ok.0) in
    let meaning = g.B.Berth.meaning in
    let one = c.abandon_one in
    let then = lists_in one.new.rows.items in
    let met = one.ensures.met in
    let size = longer meaning c.args.leaves.items first c.args.berths.now.items was.leaves.items now (lists_in was.rows.items) was.berths.items leaf was.invariant.so_far popped in
    record {
      so_far = abandoned_more meaning c.args.leaves.items first c.args.berths.now.items was.leaves.items now (lists_in was.rows.items) was.berths.items leaf was.invariant.so_far popped
          met.0 then one.new.berths.items
          (subst (λ (n : ℕ). MeetAll (leaf_state leaf) (column n (lists_in was.rows.items)) met.0 (column n then) (meaning (berth_of leaf))) count met.1)
          (subst (λ (n : ℕ). OnlyColumn n (lists_in was.rows.items) then) count one.ensures.only)
          one.ensures.berths;
      few = omega (arith, was.invariant.few, size);
      room = omega (arith, was.invariant.room, size, one.ensures.len, one.ensures.room);
    }
