use Rattle.std.proofs.Common.{◌≡◌, ◌++◌, ◌∷◌, [], Some, length, refl, sym, ap, ◌∙◌, arith}
use Rattle.std.specs.Prelude.{option_to_list}
use Rattle.player.specs.Members.{holds_in}
use Rattle.player.proofs.Returned.{back_more, back_none, front_all, front_last, front_pop, longer, seats_on, seats_same}
use Rattle.player.proofs.TakenBack.{leaf_moved}
use Rattle.player.proofs.members.Members.take_leaves.Goals as goal

pub loop-slot-init : goal.loop-slot-init
loop-slot-init g c = record {
  members = c.requires.members;
  same = record { fleet = refl; tables = refl };
  back = back_none g.B.Berth.meaning (length c.args.leaves.items) c.args.leaves.items (holds_in c.args.self.now) (omega arith);
  seats = seats_same (holds_in c.args.self.now);
  front = front_all c.args.leaves.items;
}

pub take_slot-requires-clause-free : goal.take_slot-requires-clause-free
take_slot-requires-clause-free g c = λ κs bounds x at.
    let was = c.loop-slot in
    let now = c.pop.new.self.items in
    let slot = c.in-Some.slot in
    let full = c.args.leaves.items in
    let popped : was.leaves.items ≡ now ++ slot ∷ [] = c.pop.ensures.items ∙ ap (λ o. now ++ option_to_list o) c.in-Some.is in
    let count : c.len.result ≡ length now = omega (arith, c.len.ensures, c.pop.new.self.ok.0) in
    let size = longer full was.leaves.items now slot was.invariant.front popped in
    c.requires.free c.len.result x slot (sym (was.invariant.back.others c.len.result (omega (arith, count, size))) ∙ at) (front_last full was.leaves.items now slot was.invariant.front popped c.len.result count)

pub take_slot-requires-clause-own : goal.take_slot-requires-clause-own
take_slot-requires-clause-own g c = λ κs bounds one is.
    let was = c.loop-slot in
    let now = c.pop.new.self.items in
    let slot = c.in-Some.slot in
    let full = c.args.leaves.items in
    let popped : was.leaves.items ≡ now ++ slot ∷ [] = c.pop.ensures.items ∙ ap (λ o. now ++ option_to_list o) c.in-Some.is in
    let count : c.len.result ≡ length now = omega (arith, c.len.ensures, c.pop.new.self.ok.0) in
    leaf_moved c.args.self.now was.self c.len.result one was.invariant.same
    (c.requires.own c.len.result one (front_last full was.leaves.items now slot was.invariant.front popped c.len.result count ∙ ap (λ o. Some o) is))

pub loop-slot-preserved : goal.loop-slot-preserved
loop-slot-preserved g c =
    let was = c.loop-slot in
    let now = c.pop.new.self.items in
    let slot = c.in-Some.slot in
    let full = c.args.leaves.items in
    let popped : was.leaves.items ≡ now ++ slot ∷ [] = c.pop.ensures.items ∙ ap (λ o. now ++ option_to_list o) c.in-Some.is in
    let count : c.len.result ≡ length now = omega (arith, c.len.ensures, c.pop.new.self.ok.0) in
    let then = c.take_slot in
    record {
      members = then.ensures.members;
      same = record { fleet = then.ensures.same.fleet ∙ was.invariant.same.fleet; tables = then.ensures.same.tables ∙ was.invariant.same.tables };
      back = back_more g.B.Berth.meaning (length was.leaves.items) (length now) c.len.result full (holds_in c.args.self.now) (holds_in was.self) (holds_in then.new.self) slot
          (longer full was.leaves.items now slot was.invariant.front popped) count (front_last full was.leaves.items now slot was.invariant.front popped c.len.result count) was.invariant.back then.ensures.back;
      seats = seats_on (holds_in c.args.self.now) (holds_in was.self) (holds_in then.new.self) was.invariant.seats then.ensures.seats;
      front = front_pop full was.leaves.items now slot was.invariant.front popped;
    }
