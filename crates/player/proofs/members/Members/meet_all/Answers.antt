use Rattle.std.proofs.Common.{◌≤◌, ◌+◌, length, refl, ◌∙◌, arith}
use Rattle.leaf_table.specs.Lists.{lists_in}
use Rattle.player.specs.Members.{holds_in}
use Rattle.player.proofs.Chains.{still_more, still_none}
use Rattle.player.proofs.HoldLists.{holds_count, still_leaf}
use Rattle.player.proofs.MeetLeaves.{all_pass, leaves_all, leaves_more, leaves_none}
use Rattle.player.proofs.members.Members.meet_all.Goals as goal

pub loop-number-init : goal.loop-number-init
loop-number-init g c = record {
  members = c.requires.members;
  same = record { fleet = refl; tables = refl };
  met = leaves_none g.B.Berth.meaning (holds_in c.args.self.now);
  still = still_none g.B.Berth.meaning (holds_in c.args.self.now);
  spares = λ table n has. has;
}

pub meet_leaf-requires-clause-held : goal.meet_leaf-requires-clause-held
meet_leaf-requires-clause-held g c = λ κs bounds.
    let was = c.loop-number in
    still_leaf (holds_in c.args.self.now) (holds_in was.self) was.invariant.still was.number (c.requires.held was.number)

pub loop-number-preserved : goal.loop-number-preserved
loop-number-preserved g c =
    let was = c.loop-number in
    let then = c.meet_leaf in
    record {
      members = then.ensures.members;
      same = record { fleet = then.ensures.same.fleet ∙ was.invariant.same.fleet; tables = then.ensures.same.tables ∙ was.invariant.same.tables };
      met = leaves_more g.B.Berth.meaning was.number (was.number + 1) (holds_in c.args.self.now) (holds_in was.self) (holds_in then.new.self) (omega arith) was.invariant.met then.ensures.met;
      still = still_more g.B.Berth.meaning (holds_in c.args.self.now) (holds_in was.self) (holds_in then.new.self) was.invariant.still then.ensures.still;
      spares = λ table n has. then.ensures.spares table n (was.invariant.spares table n has);
    }

pub returns-clause-met : goal.returns-clause-met
returns-clause-met g c =
    let x = c.args.self.now in
    let was = c.loop-number in
    let all : length (holds_in x) ≤ was.number =
    omega (arith, holds_count 0 x.tables.now x.leaves.items (lists_in x.rows.items), c.loop-number-test.false, c.len-number-end.ensures, x.leaves.ok.0) in
    leaves_all g.B.Berth.meaning was.number (holds_in x) (holds_in was.self) all was.invariant.met

pub returns-clause-time : goal.returns-clause-time
returns-clause-time g c = all_pass g.B.Berth.meaning (holds_in c.args.self.now) (holds_in c.loop-number.self) (returns-clause-met g c)
