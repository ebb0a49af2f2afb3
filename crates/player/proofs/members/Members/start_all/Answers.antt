use Rattle.std.proofs.Common.{◌+◌, refl, ◌∙◌, arith}
use Rattle.player.specs.Members.{holds_in}
use Rattle.player.proofs.HoldLists.{still_leaf}
use Rattle.player.proofs.Starting.{started_more, started_none}
use Rattle.player.proofs.members.Members.start_all.Goals as goal

pub loop-number-init : goal.loop-number-init
loop-number-init g c = record {
  members = c.requires.members;
  same = record { fleet = refl; tables = refl };
  starts = started_none g.B.Berth.meaning c.args.self.now c.new.result c.new.ensures.items;
}

pub act-more-requires-clause-held : goal.act-more-requires-clause-held
act-more-requires-clause-held g c = λ κs bounds.
    let was = c.loop-number in
    still_leaf (holds_in c.args.self.now) (holds_in was.self) was.invariant.starts.goes.still was.number (c.requires.held was.number)

pub loop-number-preserved : goal.loop-number-preserved
loop-number-preserved g c =
    let was = c.loop-number in
    let then = c.act-more in
    record {
      members = then.ensures.members;
      same = record { fleet = then.ensures.same.fleet ∙ was.invariant.same.fleet; tables = then.ensures.same.tables ∙ was.invariant.same.tables };
      starts = started_more g.B.Berth.meaning was.number (was.number + 1) c.args.self.now was.self then.new.self was.lines then.result c.joined-lines.result (omega arith)
          was.invariant.same was.invariant.starts then.ensures.acts c.joined-lines.ensures;
    }
