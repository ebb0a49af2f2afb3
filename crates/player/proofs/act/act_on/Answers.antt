use Rattle.leaf_deeds.specs.Held.{berth_of, leaf_state}
use Rattle.player.proofs.Columns.{only_more}
use Rattle.player.proofs.DeedSteps.{acts}
use Rattle.player.proofs.act.act_on.Goals as goal

pub returns-clause-only : goal.returns-clause-only
returns-clause-only g c = only_more c.args.number _ _ _ c.meet.ensures.only c.meet-2.ensures.only

pub returns-clause-acts : goal.returns-clause-acts
returns-clause-acts g c =
    let done = c.deed-moved in
    let does = done.ensures.does in
    acts c.args.number g.B.Berth.meaning (berth_of c.args.leaf) (berth_of c.meet.new.leaf) (berth_of done.result.0) (berth_of c.meet-2.new.leaf)
    (leaf_state c.args.leaf) (leaf_state c.meet.new.leaf) (leaf_state done.result.0) (leaf_state c.meet-2.new.leaf) _ _ _ done.new.notes done.result.1
    c.args.names.now c.args.deed c.of-answer.result c.deed_lines-lines.result _ c.meet.ensures.berth c.meet-2.ensures.berth
    c.requires.member c.meet.ensures.keeps c.meet.ensures.met c.meet-2.ensures.met does.moves does.carries done.ensures.time does.cause does.reads c.deed_lines-lines.ensures c.of-answer.ensures
