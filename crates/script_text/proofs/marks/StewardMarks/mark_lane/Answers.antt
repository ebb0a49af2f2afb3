use Rattle.script_text.proofs.Marked.{marks_step}
use Rattle.script_text.proofs.marks.StewardMarks.mark_lane.Goals as goal

pub loop-command-preserved : goal.loop-command-preserved
loop-command-preserved c =
    marks_step c.args.self.now c.loop-command.self c.mark.new.self c.args.lane.now c.loop-command.command-index c.command-item.result c.loop-command-test.true c.command-item.is c.loop-command.invariant c.in_ok-mark.ensures
