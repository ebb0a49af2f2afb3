use Rattle.text_lines.proofs.Counted.{ends_step}
use Rattle.text_lines.proofs.ends.ends.Goals as goal

pub loop-rest-preserved : goal.loop-rest-preserved
loop-rest-preserved c =
    ends_step c.args.text.now c.loop-rest.rest.now c.split_at.result.0.now c.split_at.result.1.now c.loop-rest.count c.ends_in.result c.split_at.ensures.front c.split_at.ensures.back c.ends_in.ensures.exact c.ends_in.ensures.few c.loop-rest.invariant.0 c.loop-rest.invariant.1
