use Rattle.block_scan.proofs.Merged.{folded_both}
use Rattle.block_scan.proofs.threads.fold_one.Goals as goal

pub returns : goal.returns
returns c = folded_both c.args.query.now c.args.view.now c.fold.result c.fold.ensures.groups c.fold.ensures.within
