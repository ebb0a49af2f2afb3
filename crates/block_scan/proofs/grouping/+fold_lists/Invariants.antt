use Rattle.std.proofs.Common.{length}
use Rattle.block_scan.proofs.grouping.+fold_lists.Given as goal

abbrev pub decreases-fold_lists : goal.decreases-fold_lists
decreases-fold_lists l = length l.order.now
