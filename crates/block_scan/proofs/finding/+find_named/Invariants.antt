use Rattle.std.proofs.Common.{length}
use Rattle.block_scan.proofs.finding.+find_named.Given as goal

abbrev pub decreases-find_named : goal.decreases-find_named
decreases-find_named l = length l.read.now
