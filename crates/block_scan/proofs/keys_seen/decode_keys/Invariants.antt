use Rattle.std.proofs.Common.{length, take}
use Rattle.block_scan.specs.Keyed.{AreOfKeys}
use Rattle.block_scan.specs.Reads.{columns_of, row_of}
use Rattle.block_scan.proofs.keys_seen.decode_keys.Given as goal

abbrev pub invariant-loop-name : goal.invariant-loop-name
invariant-loop-name l = AreOfKeys (length l.times) (row_of l.times (columns_of l.read)) (take l.name-index l.names) l.all.items
