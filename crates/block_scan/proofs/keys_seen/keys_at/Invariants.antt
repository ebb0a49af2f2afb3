use Rattle.std.proofs.Common.{◌≡◌, take}
use Rattle.block_scan.specs.Keyed.{keys_seen}
use Rattle.block_scan.proofs.keys_seen.keys_at.Given as goal

abbrev pub invariant-loop-key : goal.invariant-loop-key
invariant-loop-key l = l.all.items ≡ keys_seen (take l.key-index l.keys) l.place
