use Rattle.std.proofs.Common.{◌≡◌, filter, take}
use Rattle.leaf_model.specs.Groups.{cond_accepts}
use Rattle.block_scan.specs.declared.decoded.Decoded.TheVariants.{Codes}
use Rattle.block_scan.specs.Decoded.{decoded_at}
use Rattle.block_scan.proofs.narrowing.narrow_codes.Given as goal

abbrev pub invariant-loop-place : goal.invariant-loop-place
invariant-loop-place l = l.left.items ≡ filter (λ i. cond_accepts l.cond (decoded_at (Codes l.found) i)) (take l.place-index l.places)
