use Rattle.std.proofs.Common.{◌≡◌, ℤ, int_lt, rules, ap, ◌∙◌}
use Rattle.std.specs.Int.{w64}
use Rattle.std.proofs.lemmas.Int.{to_z-of_z}
use Rattle.blocks_tests.proofs.Ranges.{later}
use Rattle.blocks_tests.proofs.scans.is_later.Goals as goal

pub returns : goal.returns
returns c =
    let q = c.args.query.now in let from = c.range-from.result.0 in
    let is : c.ends_before.result ≡ int_lt q.to from = c.ends_before.ensures ∙ ap (λ (x : ℤ). int_lt q.to x) (to_z-of_z w64 from (search rules)) in
    later q c.args.block.now from c.range-from.result.1 c.ends_before.result c.range-from.ensures is
