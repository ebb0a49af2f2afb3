use Rattle.std.proofs.Common.{◌≡◌, ◌||◌, ℤ, int_lt, rules, ap₂, ◌∙◌}
use Rattle.std.specs.Int.{w64}
use Rattle.std.proofs.lemmas.Int.{to_z-of_z}
use Rattle.block_scan.proofs.Ranges.{apart, together}
use Rattle.block_scan.proofs.block.is_apart.Goals as goal

pub returns : goal.returns
returns c =
    let q = c.args.query.now in let b = c.args.block.now in let from = c.range-from.result.0 in let to = c.range-from.result.1 in
    let is : c.lie_apart.result ≡ (int_lt q.to from || int_lt to q.from)
    = c.lie_apart.ensures ∙ ap₂ (λ (x y : ℤ). int_lt q.to x || int_lt y q.from) (to_z-of_z w64 from (search rules)) (to_z-of_z w64 to (search rules)) in
    record {
      none = apart q b from to c.lie_apart.result c.range-from.ensures is;
      met = together q b from to c.lie_apart.result c.range-from.ensures is;
    }
