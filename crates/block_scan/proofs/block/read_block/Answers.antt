use Rattle.std.proofs.Common.{◌≡◌, ◌∷◌, rules, to_z, of_z, sym, ◌∙◌}
use Rattle.std.specs.Int.{w64}
use Rattle.std.proofs.lemmas.Int.{to_z-of_z}
use Rattle.block_scan.proofs.Timed.{range_between}
use Rattle.block_scan.proofs.block.read_block.Goals as goal

pub read_columns-requires-clause-between : goal.read_columns-requires-clause-between
read_columns-requires-clause-between g c =
    let b = c.args.block.now in let from = c.range-from.result.0 in let to = c.range-from.result.1 in let times = c.in-Some.times.now in let others = c.in-Some.others.now in
    let whole : c.columns.result.now ≡ times ∷ others = search rules in
    range_between b c.rows.result times others from to (to_z w64 (of_z w64 from)) (to_z w64 (of_z w64 to)) c.rows.ensures (sym c.columns.ensures ∙ whole) c.range-from.ensures
    (to_z-of_z w64 from (search rules)) (to_z-of_z w64 to (search rules))
