use Rattle.std.proofs.Common.{◌≡◌, ◌∙◌, int_le, to_z, of_z, rules}
use Rattle.std.specs.Int.{w64}
use Rattle.row_blocks.proofs.LivePlaces.{has_live_is}
use Rattle.row_blocks.proofs.block.RowBlock.has_live.Goals as goal

pub returns : goal.returns
returns c =
    let same : int_le (to_z w64 (of_z w64 c.args.horizon)) (to_z w64 (of_z w64 c.range.result.1)) ≡ int_le c.args.horizon c.range.result.1 = search rules in
    same ∙ has_live_is c.args.self.now c.args.horizon c.range.result.0 c.range.result.1 c.range.ensures
