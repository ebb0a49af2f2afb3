use Rattle.std.proofs.Common.{◌≡◌, ◌<◌, ℤ, length, drop, subst, arith}
use Rattle.std.specs.Int.{w64}
use Rattle.std.proofs.lemmas.Int.{to_z-of_z}
use Rattle.row_blocks.specs.Held.{live_rows}
use Rattle.table_state.proofs.Ahead.{first_rows}
use Rattle.table_state.proofs.front.cut_first.Goals as goal

pub returns-clause-rows : goal.returns-clause-rows
returns-clause-rows c =
    let h = c.args.horizon in let b = c.first-item.result in let skip = c.args.cut.skip in let place = c.place_behind.result in
    let some : 0 < length c.args.blocks.now = omega (arith, c.in-len1-up.len_at_least) in
    let left = subst (λ (t : ℤ). live_rows place t b ≡ drop c.args.gone (live_rows skip t b)) (to_z-of_z w64 h c.ranges.horizon) c.place_behind.ensures.left in
    first_rows c.args.blocks.now b skip h some c.first-item.is place c.args.gone c.args.cut.ahead c.requires.cut c.requires.ahead c.requires.few c.place_behind.ensures.place left
