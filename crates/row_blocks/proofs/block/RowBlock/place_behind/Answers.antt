use Rattle.std.proofs.Common.{◌≡◌, true, int_le, subst, rules, arith}
use Rattle.std.specs.Int.{w64}
use Rattle.std.proofs.lemmas.Int.{to_z-of_z}
use Rattle.row_blocks.specs.Ordered.{IsFirstLive}
use Rattle.row_blocks.proofs.FirstLive.{first_behind, first_counted, skip_within}
use Rattle.row_blocks.proofs.LivePlaces.{all_behind, all_counted}
use Rattle.row_blocks.proofs.block.RowBlock.place_behind.Goals as goal

pub overflow_add-result : goal.overflow_add-result
overflow_add-result c =
    let late : int_le c.args.horizon c.range.result.0 ≡ true = search rules in
    omega (arith, c.requires, c.is_block.ensures.few, all_counted c.args.self.now c.args.horizon c.range.result.0 c.range.result.1 c.args.skip c.range.ensures late)

pub returns-then-horizon-range-clause-place : goal.returns-then-horizon-range-clause-place
returns-then-horizon-range-clause-place c =
    let late : int_le c.args.horizon c.range.result.0 ≡ true = search rules in
    omega (arith, c.requires, all_counted c.args.self.now c.args.horizon c.range.result.0 c.range.result.1 c.args.skip c.range.ensures late)

pub returns-then-horizon-range-clause-left : goal.returns-then-horizon-range-clause-left
returns-then-horizon-range-clause-left c =
    let late : int_le c.args.horizon c.range.result.0 ≡ true = search rules in
    all_behind c.args.self.now c.args.horizon c.range.result.0 c.range.result.1 c.args.skip c.args.n c.range.ensures late

pub first_live-requires-clause-skip : goal.first_live-requires-clause-skip
first_live-requires-clause-skip c = skip_within c.args.self.now c.args.horizon c.args.skip c.args.n c.requires

pub overflow_add-result-then-in_order : goal.overflow_add-result-then-in_order
overflow_add-result-then-in_order c =
    let place = c.first_live.result in
    let is : IsFirstLive c.args.skip place c.args.horizon c.args.self.now
    = subst (λ h. IsFirstLive c.args.skip place h c.args.self.now) (to_z-of_z w64 c.args.horizon c.ranges.horizon) c.first_live.ensures in
    omega (arith, c.requires, c.is_block.ensures.few, first_counted c.args.self.now c.args.horizon c.args.skip place is)

pub returns-then-in_order-clause-place : goal.returns-then-in_order-clause-place
returns-then-in_order-clause-place c =
    let place = c.first_live.result in
    let is : IsFirstLive c.args.skip place c.args.horizon c.args.self.now
    = subst (λ h. IsFirstLive c.args.skip place h c.args.self.now) (to_z-of_z w64 c.args.horizon c.ranges.horizon) c.first_live.ensures in
    omega (arith, c.requires, first_counted c.args.self.now c.args.horizon c.args.skip place is)

pub returns-then-in_order-clause-left : goal.returns-then-in_order-clause-left
returns-then-in_order-clause-left c =
    let place = c.first_live.result in
    let is : IsFirstLive c.args.skip place c.args.horizon c.args.self.now
    = subst (λ h. IsFirstLive c.args.skip place h c.args.self.now) (to_z-of_z w64 c.args.horizon c.ranges.horizon) c.first_live.ensures in
    first_behind c.args.self.now c.args.horizon c.args.skip place c.args.n is c.requires
