use Rattle.std.proofs.Common.{◌≡◌, true, int_le, subst, ◌∙◌, ap, ℕ, ◌-◌, rules}
use Rattle.std.specs.Int.{w64}
use Rattle.std.proofs.lemmas.Int.{to_z-of_z}
use Rattle.row_blocks.specs.Ordered.{IsFirstLive}
use Rattle.row_blocks.proofs.FirstLive.{first_counted}
use Rattle.row_blocks.proofs.LivePlaces.{all_counted}
use Rattle.row_blocks.proofs.block.RowBlock.count_live.Goals as goal

pub returns-then-horizon-range : goal.returns-then-horizon-range
returns-then-horizon-range c =
    let late : int_le c.args.horizon c.range.result.0 ≡ true = search rules in
    ap (λ (n : ℕ). n - c.args.skip) c.rows.ensures ∙ all_counted c.args.self.now c.args.horizon c.range.result.0 c.range.result.1 c.args.skip c.range.ensures late

pub returns-then-in_order : goal.returns-then-in_order
returns-then-in_order c =
    let place = c.first_live.result in
    let is : IsFirstLive c.args.skip place c.args.horizon c.args.self.now
    = subst (λ h. IsFirstLive c.args.skip place h c.args.self.now) (to_z-of_z w64 c.args.horizon c.ranges.horizon) c.first_live.ensures in
    ap (λ (n : ℕ). n - place) c.rows-then-in_order.ensures ∙ first_counted c.args.self.now c.args.horizon c.args.skip place is
