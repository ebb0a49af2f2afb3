use Rattle.std.proofs.Common.{◌≡◌, ℤ, int_le, true, to_z, of_z, subst}
use Rattle.std.specs.Int.{w64}
use Rattle.std.proofs.lemmas.Int.{to_z-of_z}
use Rattle.leaf_model.specs.Lent.{lent_rows}
use Rattle.table_state.proofs.Least.{from_few}
use Rattle.table_state.proofs.tail.least_with.Goals as goal

pub returns-then-most-horizon-clause-least : goal.returns-then-most-horizon-clause-least
returns-then-most-horizon-clause-least c =
    let h = c.args.horizon in let most = to_z w64 (of_z w64 c.args.most) in
    let low = subst (λ (z : ℤ). int_le most z ≡ true) (to_z-of_z w64 h c.ranges.horizon) c.if-most-horizon.true in
    from_few most h (lent_rows c.args.rows.now) low
