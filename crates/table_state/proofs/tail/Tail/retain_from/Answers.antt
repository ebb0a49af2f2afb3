use Rattle.std.proofs.Common.{◌≡◌, ℤ, List, int_le, true, to_z, of_z, sym, subst, rules}
use Rattle.std.specs.Int.{w64}
use Rattle.std.proofs.lemmas.Int.{to_z-of_z}
use Rattle.row_model.specs.declared.rows.Row.{Row}
use Rattle.leaf_model.specs.Content.{rows_from}
use Rattle.table_state.specs.Stored.{AreFrom}
use Rattle.table_state.proofs.Least.{all_stay, from_left}
use Rattle.table_state.proofs.tail.Tail.retain_from.Goals as goal

pub returns-then-horizon-self : goal.returns-then-horizon-self
returns-then-horizon-self c =
    let t = c.self.inside in let h = c.args.horizon in
    let at : to_z w64 (of_z w64 t.least) ≡ t.least = search rules in
    let low = subst (λ (z : ℤ). int_le h z ≡ true) at
    (subst (λ (z : ℤ). int_le z (to_z w64 (of_z w64 t.least)) ≡ true) (to_z-of_z w64 h c.ranges.horizon) c.if-horizon-self.true) in
    subst (λ (rows : List Row). rows ≡ rows_from h rows) c.self.view_is (sym (all_stay h t.least t.rows low c.self.invariant.from))
