use Rattle.std.proofs.Common.{◌≡◌, ℤ, List, to_z, of_z, sym, subst, rules}
use Rattle.std.specs.Int.{w64}
use Rattle.row_model.specs.declared.rows.Row.{Row}
use Rattle.leaf_model.specs.Content.{rows_from}
use Rattle.table_state.specs.Stored.{AreFrom}
use Rattle.table_state.proofs.Least.{from_left}
use Rattle.table_state.proofs.tail.retain_each.Goals as goal

pub returns-clause-least : goal.returns-clause-least
returns-clause-least c =
    let least = c.least_with.result in let h = to_z w64 (of_z w64 c.args.horizon) in
    let fits : to_z w64 (of_z w64 least) ≡ least = search rules in
    let all = subst (λ (rows : List Row). AreFrom least (rows_from h rows)) c.lend.ensures c.least_with.ensures.least in
    subst (λ (z : ℤ). AreFrom z c.retain_from.new.self) (sym fits) (from_left least h c.args.rows.now c.retain_from.new.self c.retain_from.ensures all)
