use Rattle.std.proofs.Common.{◌≡◌, sym, subst, ◌∙◌}
use Rattle.std.specs.Prelude.{IfErr}
use Rattle.std.specs.List.{AllByRecursion}
use Rattle.std.proofs.lemmas.Result.{err_from_is_err_and}
use Rattle.row_blocks.specs.declared.fault.BlockFault.TheVariants.{NoRows}
use Rattle.adopt.specs.Finishing.{IsMade, after_table, made_from, table_from}
use Rattle.adopt.proofs.Making.{refuses}
use Rattle.adopt.proofs.finishing.tables_from.Goals as goal

pub returns-in_err-table_from-clause-refused : goal.returns-in_err-table_from-clause-refused
returns-in_err-table_from-clause-refused c =
    let all = c.args.tables.items in
    let columns = c.args.columns.now.items in
    let p = err_from_is_err_and c.from_residual.result c.from_residual.ensures.1 in
    subst (λ r. IfErr r (λ e. e ≡ NoRows → AllByRecursion IsMade (made_from table_from after_table all columns) → ⊥)) (sym p.1)
    (λ none each.
    refuses table_from after_table IsMade all columns c.loop-table.made.items c.loop-table.rest.items c.loop-table.columns.items c.loop-table.invariant
    c.in-Some.table c.pop_front.new.self.items c.in-Some.ensures.items (c.in_err-table_from.ensures.refused (sym p.2 ∙ none)) each)
