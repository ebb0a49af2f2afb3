use Rattle.std.proofs.Common.{◌≡◌, sym, subst, ◌∙◌}
use Rattle.std.specs.Prelude.{IfErr}
use Rattle.std.specs.List.{AllByRecursion}
use Rattle.std.proofs.lemmas.Result.{err_from_is_err_and}
use Rattle.row_blocks.specs.declared.fault.BlockFault.TheVariants.{NoRows}
use Rattle.row_blocks.specs.Blocks.{IsBlock}
use Rattle.adopt.specs.Finishing.{after_block, block_from, made_from}
use Rattle.adopt.proofs.Making.{refuses}
use Rattle.adopt.proofs.finishing.blocks_from.Goals as goal

pub returns-in_err-block_from-clause-refused : goal.returns-in_err-block_from-clause-refused
returns-in_err-block_from-clause-refused c =
    let all = c.args.blocks.items in
    let columns = c.args.columns.now.items in
    let p = err_from_is_err_and c.from_residual.result c.from_residual.ensures.1 in
    subst (λ r. IfErr r (λ e. e ≡ NoRows → AllByRecursion IsBlock (made_from block_from after_block all columns) → ⊥)) (sym p.1)
    (λ none each.
    refuses block_from after_block IsBlock all columns c.loop-block.made.items c.loop-block.rest.items c.loop-block.columns.items c.loop-block.invariant
    c.in-Some.block c.pop_front.new.self.items c.in-Some.ensures.items (c.in_err-block_from.ensures.refused (sym p.2 ∙ none)) each)
