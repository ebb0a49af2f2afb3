use Rattle.std.proofs.Common.{◌≡◌, ℕ, List, rules, ap, subst}
use Rattle.std.specs.Prelude.{IfOk, IfErr}
use Rattle.row_blocks.specs.declared.column.BlockColumn.{BlockColumn}
use Rattle.row_blocks.specs.declared.fault.BlockFault.TheVariants.{NoRows}
use Rattle.row_blocks.specs.Blocks.{Block, IsBlock}
use Rattle.region_layout.specs.declared.directory.BlockPlaces.{BlockPlaces}
use Rattle.adopt.specs.Finishing.{after_column, block_from, made_from, named_front}
use Rattle.adopt.proofs.finishing.block_from.Goals as goal

made : (b : BlockPlaces) (columns : List (List ℕ)) (own : List BlockColumn) → own ≡ made_from named_front after_column b.columns columns → record { rows = b.rows; columns = own } ≡ block_from b columns
unfolding block_from
made b columns own is = ap (λ (l : List BlockColumn). record { rows = b.rows; columns = l }) is

pub returns-clause-made : goal.returns-clause-made
returns-clause-made c =
    let is : c.in_ok-own.own ≡ made_from named_front after_column c.args.block.columns c.args.columns.now.items = search rules in
    subst (λ (x : Block). IfOk c.from_columns.result (λ y. y ≡ x)) (made c.args.block c.args.columns.now.items c.in_ok-own.own is) c.from_columns.ensures.accepted

pub returns-clause-refused : goal.returns-clause-refused
returns-clause-refused c =
    let is : c.in_ok-own.own ≡ made_from named_front after_column c.args.block.columns c.args.columns.now.items = search rules in
    subst (λ (x : Block). IfErr c.from_columns.result (λ e. e ≡ NoRows → IsBlock x → ⊥)) (made c.args.block c.args.columns.now.items c.in_ok-own.own is) c.from_columns.ensures.refused
