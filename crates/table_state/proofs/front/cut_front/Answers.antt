use Rattle.std.proofs.Common.{◌≤◌, List, sym, subst}
use Rattle.row_blocks.specs.Blocks.{Block}
use Rattle.row_blocks.specs.Held.{columns_count}
use Rattle.table_state.proofs.Counting.{columns_behind}
use Rattle.table_state.proofs.front.cut_front.Goals as goal

pub returns-clause-columns : goal.returns-clause-columns
returns-clause-columns c =
    subst (λ (l : List Block). columns_count l ≤ columns_count c.args.blocks.now) (sym c.drop_first.ensures) (columns_behind c.front_of-front.result.blocks c.args.blocks.now)
