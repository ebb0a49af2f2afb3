use Rattle.std.proofs.Common.{get_or, List, ap, subst, ◌∙◌}
use Rattle.row_blocks.specs.declared.column.BlockColumn.{BlockColumn}
use Rattle.row_blocks.specs.Columns.{IsSeen}
use Rattle.row_blocks.proofs.LivePlaces.{times_read}
use Rattle.row_blocks.proofs.live.times_view.Goals as goal

pub returns : goal.returns
returns c =
    times_read c.args.block.now c.is_block.ensures c.times-item.result c.in-Some.view
    (c.times-item.is ∙ ap (λ (l : List BlockColumn). get_or l 0 c.times-item.result) (c.columns.ensures ∙ c.is_block.ensures.columns_are))
    (subst (IsSeen c.in-Some.view) c.as_slice.ensures c.in-Some.ensures.seen)
