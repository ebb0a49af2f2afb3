use Rattle.std.proofs.Common.{ap, ◌∙◌}
use Rattle.leaf_model.specs.Groups.{value_of}
use Rattle.leaf_model.specs.declared.queries.Agg.{Agg}
use Rattle.group_table.specs.Reads.{agg_name, seen_folds, seen_row}
use Rattle.group_table.proofs.SeenLaws.{folds_are, value_count}
use Rattle.group_table.proofs.table.add_folds.Goals as goal

pub add_cells-requires-clause-seen : goal.add_cells-requires-clause-seen
add_cells-requires-clause-seen c = rw c.as_slice.ensures (value_count (λ (agg : Agg). value_of (agg_name agg) (seen_row c.args.row.now)) c.args.query.now.aggs c.args.row.now.aggs.now c.requires.seen.aggs)

pub returns-clause-value : goal.returns-clause-value
returns-clause-value c =
    rw (ap (seen_folds c.args.query.now.aggs) c.requires.seen.aggs ∙ folds_are (seen_row c.args.row.now) c.args.query.now.aggs) at (rw c.as_slice.ensures at c.add_cells.ensures.value)

pub returns-clause-row : goal.returns-clause-row
returns-clause-row c =
    rw (ap (seen_folds c.args.query.now.aggs) c.requires.seen.aggs ∙ folds_are (seen_row c.args.row.now) c.args.query.now.aggs) at (rw c.as_slice.ensures at c.add_cells.ensures.row)
