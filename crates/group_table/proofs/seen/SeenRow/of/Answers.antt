use Rattle.leaf_model.specs.Lent.{lent_row}
use Rattle.group_table.proofs.SeenLaws.{seen_parts}
use Rattle.group_table.proofs.seen.SeenRow.of.Goals as goal

pub returns-clause-seen : goal.returns-clause-seen
returns-clause-seen c =
    let parts = seen_parts c.args.query.now (lent_row c.args.row.now) c.args.seen.now c.requires in
    record {
      conds = rw (c.split_at.ensures.front, c.as_slice.ensures) parts.conds;
      keys = rw (c.split_at-2.ensures.front, c.split_at.ensures.back, c.as_slice.ensures, c.as_slice-2.ensures) parts.keys;
      aggs = rw (c.split_at-2.ensures.back, c.split_at.ensures.back, c.as_slice.ensures, c.as_slice-2.ensures) parts.aggs;
    }
