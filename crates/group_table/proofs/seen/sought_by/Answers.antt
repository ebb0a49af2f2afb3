use Rattle.std.proofs.Common.{map, ap}
use Rattle.leaf_model.specs.Looks.{sought_in}
use Rattle.group_table.proofs.SeenLaws.{names_three}
use Rattle.group_table.proofs.seen.sought_by.Goals as goal

pub returns : goal.returns
returns c = λ row.
    names_three row c.args.query.now
    (map (sought_in row) c.new-sought.result.items) (map (sought_in row) c.look_for_conds.new.sought.items) (map (sought_in row) c.look_for_keys.new.sought.items) (map (sought_in row) c.look_for_aggs.new.sought.items)
    (ap (map (sought_in row)) c.new-sought.ensures.items)
    (rw c.as_slice.ensures at (c.in_ok-look_for_conds.ensures row))
    (rw c.as_slice-2.ensures at (c.in_ok-look_for_keys.ensures row))
    (rw c.as_slice-3.ensures at (c.in_ok-look_for_aggs.ensures row))
