use Rattle.std.proofs.Common.{rules, map}
use Rattle.group_table.specs.Reads.{seen_key}
use Rattle.std.proofs.lemmas.List.Sorted.{IsPartitionPoint-from_clause}
use Rattle.std.specs.Ordering.{is_lt}
use Rattle.leaf_model.specs.declared.groups.Group.{Group}
use Rattle.leaf_model.specs.Groups.{keys_cmp}
use Rattle.group_table.proofs.Placed.{parted, placed}
use Rattle.group_table.proofs.table.search_for.Goals as goal

pub returns-clause-place : goal.returns-clause-place
returns-clause-place c = λ g same.
    let point = IsPartitionPoint-from_clause (λ (a : Group). is_lt (keys_cmp a.keys (map seen_key c.args.keys.now))) _ _ c.partition_point.ensures.partitioned (parted (map seen_key c.args.keys.now) c.args.table.now c.requires) (λ a r q k. search rules) in
    placed g c.args.table.now c.partition_point.result c.partition_point.ensures.bound (rw same point)
