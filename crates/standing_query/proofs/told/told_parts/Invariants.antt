use Rattle.std.proofs.Common.{◌≡◌, length, take}
use Rattle.std.specs.List.{AllByRecursion, flat_map}
use Rattle.leaf_model.specs.Groups.{groups}
use Rattle.group_table.specs.Joined.{IsWithin}
use Rattle.standing_query.specs.Spread.{rows_shown}
use Rattle.standing_query.proofs.told.told_parts.Given as goal

-- the groups of the rows so far
abbrev pub invariant-loop-part : goal.invariant-loop-part
invariant-loop-part l = record {
  value : l.all ≡ groups l.query (flat_map (rows_shown l.names) (take l.part-index l.parts));
  within : AllByRecursion (IsWithin (length (flat_map (rows_shown l.names) (take l.part-index l.parts)))) l.all;
}
