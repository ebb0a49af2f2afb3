use Rattle.std.proofs.Common.{◌≡◌, ◌≤◌, ◌-◌, length, drop}
use Rattle.std.specs.List.{position_from}
use Rattle.query_text.specs.Roles.{same_agg}
use Rattle.query_text.proofs.aggregates.find_agg.Given as goal

abbrev pub invariant-loop-i : goal.invariant-loop-i
invariant-loop-i l = record {
  within : l.i ≤ length l.aggs;
  same : position_from (same_agg l.agg) 0 l.aggs ≡ position_from (same_agg l.agg) l.i (drop l.i l.aggs);
}

abbrev pub decreases-loop-i : goal.decreases-loop-i
decreases-loop-i l = length l.aggs - l.i
