use Rattle.std.proofs.Common.{◌≡◌, drop}
use Rattle.std.specs.List.{list_any}
use Rattle.query_text.specs.Roles.{is_orderable}
use Rattle.query_text.proofs.aggregates.any_takes_order.Given as goal

abbrev pub invariant-loop-agg : goal.invariant-loop-agg
invariant-loop-agg l = list_any is_orderable l.aggs ≡ list_any is_orderable (drop l.agg-index l.aggs)
