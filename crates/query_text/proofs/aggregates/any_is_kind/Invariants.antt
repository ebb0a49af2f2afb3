use Rattle.std.proofs.Common.{◌≡◌, drop}
use Rattle.std.specs.List.{list_any}
use Rattle.query_text.specs.Roles.{has_kind}
use Rattle.query_text.proofs.aggregates.any_is_kind.Given as goal

abbrev pub invariant-loop-agg : goal.invariant-loop-agg
invariant-loop-agg l = list_any (has_kind l.kind) l.aggs ≡ list_any (has_kind l.kind) (drop l.agg-index l.aggs)
