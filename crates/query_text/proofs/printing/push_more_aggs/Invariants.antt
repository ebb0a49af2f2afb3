use Rattle.std.proofs.Common.{◌≡◌, ◌++◌, ℕ, List, drop, string_bytes}
use Rattle.query_text.specs.Printing.{more_aggs_then}
use Rattle.query_text.proofs.printing.push_more_aggs.Given as goal

-- what was written, and then what is left
abbrev pub invariant-loop-agg : goal.invariant-loop-agg
invariant-loop-agg l = (further : List ℕ) → string_bytes l.out ++ more_aggs_then (drop l.agg-index l.aggs) further ≡ string_bytes l.fn.out ++ more_aggs_then l.aggs further
