use Rattle.std.proofs.Common.{◌≡◌, ◌++◌, ℕ, List, drop, string_bytes}
use Rattle.query_text.specs.Printing.{conds_then}
use Rattle.query_text.proofs.printing.push_conds.Given as goal

-- what was written, and then what is left
abbrev pub invariant-loop-cond : goal.invariant-loop-cond
invariant-loop-cond l = (further : List ℕ) → string_bytes l.out ++ conds_then (drop l.cond-index l.conds) further ≡ string_bytes l.fn.out ++ conds_then l.conds further
