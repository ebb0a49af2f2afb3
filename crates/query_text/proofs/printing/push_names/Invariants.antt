use Rattle.std.proofs.Common.{◌≡◌, ◌++◌, ℕ, List, drop, string_bytes}
use Rattle.query_text.specs.Printing.{names_then}
use Rattle.query_text.proofs.printing.push_names.Given as goal

-- what was written, and then what is left
abbrev pub invariant-loop-name : goal.invariant-loop-name
invariant-loop-name l = (further : List ℕ) → string_bytes l.out ++ names_then (drop l.name-index l.names) further ≡ string_bytes l.fn.out ++ names_then l.names further
