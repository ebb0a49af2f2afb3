use Rattle.std.proofs.Common.{◌≡◌, ◌++◌, drop}
use Rattle.std.specs.List.{flat_map}
use Rattle.query_text.specs.Printing.{doubled}
use Rattle.query_text.proofs.spellings.push_doubled.Given as goal

-- what was written, and then what is left
abbrev pub invariant-loop-b : goal.invariant-loop-b
invariant-loop-b l = l.out.items ++ flat_map (doubled l.mark) (drop l.b-index l.text) ≡ l.fn.out.items ++ flat_map (doubled l.mark) l.text
