use Rattle.std.proofs.Common.{◌≡◌, ◌≤◌, take}
use Rattle.text_lines.specs.Parts.{ends}
use Rattle.text_lines.proofs.ends.ends_in.Given as goal

abbrev pub invariant-loop-byte : goal.invariant-loop-byte
invariant-loop-byte l = (l.count ≡ ends (take l.byte-index l.text)) × (l.count ≤ l.byte-index)
