use Rattle.std.proofs.Common.{◌≡◌, ◌+◌, ◌-◌, ◌≤◌, length, drop}
use Rattle.std.specs.List.{prefix_len}
use Rattle.json.specs.Run.{is_plain}
use Rattle.row_json.proofs.walk.plain_len.Given as goal

abbrev pub invariant-plain : goal.invariant-plain
invariant-plain l = (prefix_len is_plain l.text ≡ l.at + prefix_len is_plain (drop l.at l.text)) × (l.at ≤ length l.text)

abbrev pub decreases-plain : goal.decreases-plain
decreases-plain l = length l.text - l.at
