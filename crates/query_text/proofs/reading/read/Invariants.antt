use Rattle.std.proofs.Common.{◌≡◌, ◌≤◌, ◌<◌, ◌-◌, length, drop, get_or, false}
use Rattle.query_text.specs.Tokens.{tokens_from, is_blank_byte}
use Rattle.query_text.specs.Reading.{read_from, query_of}
use Rattle.query_text.proofs.reading.read.Given as goal

-- what is left, from what was read on, means what all means
abbrev pub invariant-loop-at : goal.invariant-loop-at
invariant-loop-at l = record {
  within : l.at ≤ length l.text;
  solid : l.at < length l.text → is_blank_byte (get_or l.text l.at 0) ≡ false;
  same : read_from (length l.text) l.query l.place (tokens_from 0 l.at (drop l.at l.text)) ≡ query_of l.text;
}

abbrev pub decreases-loop-at : goal.decreases-loop-at
decreases-loop-at l = length l.text - l.at
