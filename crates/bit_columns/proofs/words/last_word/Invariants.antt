use Rattle.std.proofs.Common.{◌-◌, ◌≡◌, ◌≤◌, length, drop}
use Rattle.bit_columns.specs.Number.{number}
use Rattle.bit_columns.proofs.words.last_word.Given as goal

abbrev pub invariant-loop-end : goal.invariant-loop-end
invariant-loop-end l = record { read : l.word ≡ number (drop l.end l.bytes); from : l.at ≤ l.end; to : l.end ≤ length l.bytes }

abbrev pub decreases-loop-end : goal.decreases-loop-end
decreases-loop-end l = l.end - l.at
