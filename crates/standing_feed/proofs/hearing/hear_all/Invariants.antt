use Rattle.std.proofs.Common.{◌≡◌, ℕ, ◌++◌, List, drop}
use Rattle.standing_feed.specs.Hearing.{heard, heard_from, named}
use Rattle.standing_feed.proofs.hearing.hear_all.Given as goal

-- what was heard, and what is left to hear
abbrev pub invariant-loop-line : goal.invariant-loop-line
invariant-loop-line l = (name : List ℕ) → l.all.items ++ heard_from (named l.at name) l.calls (drop l.line-index l.lines) ≡ heard (named l.at name) l.fn.calls.items l.lines
