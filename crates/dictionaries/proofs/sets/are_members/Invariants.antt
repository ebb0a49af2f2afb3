use Rattle.std.proofs.Common.{ℕ, ◌<◌}
use Rattle.dictionaries.specs.Sets.{member_at}
use Rattle.dictionaries.proofs.sets.are_members.Given as goal

abbrev pub invariant-loop-j : goal.invariant-loop-j
invariant-loop-j l = (i : ℕ) → i < l.j → member_at l.part i < l.texts
