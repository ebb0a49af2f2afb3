use Rattle.std.proofs.Common.{◌≡◌, ◌≤◌, ◌+◌, ◌-◌, vec_len}
use Rattle.row_count.proofs.Pieces.{IsTallied}
use Rattle.row_count.proofs.count.count_text.Given as goal

abbrev pub invariant-pieces : goal.invariant-pieces
invariant-pieces g l =
    IsTallied l.fn.range (g.S.Source.left l.initial.source) (g.S.Source.left l.source) l.text.items l.passed l.so_far
    × (g.S.Source.faults l.initial.source ≤ g.S.Source.faults l.source)
    × (l.passed + vec_len l.text ≤ 16777216)
    × (l.looked ≡ vec_len l.text)

abbrev pub decreases-pieces : goal.decreases-pieces
decreases-pieces g l = 16777216 - (l.passed + vec_len l.text)
