use Rattle.std.proofs.Common.{◌≡◌, ℕ, ◌<◌, ◌≤◌, Some}
use Rattle.std.specs.Prelude.{slice_get}
use Rattle.leaf_table.specs.Calls.{SeatView}
use Rattle.player.proofs.meet_all.least_share.Given as goal

-- the seats before this one have no fewer
abbrev pub invariant-loop-seat : goal.invariant-loop-seat
invariant-loop-seat l = (leaf : ℕ) (s : SeatView) → leaf < l.seat-index → slice_get l.seats leaf ≡ Some s → l.least ≤ s.share
