use Rattle.std.proofs.Common.{◌≡◌, ◌<◌, ℕ, slice_get, Some}
use Rattle.leaf_table.specs.Calls.{SeatView, IsFresh}
use Rattle.leaf_steward.proofs.seats.Seats.worn.Given as goal

-- the seats before the place are fresh
abbrev pub invariant-loop-place : goal.invariant-loop-place
invariant-loop-place l = (p : ℕ) (v : SeatView) → p < l.place → slice_get l.self.seats p ≡ Some v → IsFresh v
