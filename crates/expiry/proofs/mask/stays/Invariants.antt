use Rattle.std.proofs.Common.{◌≡◌, ℕ, ◌<◌, ◌≤◌, false, length, slice_index_or}
use Rattle.expiry.specs.Masks.{stays_at}
use Rattle.expiry.proofs.mask.stays.Given as goal

abbrev pub invariant-loop-place : goal.invariant-loop-place
invariant-loop-place l = record {
  long : length l.mask.items ≡ length l.times;
  done : (k : ℕ) → k < l.place → k < length l.times → slice_index_or l.mask.items k false ≡ stays_at l.times l.skip l.horizon k;
  ahead : (k : ℕ) → l.place ≤ k → slice_index_or l.mask.items k false ≡ false;
}
