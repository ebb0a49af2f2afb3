use Rattle.std.proofs.Common.{◌≡◌, ℕ, ◌-◌, ◌<◌, length, pos, slice_index_or}
use Rattle.delta_codes.specs.Slots.{slot}
use Rattle.column_bytes.specs.Cells.{anchors_at}
use Rattle.column_bytes.proofs.in_order.fill_slots.Given as goal

abbrev pub invariant-loop-i : goal.invariant-loop-i
invariant-loop-i l = record {
  each : (k : ℕ) → k < l.i → slice_index_or l.values k (pos 0) ≡ slot (anchors_at (length l.codes) l.extra) l.codes k;
  before : 0 < l.i → l.before ≡ slot (anchors_at (length l.codes) l.extra) l.codes (l.i - 1);
}
