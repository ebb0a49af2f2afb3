use Rattle.std.proofs.Common.{◌≡◌, ℕ, ◌<◌, [], length, take, slice_index, slice_index_or}
use Rattle.dictionaries.specs.Dictionary.{distinct}
use Rattle.column_bytes.proofs.text_codes.codes_of.Given as goal

abbrev pub invariant-loop-value : goal.invariant-loop-value
invariant-loop-value l = record {
  texts : l.set ≡ distinct (take l.value-index l.values);
  same : length l.codes.items ≡ l.value-index;
  each : (k : ℕ) → k < l.value-index → (slice_index l.codes.items k < length l.set) × (slice_index_or l.set (slice_index l.codes.items k) [] ≡ slice_index_or l.values k []);
}
