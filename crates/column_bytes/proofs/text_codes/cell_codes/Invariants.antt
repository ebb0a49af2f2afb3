use Rattle.std.proofs.Common.{◌≡◌, ℕ, ◌<◌, ◌≤◌, [], length, Some, None, slice_index, slice_index_or}
use Rattle.row_model.specs.declared.rows.Value.{Value}
use Rattle.row_model.specs.declared.rows.Value.TheVariants.{Text}
use Rattle.leaf_model.specs.Lent.{each_value}
use Rattle.dictionaries.specs.Dictionary.{AreTexts}
use Rattle.column_bytes.proofs.text_codes.cell_codes.Given as goal

abbrev pub invariant-loop-cell : goal.invariant-loop-cell
invariant-loop-cell l = record {
  texts : AreTexts l.set;
  few : length l.set ≤ l.cell-index;
  same : length l.codes.items ≡ l.cell-index;
  each : (k : ℕ) → k < l.cell-index → (value : Value) → slice_index_or (each_value l.cells) k None ≡ Some value
      → (slice_index l.codes.items k < length l.set) × (value ≡ Text (slice_index_or l.set (slice_index l.codes.items k) []));
}
