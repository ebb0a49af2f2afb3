use Rattle.std.proofs.Common.{◌≡◌, ℕ, ◌*◌, ◌<◌, ◌≤◌, [], length, Some, None, slice_index, slice_index_or}
use Rattle.row_model.specs.Values.{bytes_in}
use Rattle.row_model.specs.declared.rows.Value.{Value}
use Rattle.row_model.specs.declared.rows.Value.TheVariants.{Set}
use Rattle.leaf_model.specs.Lent.{each_value}
use Rattle.dictionaries.specs.Dictionary.{texts_by}
use Rattle.dictionaries.specs.Sets.{AreSetCodes}
use Rattle.column_bytes.proofs.set_codes.cell_codes.Given as goal

abbrev pub invariant-loop-cell : goal.invariant-loop-cell
invariant-loop-cell l = record {
  held : AreSetCodes l.texts l.sets;
  few : length l.sets ≤ l.cell-index;
  few_texts : length l.texts ≤ 1024 * l.cell-index;
  bytes : bytes_in l.texts ≤ 65535 * l.cell-index;
  same : length l.codes.items ≡ l.cell-index;
  each : (k : ℕ) → k < l.cell-index → (value : Value) → slice_index_or (each_value l.cells) k None ≡ Some value
      → (slice_index l.codes.items k < length l.sets) × (value ≡ Set (texts_by l.texts (slice_index_or l.sets (slice_index l.codes.items k) [])));
}
