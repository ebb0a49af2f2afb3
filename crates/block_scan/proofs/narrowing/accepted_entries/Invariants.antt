use Rattle.std.proofs.Common.{◌≡◌, Some, map, slice_index_or}
use Rattle.std.specs.List.{range_with_len}
use Rattle.leaf_model.specs.Groups.{cond_accepts}
use Rattle.column_bytes.specs.Cells.{entries, no_value}
use Rattle.block_scan.proofs.narrowing.accepted_entries.Given as goal

abbrev pub invariant-loop-code : goal.invariant-loop-code
invariant-loop-code l = l.all.items ≡ map (λ code. cond_accepts l.cond (Some (slice_index_or (entries l.view.book) code no_value))) (range_with_len 0 l.code)
