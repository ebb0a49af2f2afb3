use Rattle.std.proofs.Common.{◌≡◌, map, take, vec_len}
use Rattle.row_model.specs.declared.rows.Row.{Row}
use Rattle.standing_query.proofs.late.times_of.Given as goal

abbrev pub invariant-loop-row : goal.invariant-loop-row
invariant-loop-row l = record {
  times : l.times.items ≡ map (λ (row : Row). row.time) (take l.row-index l.rows);
  count : vec_len l.times ≡ l.row-index;
}
