use Rattle.std.proofs.Common.{◌≤◌, ◌++◌, List, [], ◌∷◌}
use Rattle.std.specs.Vec.{vec_capacity, vec_len}
use Rattle.row_model.specs.declared.rows.Row.{Row}
use Rattle.leaf_model.specs.declared.queries.Query.{Query}
use Rattle.standing_query.specs.Parts.{AreCounted, AreParts}
use Rattle.standing_query.proofs.parts.put_part.Given as goal

-- the parts that are left and the last one are of the same rows
abbrev pub invariant-loop-before : goal.invariant-loop-before
invariant-loop-before l = record {
  counted : AreCounted (l.list.items ++ l.last ∷ []);
  rows : (q : Query) (rows : List Row) → AreParts q rows (l.fn.list.items ++ l.fn.part ∷ []) → AreParts q rows (l.list.items ++ l.last ∷ []);
  room : vec_capacity l.fn.list ≤ vec_capacity l.list;
}

abbrev pub decreases-loop-before : goal.decreases-loop-before
decreases-loop-before l = vec_len l.list
