-- An object has at most as many cells as members.
use Rattle.std.proofs.Common.{ℕ, suc, ◌+◌, ◌≤◌, Bool, true, false, List, [], ◌∷◌, length, arith}
use Rattle.std.specs.Prelude.{String, if◌then◌else◌, ◌||◌, string_bytes}
use Rattle.std.specs.declared.alloc.Global.{Global}
use Rattle.serde_json.specs.declared.value.Value.{Value}
use Rattle.serde_json.specs.View.{members_view, view}
use Rattle.row_json.specs.Row.{cell_count, is_time, is_missing}

one_more : (b : Bool) (n m : ℕ) → n ≤ m → (if b then 0 else 1) + n ≤ suc m
one_more true n m h = omega (arith, h)
one_more false n m h = omega (arith, h)

pub cells_at_most : (es : List (String Global × Value)) → cell_count (members_view es) ≤ length es
cells_at_most [] = omega arith
cells_at_most (e ∷ es) = one_more (is_time (string_bytes e.0) || is_missing (view e.1)) (cell_count (members_view es)) (length es) (cells_at_most es)
