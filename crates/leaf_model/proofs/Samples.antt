-- Worked examples, which the definitions compute.
use Rattle.std.specs.Prelude.{◌≡◌, ℕ, List, [], ◌∷◌, map, pos, negsuc, Some, None, codes, refl, true, false}
use Rattle.row_model.specs.declared.rows.Value.TheVariants as value
use Rattle.row_model.specs.declared.rows.Row.{Row}
use Rattle.leaf_model.specs.declared.writes.Write.TheVariants.{Add, Expire, Keep}
use Rattle.leaf_model.specs.declared.queries.Agg.TheVariants.{Count, Sum, Min, Max, Avg}
use Rattle.leaf_model.specs.declared.queries.Query.{Query}
use Rattle.leaf_model.specs.declared.queries.Cond.{Cond}
use Rattle.leaf_model.specs.declared.queries.Op.TheVariants.{Ne, Lt}
use Rattle.leaf_model.specs.declared.groups.Fold.{Fold}
use Rattle.leaf_model.specs.declared.groups.Key.TheVariants as key
use Rattle.leaf_model.specs.Content.{content, late_count, kept_count, removed_count}
use Rattle.leaf_model.specs.Groups.{groups, passes}

abbrev at : ℕ → Row
at t = record { time = pos t; cells = [] }

abbrev times : List ℕ → List Row
times ts = map at ts

-- expire 100, then an add of 99 and 100
expired_add : content (Expire (pos 100) ∷ Add (times (99 ∷ 100 ∷ [])) ∷ []) ≡ record { rows = times (100 ∷ []); horizon = pos 100 }
expired_add = refl

late_one : late_count (content (Expire (pos 100) ∷ [])) (times (99 ∷ 100 ∷ [])) ≡ 1
late_one = refl

kept_one : kept_count (content (Expire (pos 100) ∷ [])) (times (99 ∷ 100 ∷ [])) ≡ 1
kept_one = refl

-- keep 5 of three rows removes none, keep 0 removes three
keep_five : removed_count (content (Add (times (1 ∷ 2 ∷ 3 ∷ [])) ∷ [])) (Keep 5) ≡ 0
keep_five = refl

keep_none : removed_count (content (Add (times (1 ∷ 2 ∷ 3 ∷ [])) ∷ Keep 5 ∷ [])) (Keep 0) ≡ 3
keep_none = refl

-- 5, 1, 9, expired at 5, and the last one kept
last_of_two : content (Add (times (5 ∷ 1 ∷ 9 ∷ [])) ∷ Expire (pos 5) ∷ Keep 1 ∷ []) ≡ record { rows = times (9 ∷ []); horizon = pos 5 }
last_of_two = refl

-- a lower expiry changes nothing
lower : content (Expire (pos 100) ∷ Expire (pos 50) ∷ Add (times (60 ∷ [])) ∷ []) ≡ record { rows = []; horizon = pos 100 }
lower = refl

-- three rows, of which two have a host and two a number
abbrev hosts : List Row
hosts =
    record { time = pos 1; cells = record { name = codes "host"; value = value.Text (codes "a") } ∷ record { name = codes "v"; value = value.Int (pos 2) } ∷ [] } ∷
    record { time = pos 2; cells = record { name = codes "v"; value = value.Int (pos 3) } ∷ [] } ∷
    record { time = pos 3; cells = record { name = codes "host"; value = value.Text (codes "a") } ∷ [] } ∷ []

abbrev by_host : Query
by_host = record {
  table = codes "errors";
  from = pos 0;
  to = pos 9;
  conds = [];
  keys = codes "host" ∷ [];
  aggs = Count ∷ Avg (codes "v") ∷ Max (codes "v") ∷ [];
  order = Some 0;
  limit = 100000;
}

abbrev counted : Fold
counted = record { seen = 0; sum = pos 0; min = None; max = None }

abbrev just : ℕ → Fold
just n = record { seen = 1; sum = pos n; min = Some (pos n); max = Some (pos n) }

-- the group of the missing host stands first, and COUNT has a fold of no integer
host_groups : groups by_host hosts ≡
    record { keys = key.Missing ∷ []; count = 1; folds = counted ∷ just 3 ∷ just 3 ∷ [] } ∷
    record { keys = key.Text (codes "a") ∷ []; count = 2; folds = counted ∷ just 2 ∷ just 2 ∷ [] } ∷ []
host_groups = refl

-- a text meets no condition with an integer, not even `!=`, and a missing cell meets none
abbrev not_five : Cond
not_five = record { name = codes "host"; op = Ne; value = value.Int (pos 5) }

none_pass : groups (record by_host { conds = not_five ∷ [] }) hosts ≡ []
none_pass = refl

-- both ends of the range belong to it
ends_pass : map (passes (record by_host { from = pos 1; to = pos 2 })) hosts ≡ true ∷ true ∷ false ∷ []
ends_pass = refl

-- `time` is the row's time, also in a condition
abbrev early : Cond
early = record { name = codes "time"; op = Lt; value = value.Int (pos 3) }

early_pass : map (passes (record by_host { conds = early ∷ [] })) hosts ≡ true ∷ true ∷ false ∷ []
early_pass = refl

-- without GROUP BY the one group has no key; a sum may be negative, and a name that no row has sums to 0 and has no
-- least
abbrev all_together : Query
all_together = record by_host { keys = []; aggs = Sum (codes "v") ∷ Min (codes "w") ∷ []; order = None }

abbrev falling : List Row
falling = record { time = pos 1; cells = record { name = codes "v"; value = value.Int (negsuc 6) } ∷ [] } ∷ hosts

negative_sum : groups all_together falling ≡
    record { keys = []; count = 4; folds = record { seen = 3; sum = negsuc 1; min = Some (negsuc 6); max = Some (pos 3) } ∷ counted ∷ [] } ∷ []
negative_sum = refl

-- no passing row, no group
no_group : groups all_together [] ≡ []
no_group = refl
