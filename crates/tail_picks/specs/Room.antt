-- The free rows of a table, by a count of all its rows.
use Rattle.std.specs.Prelude.{ℕ, ◌-◌, ◌^◌, List, [], ◌∷◌, pos, None}
use Rattle.leaf_model.specs.declared.queries.Query.{Query}
use Rattle.leaf_model.specs.declared.queries.Agg.TheVariants.{Count}
use Rattle.leaf_model.specs.declared.groups.Group.{Group}

-- the query that counts all rows, of whatever table is asked
abbrev pub every_row : Query
every_row = record { table = []; from = pos 0; to = pos (2 ^ 63 - 1); conds = []; keys = []; aggs = Count ∷ []; order = None; limit = 100000 }

-- the count in its answer: 0 if there is no group
abbrev pub counted : List Group → ℕ
counted [] = 0
counted (g ∷ gs) = g.count

-- the free rows of the table: 2^40 less its rows
abbrev pub free_rows : List Group → ℕ
free_rows gs = 2 ^ 40 - counted gs
