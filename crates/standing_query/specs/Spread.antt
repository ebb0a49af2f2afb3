-- The spread of a query: a query that keeps the time and each cell that the first one reads. Its groups decide those of
-- the first.
use Rattle.std.specs.Prelude.{◌≡◌, ℕ, ◌-◌, ◌^◌, List, [], ◌∷◌, ◌++◌, map, replicate, ℤ, pos, Option, Some, None, bytes_eq, if◌then◌else◌}
use Rattle.std.specs.List.{AllByRecursion, flat_map}
use Rattle.std.specs.BTreeSet.{insert_key}
use Rattle.row_model.specs.declared.rows.Value.{Value}
use Rattle.row_model.specs.declared.rows.Value.TheVariants as value
use Rattle.row_model.specs.declared.rows.Cell.{Cell}
use Rattle.row_model.specs.declared.rows.Row.{Row}
use Rattle.leaf_model.specs.declared.queries.Cond.{Cond}
use Rattle.leaf_model.specs.declared.queries.Agg.{Agg}
use Rattle.leaf_model.specs.declared.queries.Agg.TheVariants.{Count, Sum, Min, Max, Avg}
use Rattle.leaf_model.specs.declared.queries.Query.{Query}
use Rattle.leaf_model.specs.declared.groups.Key.{Key}
use Rattle.leaf_model.specs.declared.groups.Key.TheVariants as key
use Rattle.leaf_model.specs.declared.groups.Group.{Group}
use Rattle.row_model.specs.Values.{IsTime, time_name}
use Rattle.leaf_model.specs.Groups.{groups}
use Rattle.row_model.specs.Texts.{text_cmp}

-- ---- the names that a query reads

abbrev pub agg_names : Agg → List (List ℕ)
agg_names Count = []
agg_names (Sum name) = name ∷ []
agg_names (Min name) = name ∷ []
agg_names (Max name) = name ∷ []
agg_names (Avg name) = name ∷ []

-- the names that conditions, keys and aggregates read
abbrev pub names_read : Query → List (List ℕ)
names_read q = map (λ (c : Cond). c.name) q.conds ++ (q.keys ++ flat_map agg_names q.aggs)

-- names put into an ascending list: each in its place and once, without `time`
abbrev pub names_before : List (List ℕ) → List (List ℕ) → List (List ℕ)
names_before [] others = others
names_before (n ∷ ns) others = if bytes_eq n time_name then names_before ns others else insert_key text_cmp (names_before ns others) n

-- the names of the cells that a query reads
abbrev pub cells_read : Query → List (List ℕ)
cells_read q = names_before (names_read q) []

-- ---- the spread of a query

-- the query that counts the rows of each time and each list of these cells
abbrev pub spread : Query → Query
spread q = record { table = q.table; from = pos 0; to = pos (2 ^ 63 - 1); conds = []; keys = time_name ∷ cells_read q; aggs = Count ∷ []; order = None; limit = 100000 }

-- ---- from the spread back to the query

abbrev pub value_shown : Key → Option Value
value_shown key.Missing = None
value_shown (key.Int n) = Some (value.Int n)
value_shown (key.Text t) = Some (value.Text t)
value_shown (key.Set members) = Some (value.Set members)

abbrev pub time_shown : Key → ℤ
time_shown (key.Int n) = n
time_shown other = pos 0

-- the cell of a name and a value; none without a value
abbrev pub cell_under : List ℕ → Option Value → List Cell
cell_under name None = []
cell_under name (Some v) = record { name = name; value = v } ∷ []

abbrev pub cells_shown : List (List ℕ) → List Key → List Cell
cells_shown [] keys = []
cells_shown (n ∷ ns) [] = []
cells_shown (n ∷ ns) (k ∷ ks) = cell_under n (value_shown k) ++ cells_shown ns ks

-- the time in a list of keys: it comes first
abbrev pub time_in : List Key → ℤ
time_in [] = pos 0
time_in (k ∷ ks) = time_shown k

abbrev pub cells_in : List (List ℕ) → List Key → List Cell
cells_in names [] = []
cells_in names (k ∷ ks) = cells_shown names ks

-- the row that keys stand for: its time, and the cells of these names
abbrev pub row_shown : List (List ℕ) → List Key → Row
row_shown names keys = record { time = time_in keys; cells = cells_in names keys }

-- the rows that groups stand for: each as often as its count says
abbrev pub rows_shown : List (List ℕ) → List Group → List Row
rows_shown names gs = flat_map (λ (g : Group). replicate g.count (row_shown names g.keys)) gs

-- the groups of a query, from those of its spread
abbrev pub back : Query → List Group → List Group
back q gs = groups q (rows_shown (cells_read q) gs)

-- the groups of the spread decide those of the query
abbrev pub IsEnough : Type 0
IsEnough = (q : Query) (rows : List Row) → AllByRecursion (λ (row : Row). IsTime row.time) rows → back q (groups (spread q) rows) ≡ groups q rows
