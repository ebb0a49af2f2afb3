-- The script of a soak: a fleet, rows that a seed decides, and queries before and after a rollover.
use Rattle.std.specs.Prelude.{ℕ, pos, ◌+◌, ◌-◌, ◌*◌, ◌/◌, ◌%◌, ◌==◌, List, [], ◌∷◌, ◌++◌, map, if◌then◌else◌, Some, None, codes, decimal}
use Rattle.std.specs.List.{range_with_len}
use Rattle.leaf_model.specs.declared.queries.Agg.TheVariants.{Count, Sum, Min, Max}
use Rattle.leaf_model.specs.declared.queries.Query.{Query}
use Rattle.row_model.specs.declared.rows.Cell.{Cell}
use Rattle.row_model.specs.declared.rows.Row.{Row}
use Rattle.row_model.specs.declared.rows.Value.TheVariants.{Int, Text}
use Rattle.rand_pcg.specs.Lcg.{Lcg, advance, increment_of, started}
use Rattle.rand_pcg.specs.Pcg.{multiplier_64, pcg32}
use Rattle.script_text.specs.declared.command.Command.TheVariants as command
use Rattle.script_text.specs.declared.item.Item.{Item}
use Rattle.script_text.specs.declared.item.Item.TheVariants.{One}
use Rattle.script_text.specs.declared.script.Script.{Script}

-- the table of a soak
abbrev pub events : List ℕ
events = codes "events"

-- the generator of a seed, after k words
abbrev pub generator_behind : ℕ → ℕ → Lcg
generator_behind seed k = advance 64 multiplier_64 k (started 64 multiplier_64 seed (increment_of 64 0))

-- word k of a seed, from 0 on
abbrev pub word : ℕ → ℕ → ℕ
word seed k = (pcg32 (generator_behind seed k)).0

-- the code of a row, by its second word v; a multiple of 4 leaves it out
abbrev pub code_cells : ℕ → List Cell
code_cells v = if v % 4 == 0 then [] else record { name = codes "code"; value = Int (pos (v % 600)) } ∷ []

-- the host of a row, by its first word u
abbrev pub host_cell : ℕ → Cell
host_cell u = record { name = codes "host"; value = Text (codes "h" ++ decimal (u % 50)) }

-- row i, by its two words
abbrev pub row_with : ℕ → ℕ → ℕ → Row
row_with i u v = record { time = pos i; cells = code_cells v ++ host_cell u ∷ [] }

-- row i of a seed: each row before it took two words
unfoldable pub row_at : ℕ → ℕ → Row
row_at seed i = row_with i (word seed (2 * i)) (word seed (2 * i + 1))

-- the rows from row `from` up to but without row `to`
abbrev pub rows_between : ℕ → ℕ → ℕ → List Row
rows_between seed from to = map (row_at seed) (range_with_len from (to - from))

-- the number of the first row of a leaf, if eight leaves share these rows
abbrev pub first_row : ℕ → ℕ → ℕ
first_row rows leaf = leaf * rows / 8

-- the add of a leaf's share of the rows
abbrev pub soak_add : ℕ → ℕ → ℕ → Item
soak_add seed rows leaf = One (command.Add leaf 0 (rows_between seed (first_row rows leaf) (first_row rows (leaf + 1))))

-- SELECT COUNT(*), MIN(time), MAX(time) FROM events WHERE time >= 0 AND time <= z
abbrev pub count_query : ℕ → Query
count_query z = record { table = events; from = pos 0; to = pos z; conds = []; keys = []; aggs = Count ∷ Min (codes "time") ∷ Max (codes "time") ∷ []; order = None; limit = 100000 }

-- SELECT host, COUNT(*), SUM(code) FROM events WHERE time >= 0 AND time <= z GROUP BY host ORDER BY COUNT(*) LIMIT 5
abbrev pub host_query : ℕ → Query
host_query z = record { table = events; from = pos 0; to = pos z; conds = []; keys = codes "host" ∷ []; aggs = Count ∷ Sum (codes "code") ∷ []; order = Some 0; limit = 5 }

-- both queries, from time 0 to time z
abbrev pub both_queries : ℕ → List Item
both_queries z = One (command.Query (count_query z)) ∷ One (command.Query (host_query z)) ∷ []

-- two machines of four leaves
abbrev pub fleet : Item
fleet = One (command.Fleet 2 4 (events ∷ []))

-- Each of eight leaves gets its share of the rows. Both queries are asked, all leaves are restarted in waves of at most
-- half of them, and both queries are asked again. The time of the last row is the greatest.
unfoldable pub soak_script : ℕ → ℕ → Script
soak_script seed rows =
    record { fleet_line = 0; items = fleet ∷ map (soak_add seed rows) (range_with_len 0 8) ++ both_queries (rows - 1) ++ One (command.Rollover 50) ∷ both_queries (rows - 1); standings = 0 }
