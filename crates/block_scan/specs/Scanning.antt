-- What a scan may read: the columns that the query names, of blocks whose range of times meets that of the query.
use Rattle.std.specs.Prelude.{ℕ, Bool, false, ◌||◌, ◌&&◌, List, length, map, filter, sum, ℤ, int_le, Option, Some, None, if◌then◌else◌, bytes_eq}
use Rattle.std.specs.List.{list_any}
use Rattle.leaf_model.specs.declared.queries.Cond.{Cond}
use Rattle.leaf_model.specs.declared.queries.Agg.{Agg}
use Rattle.leaf_model.specs.declared.queries.Agg.TheVariants.{Count, Sum, Min, Max, Avg}
use Rattle.leaf_model.specs.declared.queries.Query.{Query}
use Rattle.row_model.specs.Values.{time_name}
use Rattle.leaf_model.specs.Groups.{least, greatest}
use Rattle.row_blocks.specs.declared.column.BlockColumn.{BlockColumn}
use Rattle.row_blocks.specs.Blocks.{Block, rows_in, times_of}

-- whether a condition is on the cell of this name
abbrev pub is_of_cond : List ℕ → Cond → Bool
is_of_cond name c = bytes_eq name c.name

-- whether an aggregate folds the cells of this name; COUNT folds none
abbrev pub is_of_agg : List ℕ → Agg → Bool
is_of_agg name Count = false
is_of_agg name (Sum other) = bytes_eq name other
is_of_agg name (Min other) = bytes_eq name other
is_of_agg name (Max other) = bytes_eq name other
is_of_agg name (Avg other) = bytes_eq name other

-- whether a query reads a name, in a condition, a key or an aggregate; it always reads `time`
abbrev pub is_named : Query → List ℕ → Bool
is_named q name = bytes_eq name time_name || (list_any (is_of_cond name) q.conds || (list_any (bytes_eq name) q.keys || list_any (is_of_agg name) q.aggs))

-- the columns whose name the query reads, of each kind
abbrev pub named_columns : Query → List BlockColumn → List BlockColumn
named_columns q columns = filter (λ (c : BlockColumn). is_named q c.name) columns

-- there is a time, and it is at most t
abbrev pub is_up_to : ℤ → Option ℤ → Bool
is_up_to t None = false
is_up_to t (Some n) = int_le n t

-- there is a time, and it is at least t
abbrev pub is_from : ℤ → Option ℤ → Bool
is_from t None = false
is_from t (Some n) = int_le t n

-- the range of a block's times meets the query's
abbrev pub meets : Query → Block → Bool
meets q b = is_up_to q.to (least (times_of (rows_in b))) && is_from q.from (greatest (times_of (rows_in b)))

-- one step for each named column of a block whose range meets that of the query
abbrev pub block_steps : Query → Block → ℕ
block_steps q b = if meets q b then length (named_columns q b.columns) else 0

abbrev pub most_steps : Query → List Block → ℕ
most_steps q blocks = sum (map (block_steps q) blocks)
