-- A query sees of rows what it names, and of a block's rows what the columns that it names hold.
use Rattle.std.proofs.Common.{◌≡◌, ℕ, Bool, true, false, ◌&&◌, cond, List, [], ◌∷◌, ◌++◌, map, filter, ℤ, int_le, Option, Some, None, refl, sym, ap, ap₂, ◌∙◌}
use Rattle.std.specs.Prelude.{bytes_eq, option_and_then}
use Rattle.std.specs.List.{AllByRecursion, list_all, list_any, cons_option}
use Rattle.std.specs.Ordering.{is_eq}
use Rattle.std.proofs.lemmas.Bool.{false≢true}
use Rattle.std.proofs.lemmas.List.{length-map}
use Rattle.std.proofs.lemmas.List.Elements.{filter_agree}
use Rattle.std.proofs.lemmas.Slice.Eq.{bytes_eq-Decides}
use Rattle.row_model.specs.declared.rows.Value.{Value}
use Rattle.row_model.specs.declared.rows.Value.TheVariants as value
use Rattle.row_model.specs.declared.rows.Cell.{Cell}
use Rattle.row_model.specs.declared.rows.Row.{Row}
use Rattle.leaf_model.specs.declared.queries.Cond.{Cond}
use Rattle.leaf_model.specs.declared.queries.Agg.{Agg}
use Rattle.leaf_model.specs.declared.queries.Agg.TheVariants.{Count, Sum, Min, Max, Avg}
use Rattle.leaf_model.specs.declared.queries.Query.{Query}
use Rattle.leaf_model.specs.declared.groups.Key.{Key}
use Rattle.leaf_model.specs.declared.groups.Group.{Group}
use Rattle.leaf_model.specs.declared.groups.Fold.{Fold}
use Rattle.row_model.specs.Values.{time_name}
use Rattle.std.specs.BTreeSet.{insert_key}
use Rattle.leaf_model.specs.Groups.{agg_ints, as_int, cell_value, cond_accepts, distinct_keys, fold_of, group_of, groups, ints_of, key_of, keys_cmp, keys_of, passes, rows_with, value_of}
use Rattle.row_blocks.specs.declared.column.BlockColumn.{BlockColumn}
use Rattle.row_blocks.specs.Blocks.{cell_at_place, cells_at, row_at, value_in}
use Rattle.block_scan.specs.Scanning.{is_named, is_of_agg, is_of_cond, named_columns}
use Rattle.block_scan.proofs.Lists.{any_within, filter_mapped, or_left, or_right}

-- the cells that a query names
abbrev pub named_cells : Query → List Cell → List Cell
named_cells q cells = filter (λ (c : Cell). is_named q c.name) cells

-- a row with no more cells than the query names
abbrev pub narrowed : Query → Row → Row
narrowed q row = record { time = row.time; cells = named_cells q row.cells }

pub itself : (name : List ℕ) → bytes_eq name name ≡ true
itself name = (bytes_eq-Decides name name).1 refl

kept_cell : (q : Query) (name : List ℕ) (cells : List Cell) → is_named q name ≡ true → cell_value name (named_cells q cells) ≡ cell_value name cells
kept_cell q name [] e = refl
kept_cell q name (c ∷ cells) e = by (is_named q c.name) refl (kept_cell q name cells e)
  where
    other : (d : Bool) → bytes_eq name c.name ≡ d → is_named q c.name ≡ false → cell_value name cells ≡ cond d (Some c.value) (cell_value name cells)
    other true n m =
        let same : name ≡ c.name = (bytes_eq-Decides name c.name).0 n in
        absurd (false≢true (sym m ∙ ap (is_named q) (sym same) ∙ e))
    other false n m = refl

    by : (b : Bool) → is_named q c.name ≡ b → cell_value name (named_cells q cells) ≡ cell_value name cells
        → cell_value name (cond b (c ∷ named_cells q cells) (named_cells q cells)) ≡ cond (bytes_eq name c.name) (Some c.value) (cell_value name cells)
    by true m rest = ap (λ (v : Option Value). cond (bytes_eq name c.name) (Some c.value) v) rest
    by false m rest = rest ∙ other (bytes_eq name c.name) refl m

pub value_kept : (q : Query) (name : List ℕ) (row : Row) → is_named q name ≡ true → value_of name (narrowed q row) ≡ value_of name row
value_kept q name row e = ap (λ (v : Option Value). cond (bytes_eq name time_name) (Some (value.Int row.time)) v) (kept_cell q name row.cells e)

-- ---- each name of a query is named

pub conds_named : (q : Query) → AllByRecursion (λ (c : Cond). (name : List ℕ) → is_of_cond name c ≡ true → is_named q name ≡ true) q.conds
conds_named q = any_within is_of_cond (is_named q) q.conds (λ name e. or_right (bytes_eq name time_name) _ (or_left (list_any (is_of_cond name) q.conds) _ e))

pub keys_named : (q : Query) → AllByRecursion (λ (key : List ℕ). (name : List ℕ) → bytes_eq name key ≡ true → is_named q name ≡ true) q.keys
keys_named q =
    any_within bytes_eq (is_named q) q.keys
    (λ name e. or_right (bytes_eq name time_name) _ (or_right (list_any (is_of_cond name) q.conds) _ (or_left (list_any (bytes_eq name) q.keys) _ e)))

pub aggs_named : (q : Query) → AllByRecursion (λ (agg : Agg). (name : List ℕ) → is_of_agg name agg ≡ true → is_named q name ≡ true) q.aggs
aggs_named q =
    any_within is_of_agg (is_named q) q.aggs
    (λ name e. or_right (bytes_eq name time_name) _ (or_right (list_any (is_of_cond name) q.conds) _ (or_right (list_any (bytes_eq name) q.keys) _ e)))

-- ---- what a query makes of narrowed rows

conds_kept : (q : Query) (row : Row) (conds : List Cond) → AllByRecursion (λ (c : Cond). (name : List ℕ) → is_of_cond name c ≡ true → is_named q name ≡ true) conds
    → list_all (λ (c : Cond). cond_accepts c (value_of c.name (narrowed q row))) conds ≡ list_all (λ (c : Cond). cond_accepts c (value_of c.name row)) conds
conds_kept q row [] named = refl
conds_kept q row (c ∷ conds) named =
    ap₂ (λ (a b : Bool). a && b) (ap (cond_accepts c) (value_kept q c.name row (named.0 c.name (itself c.name)))) (conds_kept q row conds named.1)

passes_kept : (q : Query) (row : Row) → passes q (narrowed q row) ≡ passes q row
passes_kept q row = ap (λ (b : Bool). int_le q.from row.time && (int_le row.time q.to && b)) (conds_kept q row q.conds (conds_named q))

names_kept : (q : Query) (row : Row) (names : List (List ℕ)) → AllByRecursion (λ (key : List ℕ). (name : List ℕ) → bytes_eq name key ≡ true → is_named q name ≡ true) names
    → map (λ name. key_of (value_of name (narrowed q row))) names ≡ map (λ name. key_of (value_of name row)) names
names_kept q row [] named = refl
names_kept q row (name ∷ names) named =
    ap₂ (λ (k : Key) (ks : List Key). k ∷ ks) (ap key_of (value_kept q name row (named.0 name (itself name)))) (names_kept q row names named.1)

keys_kept : (q : Query) (row : Row) → keys_of q (narrowed q row) ≡ keys_of q row
keys_kept q row = names_kept q row q.keys (keys_named q)

ints_kept : (q : Query) (name : List ℕ) → is_named q name ≡ true → (rows : List Row) → ints_of name (map (narrowed q) rows) ≡ ints_of name rows
ints_kept q name e [] = refl
ints_kept q name e (row ∷ rows) = ap₂ (λ (n : Option ℤ) (ns : List ℤ). cons_option n ns) (ap (option_and_then as_int) (value_kept q name row e)) (ints_kept q name e rows)

agg_kept : (q : Query) (agg : Agg) → ((name : List ℕ) → is_of_agg name agg ≡ true → is_named q name ≡ true) → (rows : List Row) → agg_ints agg (map (narrowed q) rows) ≡ agg_ints agg rows
agg_kept q Count named rows = refl
agg_kept q (Sum name) named rows = ints_kept q name (named name (itself name)) rows
agg_kept q (Min name) named rows = ints_kept q name (named name (itself name)) rows
agg_kept q (Max name) named rows = ints_kept q name (named name (itself name)) rows
agg_kept q (Avg name) named rows = ints_kept q name (named name (itself name)) rows

folds_kept : (q : Query) (rows : List Row) (aggs : List Agg) → AllByRecursion (λ (agg : Agg). (name : List ℕ) → is_of_agg name agg ≡ true → is_named q name ≡ true) aggs
    → map (λ agg. fold_of (agg_ints agg (map (narrowed q) rows))) aggs ≡ map (λ agg. fold_of (agg_ints agg rows)) aggs
folds_kept q rows [] named = refl
folds_kept q rows (agg ∷ aggs) named = ap₂ (λ (f : Fold) (fs : List Fold). f ∷ fs) (ap fold_of (agg_kept q agg named.0 rows)) (folds_kept q rows aggs named.1)

group_kept : (q : Query) (keys : List Key) (rows : List Row) → group_of q keys (map (narrowed q) rows) ≡ group_of q keys rows
group_kept q keys rows =
    let count = length-map rows (narrowed q) in
    let folds = folds_kept q rows q.aggs (aggs_named q) in
    λ i. record { keys = keys; count = count i; folds = folds i }

distinct_kept : (q : Query) (rows : List Row) → distinct_keys q (map (narrowed q) rows) ≡ distinct_keys q rows
distinct_kept q [] = refl
distinct_kept q (row ∷ rows) = ap₂ (λ (k : List Key) (ks : List (List Key)). insert_key keys_cmp ks k) (keys_kept q row) (distinct_kept q rows)

with_kept : (q : Query) (keys : List Key) (rows : List Row) → rows_with q keys (map (narrowed q) rows) ≡ map (narrowed q) (rows_with q keys rows)
with_kept q keys rows =
    filter_mapped (λ (row : Row). is_eq (keys_cmp (keys_of q row) keys)) (narrowed q) rows
    ∙ ap (map (narrowed q)) (filter_agree _ (λ (row : Row). is_eq (keys_cmp (keys_of q row) keys)) (λ row. ap (λ (ks : List Key). is_eq (keys_cmp ks keys)) (keys_kept q row)) rows)

-- the groups of rows that pass
abbrev pub groups_of : Query → List Row → List Group
groups_of q passing = map (λ ks. group_of q ks (rows_with q ks passing)) (distinct_keys q passing)

groups_of_kept : (q : Query) (rows : List Row) → groups_of q (map (narrowed q) rows) ≡ groups_of q rows
groups_of_kept q rows =
    let each : (keys : List Key) → group_of q keys (rows_with q keys (map (narrowed q) rows)) ≡ group_of q keys (rows_with q keys rows)
    = λ keys. ap (group_of q keys) (with_kept q keys rows) ∙ group_kept q keys (rows_with q keys rows) in
    let keys = distinct_kept q rows in
    λ i. map (λ ks. each ks i) (keys i)

-- a query makes of narrowed rows what it makes of the rows
pub groups_narrowed : (q : Query) (rows : List Row) → groups q (map (narrowed q) rows) ≡ groups q rows
groups_narrowed q rows =
    ap (groups_of q) (filter_mapped (passes q) (narrowed q) rows ∙ ap (map (narrowed q)) (filter_agree _ (passes q) (passes_kept q) rows))
    ∙ groups_of_kept q (filter (passes q) rows)

-- ---- the rows of named columns

cells_named : (q : Query) (i : ℕ) (columns : List BlockColumn) → named_cells q (cells_at i columns) ≡ cells_at i (named_columns q columns)
cells_named q i [] = refl
cells_named q i (c ∷ columns) = by (is_named q c.name) (value_in c.bytes i) refl (cells_named q i columns) ∙ sym (either (is_named q c.name))
  where
    either : (b : Bool) → cells_at i (cond b (c ∷ named_columns q columns) (named_columns q columns))
        ≡ cond b (cell_at_place c.name (value_in c.bytes i) ++ cells_at i (named_columns q columns)) (cells_at i (named_columns q columns))
    either true = refl
    either false = refl

    by : (b : Bool) (v : Option Value) → is_named q c.name ≡ b → named_cells q (cells_at i columns) ≡ cells_at i (named_columns q columns)
        → named_cells q (cell_at_place c.name v ++ cells_at i columns) ≡ cond b (cell_at_place c.name v ++ cells_at i (named_columns q columns)) (cells_at i (named_columns q columns))
    by true None e rest = rest
    by true (Some v) e rest =
        let cell : Cell = record { name = c.name; value = v } in
        ap (λ (d : Bool). cond d (cell ∷ named_cells q (cells_at i columns)) (named_cells q (cells_at i columns))) e ∙ ap (λ (l : List Cell). cell ∷ l) rest
    by false None e rest = rest
    by false (Some v) e rest =
        let cell : Cell = record { name = c.name; value = v } in
        ap (λ (d : Bool). cond d (cell ∷ named_cells q (cells_at i columns)) (named_cells q (cells_at i columns))) e ∙ rest

pub row_named : (q : Query) (times : BlockColumn) (others : List BlockColumn) (i : ℕ) → narrowed q (row_at (times ∷ others) i) ≡ row_at (times ∷ named_columns q others) i
row_named q times others i = ap (λ (cells : List Cell). record { time = (row_at (times ∷ others) i).time; cells = cells }) (cells_named q i others)
