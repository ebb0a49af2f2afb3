-- The groups that a query finds in a list of rows: which rows pass, and the groups of those by key.
use Rattle.std.specs.Prelude.{ℕ, Bool, false, ◌&&◌, not, List, [], ◌∷◌, length, map, fold, filter, ℤ, pos, ◌+ℤ◌, int_le, Option, Some, None, if◌then◌else◌, bytes_eq, filter_map, option_and_then}
use Rattle.std.specs.List.{list_all}
use Rattle.std.specs.Int.{int_min, int_max}
use Rattle.std.specs.declared.cmp.Ordering.{Ordering}
use Rattle.std.specs.declared.cmp.Ordering.TheVariants.{Less, Equal, Greater}
use Rattle.std.specs.Ordering.{is_eq, is_lt, is_le, is_gt, is_ge, int_cmp}
use Rattle.std.specs.BTreeSet.{insert_key}
use Rattle.std.specs.Cmp.Lexicographic.{slice_cmp}
use Rattle.row_model.specs.declared.rows.Value.{Value}
use Rattle.row_model.specs.declared.rows.Value.TheVariants as value
use Rattle.row_model.specs.declared.rows.Cell.{Cell}
use Rattle.row_model.specs.declared.rows.Row.{Row}
use Rattle.leaf_model.specs.declared.queries.Op.{Op}
use Rattle.leaf_model.specs.declared.queries.Op.TheVariants.{Eq, Ne, Lt, Le, Gt, Ge, Has}
use Rattle.leaf_model.specs.declared.queries.Cond.{Cond}
use Rattle.leaf_model.specs.declared.queries.Agg.{Agg}
use Rattle.leaf_model.specs.declared.queries.Agg.TheVariants.{Count, Sum, Min, Max, Avg}
use Rattle.leaf_model.specs.declared.queries.Query.{Query}
use Rattle.leaf_model.specs.declared.groups.Key.{Key}
use Rattle.leaf_model.specs.declared.groups.Key.TheVariants as key
use Rattle.leaf_model.specs.declared.groups.Fold.{Fold}
use Rattle.leaf_model.specs.declared.groups.Group.{Group}
use Rattle.row_model.specs.Values.{time_name}
use Rattle.row_model.specs.Names.{is_among}
use Rattle.row_model.specs.Texts.{text_cmp, texts_cmp}

-- the value of the cell of that name
abbrev pub cell_value : List ℕ → List Cell → Option Value
cell_value name [] = None
cell_value name (c ∷ cs) = if bytes_eq name c.name then Some c.value else cell_value name cs

-- the value of a row under a name: that of its cell, and under `time` its time
abbrev pub value_of : List ℕ → Row → Option Value
value_of name row = if bytes_eq name time_name then Some (value.Int row.time) else cell_value name row.cells

-- whether an operator accepts the order of cell and constant; HAS accepts none
abbrev pub op_accepts : Op → Ordering → Bool
op_accepts Eq o = is_eq o
op_accepts Ne o = not (is_eq o)
op_accepts Lt o = is_lt o
op_accepts Le o = is_le o
op_accepts Gt o = is_gt o
op_accepts Ge o = is_ge o
op_accepts Has o = false

-- a set meets HAS alone, with a text that it holds
abbrev pub set_accepts : Op → List (List ℕ) → List ℕ → Bool
set_accepts Has members text = is_among members text
set_accepts op members text = false

-- an integer and a text meet no operator
abbrev pub compares : Op → Value → Value → Bool
compares op (value.Int a) (value.Int b) = op_accepts op (int_cmp a b)
compares op (value.Text a) (value.Text b) = op_accepts op (text_cmp a b)
compares op (value.Set members) (value.Text text) = set_accepts op members text
compares op a b = false

-- a missing cell meets no condition
abbrev pub cond_accepts : Cond → Option Value → Bool
cond_accepts c None = false
cond_accepts c (Some v) = compares c.op v c.value

abbrev pub key_of : Option Value → Key
key_of None = key.Missing
key_of (Some (value.Int n)) = key.Int n
key_of (Some (value.Text t)) = key.Text t
key_of (Some (value.Set members)) = key.Set members

-- missing, then integers ascending, then texts by their bytes, then sets as lists of texts
abbrev pub key_cmp : Key → Key → Ordering
key_cmp key.Missing key.Missing = Equal
key_cmp key.Missing b = Less
key_cmp (key.Int a) key.Missing = Greater
key_cmp (key.Int a) (key.Int b) = int_cmp a b
key_cmp (key.Int a) b = Less
key_cmp (key.Text a) (key.Text b) = text_cmp a b
key_cmp (key.Text a) (key.Set b) = Less
key_cmp (key.Text a) b = Greater
key_cmp (key.Set a) (key.Set b) = texts_cmp a b
key_cmp (key.Set a) b = Greater

-- lists of keys compare lexicographically
abbrev pub keys_cmp : List Key → List Key → Ordering
keys_cmp = slice_cmp key_cmp

-- the integer that a value is, if it is one
abbrev pub as_int : Value → Option ℤ
as_int (value.Int n) = Some n
as_int other = None

-- the integers that the rows have under a name
abbrev pub ints_of : List ℕ → List Row → List ℤ
ints_of name rows = filter_map (λ row. option_and_then as_int (value_of name row)) rows

abbrev pub least : List ℤ → Option ℤ
least [] = None
least (n ∷ ns) = Some (fold int_min n ns)

abbrev pub greatest : List ℤ → Option ℤ
greatest [] = None
greatest (n ∷ ns) = Some (fold int_max n ns)

-- the number, sum, least and greatest of integers
abbrev pub fold_of : List ℤ → Fold
fold_of ns = record { seen = length ns; sum = fold ◌+ℤ◌ (pos 0) ns; min = least ns; max = greatest ns }

-- the integers that an aggregate folds; COUNT folds none
abbrev pub agg_ints : Agg → List Row → List ℤ
agg_ints Count rows = []
agg_ints (Sum name) rows = ints_of name rows
agg_ints (Min name) rows = ints_of name rows
agg_ints (Max name) rows = ints_of name rows
agg_ints (Avg name) rows = ints_of name rows

module _ (q : Query) where
  -- the row's value under each name of GROUP BY
  abbrev pub keys_of : Row → List Key
  keys_of row = map (λ name. key_of (value_of name row)) q.keys

  -- the time is in the range, and each condition holds
  abbrev pub passes : Row → Bool
  passes row = int_le q.from row.time && (int_le row.time q.to && list_all (λ (c : Cond). cond_accepts c (value_of c.name row)) q.conds)

  -- the key lists of the rows, ascending, each once
  abbrev pub distinct_keys : List Row → List (List Key)
  distinct_keys [] = []
  distinct_keys (row ∷ rows) = insert_key keys_cmp (distinct_keys rows) (keys_of row)

  -- the rows with the keys ks
  abbrev pub rows_with : List Key → List Row → List Row
  rows_with ks rows = filter (λ row. is_eq (keys_cmp (keys_of row) ks)) rows

  -- a group: its keys, the number of its rows, and a fold for each aggregate
  abbrev pub group_of : List Key → List Row → Group
  group_of ks rows = record { keys = ks; count = length rows; folds = map (λ agg. fold_of (agg_ints agg rows)) q.aggs }

  -- the groups of the rows that pass, ascending by key
  abbrev pub groups : List Row → List Group
  groups rows =
      let passing = filter passes rows in
      map (λ ks. group_of ks (rows_with ks passing)) (distinct_keys passing)
