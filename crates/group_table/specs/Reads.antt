-- What a query reads of a row, in the words of the definitions.
use Rattle.std.specs.Prelude.{◌≡◌, ℕ, Bool, true, ◌&&◌, List, [], ◌∷◌, ◌++◌, map, Option, option_map, option_and_then, option_to_list}
use Rattle.row_model.specs.declared.rows.Value.{Value}
use Rattle.row_model.specs.declared.rows.Row.{Row}
use Rattle.leaf_model.specs.declared.groups.Key.{Key}
use Rattle.leaf_model.specs.declared.groups.Fold.{Fold}
use Rattle.leaf_model.specs.declared.queries.Cond.{Cond}
use Rattle.leaf_model.specs.declared.queries.Agg.{Agg}
use Rattle.leaf_model.specs.declared.queries.Agg.TheVariants.{Count, Sum, Min, Max, Avg}
use Rattle.leaf_model.specs.declared.queries.Query.{Query}
use Rattle.leaf_model.specs.declared.lent_cells.LentValue.{LentValue}
use Rattle.row_model.specs.Values.{time_name}
use Rattle.leaf_model.specs.Groups.{as_int, cond_accepts, fold_of, key_of, keys_of, value_of}
use Rattle.leaf_model.specs.Lent.{each_value, lent_row, lent_value}
use Rattle.group_table.specs.declared.seen.SeenRow.{SeenRow}

-- the key that a value makes
abbrev pub seen_key : Option LentValue → Key
seen_key s = key_of (option_map lent_value s)

-- the name that an aggregate looks up; COUNT needs none, and gets that of the time, which each row has
abbrev pub agg_name : Agg → List ℕ
agg_name Count = time_name
agg_name (Sum name) = name
agg_name (Min name) = name
agg_name (Max name) = name
agg_name (Avg name) = name

-- the names that a query looks up: of its conditions, of its keys, and of its aggregates
abbrev pub names_in : Query → List (List ℕ)
names_in q = map (λ (c : Cond). c.name) q.conds ++ (q.keys ++ map agg_name q.aggs)

-- the values of a row under these names
abbrev pub values_in : Row → List (List ℕ) → List (Option Value)
values_in row names = map (λ name. value_of name row) names

-- the row itself
abbrev pub seen_row : SeenRow → Row
seen_row s = lent_row s.row.now

-- the values are those that the query looks up in the row
pub record AreSeen (q : Query) (s : SeenRow) : Type 0 where
  pub conds : each_value s.conds.now ≡ map (λ (c : Cond). value_of c.name (seen_row s)) q.conds
  pub keys : map seen_key s.keys.now ≡ keys_of q (seen_row s)
  pub aggs : each_value s.aggs.now ≡ map (λ agg. value_of (agg_name agg) (seen_row s)) q.aggs

-- each condition holds of the value at its place
abbrev pub all_met : List Cond → List (Option Value) → Bool
all_met [] vs = true
all_met (c ∷ cs) [] = true
all_met (c ∷ cs) (v ∷ vs) = cond_accepts c v && all_met cs vs

-- the fold of one value, for this aggregate
abbrev pub seen_fold : Agg → Option Value → Fold
seen_fold Count v = fold_of []
seen_fold agg v = fold_of (option_to_list (option_and_then as_int v))

abbrev pub seen_folds : List Agg → List (Option Value) → List Fold
seen_folds [] vs = []
seen_folds (a ∷ as_) [] = []
seen_folds (a ∷ as_) (v ∷ vs) = seen_fold a v ∷ seen_folds as_ vs
