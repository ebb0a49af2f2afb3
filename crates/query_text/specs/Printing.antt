-- The one text that a query is printed as: one space between tokens, none before a comma, and none at an aggregate's
-- parentheses. Each part is given with what follows it.
use Rattle.std.specs.Prelude.{ℕ, Bool, false, ◌&&◌, not, List, [], ◌∷◌, ◌++◌, Option, Some, None, if◌then◌else◌, codes, decimal, slice_get}
use Rattle.std.specs.List.{flat_map, list_all}
use Rattle.std.specs.Bool.{◌==◌}
use Rattle.std.specs.Fmt.{signed_decimal}
use Rattle.row_model.specs.declared.rows.Value.{Value}
use Rattle.row_model.specs.declared.rows.Value.TheVariants as value
use Rattle.leaf_model.specs.declared.queries.Op.{Op}
use Rattle.leaf_model.specs.declared.queries.Op.TheVariants.{Eq, Ne, Lt, Le, Gt, Ge, Has}
use Rattle.leaf_model.specs.declared.queries.Cond.{Cond}
use Rattle.leaf_model.specs.declared.queries.Agg.{Agg}
use Rattle.leaf_model.specs.declared.queries.Agg.TheVariants.{Count, Sum, Min, Max, Avg}
use Rattle.leaf_model.specs.declared.queries.Query.{Query}
use Rattle.query_text.specs.Tokens.{begins_word, goes_on_word}
use Rattle.query_text.specs.Roles.{is_keyword}

-- a word that is no keyword needs no quotes
abbrev pub is_plain : List ℕ → Bool
is_plain [] = false
is_plain (b ∷ bs) = begins_word b && (list_all goes_on_word bs && not (is_keyword (b ∷ bs)))

-- a mark inside is doubled
abbrev pub doubled : ℕ → ℕ → List ℕ
doubled mark b = if b == mark then b ∷ b ∷ [] else b ∷ []

-- a mark, the inside, and the mark again
abbrev pub in_quotes : ℕ → List ℕ → List ℕ
in_quotes mark bs = mark ∷ (flat_map (doubled mark) bs ++ (mark ∷ []))

-- a name without quotes, if it may be plain
abbrev pub name_text : List ℕ → List ℕ
name_text name = if is_plain name then name else in_quotes 34 name

-- an integer in decimal, a text in single quotes; a set has no text
abbrev pub value_text : Value → List ℕ
value_text (value.Int n) = signed_decimal n
value_text (value.Text t) = in_quotes 39 t
value_text (value.Set members) = []

-- the comparisons
abbrev pub op_text : Op → List ℕ
op_text Eq = codes "="
op_text Ne = codes "!="
op_text Lt = codes "<"
op_text Le = codes "<="
op_text Gt = codes ">"
op_text Ge = codes ">="
op_text Has = codes "HAS"

-- an aggregate's word, and what it takes in parentheses
abbrev pub agg_then : Agg → List ℕ → List ℕ
agg_then Count further = codes "COUNT(*)" ++ further
agg_then (Sum name) further = codes "SUM(" ++ (name_text name ++ (codes ")" ++ further))
agg_then (Min name) further = codes "MIN(" ++ (name_text name ++ (codes ")" ++ further))
agg_then (Max name) further = codes "MAX(" ++ (name_text name ++ (codes ")" ++ further))
agg_then (Avg name) further = codes "AVG(" ++ (name_text name ++ (codes ")" ++ further))

-- SELECT's names, each with a comma
abbrev pub names_then : List (List ℕ) → List ℕ → List ℕ
names_then [] further = further
names_then (name ∷ names) further = name_text name ++ (codes ", " ++ names_then names further)

-- more aggregates, each after a comma
abbrev pub more_aggs_then : List Agg → List ℕ → List ℕ
more_aggs_then [] further = further
more_aggs_then (a ∷ aggs) further = codes ", " ++ agg_then a (more_aggs_then aggs further)

-- the aggregates
abbrev pub aggs_then : List Agg → List ℕ → List ℕ
aggs_then [] further = further
aggs_then (a ∷ aggs) further = agg_then a (more_aggs_then aggs further)

-- AND, the name, the comparison and the constant
abbrev pub cond_then : Cond → List ℕ → List ℕ
cond_then c further = codes " AND " ++ (name_text c.name ++ (codes " " ++ (op_text c.op ++ (codes " " ++ (value_text c.value ++ further)))))

-- the conditions
abbrev pub conds_then : List Cond → List ℕ → List ℕ
conds_then [] further = further
conds_then (c ∷ conds) further = cond_then c (conds_then conds further)

-- more names, each after a comma
abbrev pub more_names_then : List (List ℕ) → List ℕ → List ℕ
more_names_then [] further = further
more_names_then (name ∷ names) further = codes ", " ++ (name_text name ++ more_names_then names further)

-- GROUP BY, if a name is selected
abbrev pub group_then : List (List ℕ) → List ℕ → List ℕ
group_then [] further = further
group_then (name ∷ names) further = codes " GROUP BY " ++ (name_text name ++ more_names_then names further)

-- the aggregate of ORDER BY
abbrev pub ordering_agg : Option ℕ → List Agg → Option Agg
ordering_agg None aggs = None
ordering_agg (Some i) aggs = slice_get aggs i

-- ORDER BY, if the answer has an order
abbrev pub order_then : Option Agg → List ℕ → List ℕ
order_then None further = further
order_then (Some a) further = codes " ORDER BY " ++ agg_then a further

-- the table and the range of times
abbrev pub range_then : Query → List ℕ → List ℕ
range_then q further =
    codes " FROM " ++ (q.table
    ++ (codes " WHERE time >= " ++ (signed_decimal q.from
    ++ (codes " AND time <= " ++ (signed_decimal q.to ++ further)))))

-- a query's text
abbrev pub printed : Query → List ℕ
printed q =
    codes "SELECT " ++ names_then q.keys (aggs_then q.aggs (range_then q (conds_then q.conds
    (group_then q.keys (order_then (ordering_agg q.order q.aggs) (codes " LIMIT " ++ decimal q.limit))))))
