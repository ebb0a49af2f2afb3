-- The lines of an answer: its groups in order, cut at the limit, each printed.
use Rattle.std.specs.Prelude.{ℕ, List, [], ◌∷◌, ◌++◌, map, take, zip, ℤ, pos, Option, Some, None, option_and_then, if◌then◌else◌, decimal, codes, slice_get}
use Rattle.std.specs.Fmt.{signed_decimal}
use Rattle.std.specs.List.{join_by}
use Rattle.std.specs.Option.{option_cmp, option_map_or}
use Rattle.std.specs.declared.cmp.Ordering.{Ordering}
use Rattle.std.specs.Ordering.{int_cmp, is_lt, ordering_then}
use Rattle.serde_json.specs.Data.{string, array, Items, no_items, item}
use Rattle.serde_json.specs.Written.{compact_text}
use Rattle.leaf_model.specs.declared.queries.Agg.{Agg}
use Rattle.leaf_model.specs.declared.queries.Agg.TheVariants.{Count, Sum, Min, Max, Avg}
use Rattle.leaf_model.specs.declared.queries.Query.{Query}
use Rattle.leaf_model.specs.declared.groups.Key.{Key}
use Rattle.leaf_model.specs.declared.groups.Key.TheVariants as key
use Rattle.leaf_model.specs.declared.groups.Fold.{Fold}
use Rattle.leaf_model.specs.declared.groups.Group.{Group}
use Rattle.leaf_model.specs.Groups.{keys_cmp}

-- what ORDER BY compares: the count, the sum, the least or the greatest; None if it is missing, and for an AVG, which
-- orders nothing
abbrev pub measure : Agg → ℕ → Fold → Option ℤ
measure Count count f = Some (pos count)
measure (Sum name) count f = Some f.sum
measure (Min name) count f = f.min
measure (Max name) count f = f.max
measure (Avg name) count f = None

-- the measure of a group by the aggregate that orders the query
abbrev pub measure_of : Query → Group → Option ℤ
measure_of q g = option_and_then (λ place. option_and_then (λ agg. option_and_then (measure agg g.count) (slice_get g.folds place)) (slice_get q.aggs place)) q.order

-- by the measure, the greatest first and a missing one last, and then by key
abbrev pub group_cmp : Query → Group → Group → Ordering
group_cmp q a b = ordering_then (option_cmp int_cmp (measure_of q b) (measure_of q a)) (keys_cmp a.keys b.keys)

-- a list in order with x in its place
abbrev pub placed : {X : Type 0} → (X → X → Ordering) → X → List X → List X
placed cmp x [] = x ∷ []
placed cmp x (y ∷ ys) = if is_lt (cmp y x) then y ∷ placed cmp x ys else x ∷ y ∷ ys

-- the elements in order; ties stay as they stood: a stable sort
abbrev pub in_order : {X : Type 0} → (X → X → Ordering) → List X → List X
in_order cmp [] = []
in_order cmp (x ∷ xs) = placed cmp x (in_order cmp xs)

-- texts as items of a JSON array
abbrev pub strings : List (List ℕ) → Items
strings [] = no_items
strings (text ∷ texts) = item (string text) (strings texts)

-- a text is a JSON string, and a set an array of them, as `serde_json` writes them with no space
abbrev pub key_text : Key → List ℕ
key_text key.Missing = codes "-"
key_text (key.Int n) = signed_decimal n
key_text (key.Text t) = compact_text (string t)
key_text (key.Set members) = compact_text (array (strings members))

-- an integer is decimal, a least or greatest that is missing is `-`, and an average is the sum and the number of the integers
abbrev pub agg_text : ℕ → Agg → Fold → List ℕ
agg_text count Count f = decimal count
agg_text count (Sum name) f = signed_decimal f.sum
agg_text count (Min name) f = option_map_or signed_decimal f.min (codes "-")
agg_text count (Max name) f = option_map_or signed_decimal f.max (codes "-")
agg_text count (Avg name) f = signed_decimal f.sum ++ (codes "/" ++ decimal f.seen)

-- the keys, and then the aggregates in the order of SELECT
abbrev pub group_parts : Query → Group → List (List ℕ)
group_parts q g = map key_text g.keys ++ map (λ p. agg_text g.count p.0 p.1) (zip q.aggs g.folds)

-- one space between each two parts
abbrev pub group_line : Query → Group → List ℕ
group_line q g = join_by (λ part. part) (codes " ") (group_parts q g)

-- the lines, without their ends
abbrev pub answer_lines : Query → List Group → List (List ℕ)
answer_lines q gs = map (group_line q) (take q.limit (in_order (group_cmp q) gs))
