-- A table of groups, ascending by key, and where a new group goes.
use Rattle.std.specs.Prelude.{◌≡◌, Bool, false, if◌then◌else◌, List, [], ◌∷◌, length, map}
use Rattle.std.specs.List.{AllByRecursion}
use Rattle.std.specs.Ordering.{is_eq}
use Rattle.std.specs.declared.cmp.Ordering.TheVariants.{Less}
use Rattle.leaf_model.specs.declared.queries.Query.{Query}
use Rattle.leaf_model.specs.declared.groups.Key.{Key}
use Rattle.leaf_model.specs.declared.groups.Group.{Group}
use Rattle.leaf_model.specs.Groups.{keys_cmp}
use Rattle.group_table.specs.Joined.{joined_group}

-- the key list of each group
abbrev pub keys_in : List Group → List (List Key)
keys_in gs = map (λ (g : Group). g.keys) gs

-- k is less than each of these key lists
abbrev pub Above : List Key → List (List Key) → Type 0
Above k js = AllByRecursion (λ j. keys_cmp k j ≡ Less) js

-- the key lists strictly ascend
abbrev pub Ascends : List (List Key) → Type 0
Ascends [] = Unit
Ascends (j ∷ js) = Above j js × Ascends js

-- a table of groups as the query makes it: ascending by key, with a fold for each aggregate
pub record IsTable (q : Query) (gs : List Group) : Type 0 where
  pub ascends : Ascends (keys_in gs)
  pub shaped : AllByRecursion (λ (g : Group). length g.folds ≡ length q.aggs) gs

-- whether the first group has these keys
abbrev pub is_first : List Key → List Group → Bool
is_first ks [] = false
is_first ks (a ∷ rest) = is_eq (keys_cmp a.keys ks)

-- g before the table, or joined with its first group if that has the same keys
abbrev pub put_first : Group → List Group → List Group
put_first g [] = g ∷ []
put_first g (a ∷ rest) = if is_eq (keys_cmp a.keys g.keys) then joined_group a g ∷ rest else g ∷ a ∷ rest
