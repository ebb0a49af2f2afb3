-- Groups in parts: the groups of consecutive runs of the rows.
use Rattle.std.specs.Prelude.{◌≡◌, ℕ, ◌+◌, ◌<◌, ◌≤◌, ◌^◌, Bool, true, List, [], ◌∷◌, length, ◌++◌, ℤ, int_le, filter, ⊤}
use Rattle.std.specs.List.{AllByRecursion}
use Rattle.row_model.specs.declared.rows.Row.{Row}
use Rattle.leaf_model.specs.declared.queries.Agg.TheVariants.{Count}
use Rattle.leaf_model.specs.declared.queries.Query.{Query}
use Rattle.leaf_model.specs.declared.groups.Group.{Group}
use Rattle.leaf_model.specs.Content.{rows_from}
use Rattle.leaf_model.specs.Groups.{groups}
use Rattle.group_table.specs.Joined.{joined}
use Rattle.standing_query.specs.declared.fed.Fed.{Fed}
use Rattle.standing_query.specs.declared.fed.Fed.TheVariants.{Added, Expired}
use Rattle.standing_query.specs.Spread.{spread, time_in}

-- the groups of all parts, merged
abbrev pub all_joined : List (List Group) → List Group
all_joined [] = []
all_joined (part ∷ parts) = joined part (all_joined parts)

abbrev pub AreParts : Query → List Row → List (List Group) → Type 0
AreParts q rows [] = rows ≡ []
AreParts q rows (part ∷ parts) = (front : List Row) × (behind : List Row) × (rows ≡ front ++ behind) × (part ≡ groups q front) × AreParts q behind parts

-- a query that is the spread of some query
pub record SpreadsSome (s : Query) : Type 0 where
  pub query : Query
  pub is : s ≡ spread query

-- the parts of these rows, which are few enough for their groups to fit
pub record HoldsParts (q : Query) (parts : List (List Group)) (most : ℕ) (rows : List Row) : Type 0 where
  pub are : AreParts q rows parts
  pub few : length rows ≤ most
  pub bound : most ≤ 2 ^ 62

-- the parts of some rows, by a query that only counts them
pub record AreCounted (parts : List (List Group)) : Type 0 where
  pub query : Query
  pub counts : query.aggs ≡ Count ∷ []
  pub rows : List Row
  pub are : AreParts query rows parts
  pub few : length rows ≤ 2 ^ 62

-- the groups whose time is at or after the horizon
abbrev pub groups_from : ℤ → List Group → List Group
groups_from horizon gs = filter (λ (g : Group). int_le horizon (time_in g.keys)) gs

-- no group's time is below that of one before it
abbrev pub NeverFall : List Group → Type 0
NeverFall [] = ⊤
NeverFall (g ∷ gs) = AllByRecursion (λ (h : Group). int_le (time_in g.keys) (time_in h.keys) ≡ true) gs × NeverFall gs

-- whether the first group's time is not below the horizon
abbrev pub begins_from : ℤ → List Group → Bool
begins_from horizon [] = true
begins_from horizon (g ∷ gs) = int_le horizon (time_in g.keys)

-- the rows without the late ones, if some horizon has exactly `late` rows below it
abbrev pub IsCut : List Row → ℕ → List Row → Type 0
IsCut rows late kept = (h : ℤ) → late + length (rows_from h rows) ≡ length rows → kept ≡ rows_from h rows

-- the rows after an entry, if they are still known
abbrev pub GoesOn : Fed → List Row → List Row → Type 0
GoesOn (Added rows late) before now = (kept : List Row) × IsCut rows late kept × (now ≡ before ++ kept)
GoesOn (Expired horizon) before now = now ≡ rows_from horizon before
GoesOn _ before now = now ≡ before

-- the invariant of a state's fields
pub record IsKept (q s : Query) (stale : Bool) (most : ℕ) (parts : List (List Group)) (capacity : ℕ) : Type 0 where
  pub of : s ≡ spread q
  pub none : stale ≡ true → parts ≡ []
  pub room : 0 < capacity
  pub rows : List Row
  pub holds : HoldsParts s parts most rows
