-- The state of a standing query, and what an entry of its table's history does to it.
use Rattle.std.specs.Prelude.{◌≡◌, ℕ, ◌+◌, ◌<◌, ◌≤◌, ◌^◌, ◌==◌, Bool, true, false, nat_lt, List, length, ◌++◌, ℤ}
use Rattle.row_model.specs.declared.rows.Row.{Row}
use Rattle.leaf_model.specs.declared.queries.Query.{Query}
use Rattle.leaf_model.specs.declared.groups.Group.{Group}
use Rattle.leaf_model.specs.Content.{rows_from}
use Rattle.leaf_model.specs.Groups.{groups}
use Rattle.standing_query.specs.declared.fed.Fed.{Fed}
use Rattle.standing_query.specs.declared.fed.Fed.TheVariants.{Added, Expired, Kept, Opened, Closed, Other}
use Rattle.standing_query.specs.Spread.{spread}

-- the query, the number of the last entry that was fed, whether the rows are unknown, and the groups of the spread
pub record StandingState : Type 0 where
  pub query : Query
  pub upto : ℕ
  pub stale : Bool
  pub groups : List Group

-- a fresh state has the groups of these rows
abbrev pub Means : StandingState → List Row → Type 0
Means s rows = (s.stale ≡ false) × (s.groups ≡ groups (spread s.query) rows)

-- the rows after an entry: an add appends the rows that are not below some horizon, with exactly `late` rows below it;
-- an expiry removes those below its own
abbrev pub FedTo : Fed → List Row → List Row → Type 0
FedTo (Added rows late) before now = (h : ℤ) × (late + length (rows_from h rows) ≡ length rows) × (now ≡ before ++ rows_from h rows)
FedTo (Expired horizon) before now = now ≡ rows_from horizon before
FedTo _ before now = now ≡ before

-- the entry leaves the rows unknown: an opening, a closing, or a keep that removed rows
abbrev pub is_end : Fed → Bool
is_end Opened = true
is_end Closed = true
is_end (Kept removed) = nat_lt 0 removed
is_end _ = false

-- an entry that leaves the rows as they are
abbrev pub is_idle : Fed → Bool
is_idle Other = true
is_idle (Kept removed) = removed == 0
is_idle _ = false

-- the entry takes memory: only an add of rows that are not all late
abbrev pub TakesMemory : Fed → Type 0
TakesMemory (Added rows late) = late < length rows
TakesMemory _ = ⊥

-- the groups of the query's spread, over at most 2^40 rows
pub record IsSpread (q : Query) (gs : List Group) : Type 0 where
  pub rows : List Row
  pub few : length rows ≤ 2 ^ 40
  pub is : gs ≡ groups (spread q) rows
