-- The stewards' seats at the first table of each leaf of a fleet.
use Rattle.std.specs.Prelude.{◌≡◌, ℕ, ◌<◌, List, length, Some, None}
use Rattle.turnstile.specs.Seats.{IsSeatOf}
use Rattle.leaf_table.specs.Turns.{Shared}
use Rattle.leaf_table.specs.Calls.{SeatView, IsSteward, SeesShut, base_seen}
use Rattle.leaf_table.specs.Lists.{place}

-- the steward's seat at a leaf's first table, which is shut and has no base
pub record IsStewardAt (fleet : List (List Shared)) (leaf : ℕ) (v : SeatView) : Type 0 where
  pub shared : Shared
  pub stands : place fleet leaf 0 ≡ Some shared
  pub seat : IsSeatOf v shared.site
  pub steward : IsSteward v
  pub shut : SeesShut shared v
  pub base : base_seen shared ≡ None

-- one at each leaf
pub record AreStewardsAt (fleet : List (List Shared)) (stewards : List (List SeatView)) : Type 0 where
  pub count : length fleet ≡ length stewards
  pub each : (leaf : ℕ) → leaf < length stewards → (v : SeatView) → place stewards leaf 0 ≡ Some v → IsStewardAt fleet leaf v
