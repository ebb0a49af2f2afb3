-- What the commands of a lane need, and whether a crew can lend it to all lanes.
use Rattle.std.specs.Prelude.{◌≡◌, ℕ, suc, ◌<◌, ◌≤◌, List, [], ◌∷◌, Bool, true, false, length, map, replicate, slice_set, count_by, ⊤}
use Rattle.std.specs.List.{AllByRecursion}
use Rattle.script_text.specs.declared.command.Command.{Command}
use Rattle.script_text.specs.Aims.{Aim, AtLeaf, AtLeaves, AtNamed, AtTable, aim_of}
use Rattle.script_text.specs.Fits.{IsCommand}
use Rattle.script_text.specs.declared.fleet.FleetShape.{FleetShape}
use Rattle.script_text.specs.Commands.{leaf_count}
use Rattle.transcript.specs.Pieces.{place_among}
use Rattle.leaf_moves.specs.Holds.{Hold}
use Rattle.player.specs.Crew.{HasLeaf, HasSeats, Spares, is_set}
use Rattle.bursts.specs.declared.plan.Needs.{Needs}
use Rattle.bursts.specs.declared.plan.LanePlan.{LanePlan}

-- the places where a command needs something
pub data NeededPlaces : Type 0 where
  Nowhere : NeededPlaces
  OnlyAt : (place : ℕ) → NeededPlaces
  Everywhere : NeededPlaces

-- the table where a command with this aim needs a callers' seat
abbrev pub table_aimed_at : List (List ℕ) → Aim → NeededPlaces
table_aimed_at names (AtTable table) = OnlyAt table
table_aimed_at names (AtNamed name) = OnlyAt (place_among name names)
table_aimed_at names _ = Nowhere

-- the leaves that a command with this aim acts on
abbrev pub leaves_aimed_at : Aim → NeededPlaces
leaves_aimed_at (AtLeaf leaf) = OnlyAt leaf
leaves_aimed_at AtLeaves = Everywhere
leaves_aimed_at _ = Nowhere

-- the table where a command needs a callers' seat
abbrev pub table_needed : List (List ℕ) → Command → NeededPlaces
table_needed names c = table_aimed_at names (aim_of c)

-- the leaves that a command acts on
abbrev pub leaves_acted_on : Command → NeededPlaces
leaves_acted_on c = leaves_aimed_at (aim_of c)

-- i is one of these places
abbrev pub IsAmong : NeededPlaces → ℕ → Type 0
IsAmong Nowhere i = ⊥
IsAmong (OnlyAt place) i = place ≡ i
IsAmong Everywhere i = ⊤

-- these places are marked too
abbrev pub marked : NeededPlaces → List Bool → List Bool
marked Nowhere marks = marks
marked (OnlyAt place) marks = slice_set marks place true
marked Everywhere marks = replicate (length marks) true

-- the places that the commands need are marked too
abbrev pub marked_by : (Command → NeededPlaces) → List Command → List Bool → List Bool
marked_by place [] marks = marks
marked_by place (c ∷ cs) marks = marked_by place cs (marked (place c) marks)

-- of `count` places, those that the commands need
abbrev pub needed : (Command → NeededPlaces) → ℕ → List Command → List Bool
needed place count commands = marked_by place commands (replicate count false)

-- one place for each table and one for each leaf of the fleet
pub record HasPlaces (fleet : FleetShape) (needs : Needs) : Type 0 where
  pub tables : length needs.tables.items ≡ length fleet.names
  pub leaves : length needs.leaves.items ≡ leaf_count fleet

-- what the commands of a lane need
pub record AreNeeds (fleet : FleetShape) (commands : List Command) (needs : Needs) : Type 0 where
  pub tables : needs.tables.items ≡ needed (table_needed fleet.names) (length fleet.names) commands
  pub leaves : needs.leaves.items ≡ needed leaves_acted_on (leaf_count fleet) commands

abbrev pub planned_commands : LanePlan → List Command
planned_commands plan = plan.commands.items

-- the plan of commands that the fleet may play in a lane
pub record IsLanePlan (fleet : FleetShape) (plan : LanePlan) : Type 0 where
  pub commands : AllByRecursion (IsCommand (leaf_count fleet) fleet.names) plan.commands.items
  pub needs : AreNeeds fleet plan.commands.items plan.needs

-- the plan of this lane
pub record IsPlanOf (fleet : FleetShape) (lane : List Command) (plan : LanePlan) : Type 0 where
  pub is : IsLanePlan fleet plan
  pub lane_is : plan.commands.items ≡ lane

-- one plan for each lane
pub record ArePlans (fleet : FleetShape) (lanes : List (List Command)) (plans : List LanePlan) : Type 0 where
  pub lanes_are : map planned_commands plans ≡ lanes
  pub each : AllByRecursion (IsLanePlan fleet) plans

-- ---- what can be lent

-- the lane needs a callers' seat at that table
abbrev pub needs_at : ℕ → LanePlan → Bool
needs_at table plan = is_set plan.needs.tables.items table

-- the lane acts on that leaf
abbrev pub acts_on : ℕ → LanePlan → Bool
acts_on leaf plan = is_set plan.needs.leaves.items leaf

-- no two lanes act on the same leaf
abbrev pub AreAlone : List LanePlan → Type 0
AreAlone plans = (leaf : ℕ) → count_by (acts_on leaf) plans ≤ 1

-- each callers' seat has an id for each lane that needs its table, and one more
abbrev pub AreSpare : {B : Type 0} → FleetShape → List (Hold B) → List LanePlan → Type 0
AreSpare fleet xs plans = (table : ℕ) → table < length fleet.names → Spares xs table (suc (count_by (needs_at table) plans))

-- what all lanes need can be cut off
pub record CanLend {B : Type 0} (fleet : FleetShape) (xs : List (Hold B)) (plans : List LanePlan) : Type 0 where
  pub plans_are : AllByRecursion (IsLanePlan fleet) plans
  pub alone : AreAlone plans
  pub spare : AreSpare fleet xs plans
  pub seats : (table : ℕ) → table < length fleet.names → HasSeats xs table
  pub leaves : (leaf : ℕ) → 0 < count_by (acts_on leaf) plans → HasLeaf xs leaf
