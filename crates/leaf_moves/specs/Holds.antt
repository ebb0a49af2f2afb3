-- What a player holds of the leaves of a fleet. The player is the run, or a lane of a burst.
use Rattle.std.specs.Prelude.{◌≡◌, ℕ, zero, suc, false, List, [], ◌∷◌, ◌++◌, length, Option, Some, None, slice_get}
use Rattle.berth_face.specs.Berth.{Meaning}
use Rattle.leaf_history.specs.History.{Entry, no_base}
use Rattle.leaf_table.specs.Turns.{Shared, is_founded, start_of}
use Rattle.leaf_table.specs.Calls.{SeatView, base_seen, seen_of}
use Rattle.transcript.specs.Histories.{BaseState}
use Rattle.leaf_moves.specs.Stage.{Leaf, MeetAll, seated_of}

-- What is held of one leaf: its tables; at each a callers' seat, or none; and the leaf with its berth, or not.
pub record Hold (B : Type 0) : Type 0 where
  pub tables : List Shared
  pub callers : List (Option SeatView)
  pub held : Option (Leaf × B)

-- the same, with these callers' seats
abbrev pub with_callers : {B : Type 0} → Hold B → List (Option SeatView) → Hold B
with_callers x callers = record { tables = x.tables; callers = callers; held = x.held }

-- the same, with this leaf, berth and callers' seats
abbrev pub with_leaf : {B : Type 0} → Hold B → Leaf → B → List (Option SeatView) → Hold B
with_leaf x leaf b callers = record { tables = x.tables; callers = callers; held = Some (leaf, b) }

-- the berth of the leaf, if it is held
abbrev pub berth_in : {B : Type 0} → Hold B → Option B
berth_in {B} x = by x.held
  where
    by : Option (Leaf × B) → Option B
    by None = None
    by (Some l) = Some l.1

-- the steward's seat at the table, if the leaf is held
abbrev pub steward_in : {B : Type 0} → Option (Leaf × B) → ℕ → Option SeatView
steward_in None table = None
steward_in (Some l) table = slice_get (seated_of l.0).seats table

-- the callers' seat at the table, if there is one
abbrev pub caller_in : List (Option SeatView) → ℕ → Option SeatView
caller_in [] table = None
caller_in (c ∷ cs) zero = c
caller_in (c ∷ cs) (suc table) = caller_in cs table

-- ---- meetings

-- all seats of a leaf that is held meet
pub record HoldMeets {B : Type 0} (meaning : B → Meaning) (x y : Hold B) : Type 0 where
  pub leaf : Leaf
  pub berth : B
  pub leaf_then : Leaf
  pub callers_then : List (Option SeatView)
  pub held : x.held ≡ Some (leaf, berth)
  pub met : MeetAll leaf x.callers leaf_then callers_then (meaning berth)
  pub now : y ≡ with_leaf x leaf_then berth callers_then

-- the seats of the leaf have met a last time
abbrev pub HasMet : {B : Type 0} → (B → Meaning) → Hold B → Type 0
HasMet {B} meaning x = (y : Hold B) × HoldMeets meaning x y

-- the seats of each leaf meet
pub record AllMeet {B : Type 0} (meaning : B → Meaning) (xs ys : List (Hold B)) : Type 0 where
  pub count : length ys ≡ length xs
  pub each : (leaf : ℕ) (x y : Hold B) → slice_get xs leaf ≡ Some x → slice_get ys leaf ≡ Some y → HoldMeets meaning x y

-- ---- histories, as the seats have seen them

-- what the callers' seat has seen, else what the steward's has; after a meeting the callers' has seen no less
abbrev pub seen_by : Option SeatView → Option SeatView → List Entry
seen_by v (Some c) = seen_of c
seen_by (Some v) None = seen_of v
seen_by None None = []

abbrev pub seen_in : {B : Type 0} → Hold B → ℕ → List Entry
seen_in x table = seen_by (steward_in x.held table) (caller_in x.callers table)

-- the histories that are seen of leaf `leaf`
abbrev pub histories_of : {B : Type 0} → List (Hold B) → ℕ → ℕ → List Entry
histories_of [] leaf table = []
histories_of (x ∷ xs) zero table = seen_in x table
histories_of (x ∷ xs) (suc leaf) table = histories_of xs leaf table

-- histories that begin with those that the seats have seen
abbrev pub GoOn : {B : Type 0} → List (Hold B) → (ℕ → ℕ → List Entry) → Type 0
GoOn xs histories = (leaf table : ℕ) → (more : List Entry) × (histories leaf table ≡ histories_of xs leaf table ++ more)

-- ---- what the tables were made with

abbrev pub no_base_state : BaseState
no_base_state = record { founded = false; base = no_base }

abbrev pub base_state_at : List Shared → ℕ → BaseState
base_state_at [] table = no_base_state
base_state_at (t ∷ ts) zero = record { founded = is_founded (base_seen t); base = start_of (base_seen t) }
base_state_at (t ∷ ts) (suc table) = base_state_at ts table

abbrev pub base_states_in : {B : Type 0} → List (Hold B) → ℕ → ℕ → BaseState
base_states_in [] leaf table = no_base_state
base_states_in (x ∷ xs) zero table = base_state_at x.tables table
base_states_in (x ∷ xs) (suc leaf) table = base_states_in xs leaf table
