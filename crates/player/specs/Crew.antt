-- A crew over the leaves of a fleet, as its callers see it. The run has one, and so has each lane.
use Rattle.std.specs.Prelude.{◌≡◌, ◌⊎◌, ℕ, suc, ◌<◌, ◌≤◌, true, false, Bool, List, [], ◌∷◌, length, map, slice_get, slice_index_or, Option, Some, None, Result, Vec, IfOk, is_some, ⊤}
use Rattle.std.specs.Global.{Global}
use Rattle.std.specs.List.{AllByRecursion}
use Rattle.berth_face.specs.Berth.{Meaning, Passes}
use Rattle.leaf_history.specs.History.{Entry}
use Rattle.leaf_table.specs.Turns.{Shared}
use Rattle.leaf_table.specs.Calls.{SeatView}
use Rattle.leaf_table.specs.Lists.{row}
use Rattle.leaf_steward.specs.Seated.{Seated}
use Rattle.script_text.specs.declared.command.Command.{Command}
use Rattle.rollover_watch.specs.Watches.{Held}
use Rattle.printed_lines.specs.declared.line.Line.{Line}
use Rattle.printed_lines.specs.declared.line.Ending.{Ending}
use Rattle.printed_lines.specs.Lines.{IsOf}
use Rattle.script_text.specs.declared.fleet.FleetShape.{FleetShape}
use Rattle.script_text.specs.declared.order.Order.{Order}
use Rattle.script_text.specs.Aims.{Aim, AtFleet, AtLeaf, AtLeaves, AtNamed, AtRun, AtTable, aim_of, aim_of_order}
use Rattle.script_text.specs.Commands.{leaf_count}
use Rattle.printed_lines.specs.declared.line.Deed.{Deed}
use Rattle.transcript.specs.Pieces.{Piece, lines_in, place_among}
use Rattle.transcript.specs.Counts.{CountsRose, deeds_in}
use Rattle.leaf_moves.specs.Holds.{GoOn, Hold, caller_in, base_states_in}
use Rattle.leaf_moves.specs.Stage.{Leaf, IsDown}
use Rattle.leaf_moves.specs.Plays.{Goes, Plays}
use Rattle.transcript.specs.Answers.{AnswersOrder}
use Rattle.transcript.specs.Shapes.{PrintsOrder}
use Rattle.transcript.specs.Watching.{Hears, HearsOrder}

-- the fleet, the tables of each leaf, and what is held of each leaf
pub record CrewState (B : Type 0) : Type 0 where
  pub fleet : FleetShape
  pub tables : List (List Shared)
  pub holds : List (Hold B)

-- the seats at leaf `leaf`: one for each table, or none
abbrev pub column : {A : Type 0} → ℕ → List (List A) → List (Option A)
column leaf rows = map (λ row. slice_get row leaf) rows

-- the leaf's tables, and the steward's seats at them
abbrev pub seated_at : List (List ℕ) → List (List Shared) → List (List SeatView) → ℕ → Seated
seated_at names tables stewards leaf = record { names = names; tables = row tables leaf; seats = row stewards leaf }

-- leaves that are down, from leaf `leaf` on, one over each of these berths
abbrev pub new_holds : {B : Type 0} → ℕ → List (List ℕ) → List (List Shared) → List (List SeatView) → List (List SeatView) → List B → List (Hold B)
new_holds leaf names tables stewards callers [] = []
new_holds leaf names tables stewards callers (b ∷ berths) =
    record { tables = row tables leaf; callers = column leaf callers; held = Some (IsDown (seated_at names tables stewards leaf), b) } ∷ new_holds (suc leaf) names tables stewards callers berths

-- ---- what is held

-- a callers' seat at that table is held for each leaf
abbrev pub HasSeats : {B : Type 0} → List (Hold B) → ℕ → Type 0
HasSeats {B} xs table = (leaf : ℕ) (x : Hold B) → slice_get xs leaf ≡ Some x → is_some (caller_in x.callers table) ≡ true

-- that leaf is held
abbrev pub HasLeaf : {B : Type 0} → List (Hold B) → ℕ → Type 0
HasLeaf {B} xs leaf = (x : Hold B) → slice_get xs leaf ≡ Some x → is_some x.held ≡ true

-- all that such a command needs is held
abbrev pub HasAimed : {B : Type 0} → FleetShape → List (Hold B) → Aim → Type 0
HasAimed fleet xs AtFleet = (leaf : ℕ) → HasLeaf xs leaf
HasAimed fleet xs (AtTable table) = HasSeats xs table
HasAimed fleet xs (AtNamed name) = HasSeats xs (place_among name fleet.names)
HasAimed fleet xs (AtLeaf leaf) = HasLeaf xs leaf
HasAimed fleet xs AtLeaves = (leaf : ℕ) → leaf < leaf_count fleet → HasLeaf xs leaf
HasAimed fleet xs AtRun = ⊤

-- all that a command needs is held
abbrev pub HasFor : {B : Type 0} → FleetShape → List (Hold B) → Command → Type 0
HasFor fleet xs c = HasAimed fleet xs (aim_of c)

-- all that an order needs is held
abbrev pub HasOrder : {B : Type 0} → FleetShape → List (Hold B) → Order → Type 0
HasOrder fleet xs o = HasAimed fleet xs (aim_of_order o)

-- everything is held, as the run does between two items
pub record HasAll {B : Type 0} (fleet : FleetShape) (xs : List (Hold B)) : Type 0 where
  pub leaves : (leaf : ℕ) → HasLeaf xs leaf
  pub seats : (table : ℕ) → table < length fleet.names → HasSeats xs table

-- the same leaves and seats are held
pub record StillHas {B : Type 0} (xs ys : List (Hold B)) : Type 0 where
  pub count : length ys ≡ length xs
  pub each : (leaf : ℕ) (x y : Hold B) → slice_get xs leaf ≡ Some x → slice_get ys leaf ≡ Some y
      → (is_some y.held ≡ is_some x.held) × ((table : ℕ) → is_some (caller_in y.callers table) ≡ is_some (caller_in x.callers table))

-- callers' seats are held at the same tables
pub record SameSeats {B : Type 0} (xs ys : List (Hold B)) : Type 0 where
  pub count : length ys ≡ length xs
  pub each : (leaf : ℕ) (x y : Hold B) → slice_get xs leaf ≡ Some x → slice_get ys leaf ≡ Some y → (table : ℕ) → is_some (caller_in y.callers table) ≡ is_some (caller_in x.callers table)

-- ---- what a command does

abbrev pub PassesIf : {B : Type 0} → (B → Meaning) → Option (Leaf × B) → Option (Leaf × B) → Type 0
PassesIf meaning (Some x) (Some y) = Passes (meaning x.1) (meaning y.1)
PassesIf meaning None None = ⊤
PassesIf meaning (Some x) None = ⊥
PassesIf meaning None (Some y) = ⊥

-- the clock of each berth that is held did not fall
pub record AllPass {B : Type 0} (meaning : B → Meaning) (xs ys : List (Hold B)) : Type 0 where
  pub count : length ys ≡ length xs
  pub each : (leaf : ℕ) (x y : Hold B) → slice_get xs leaf ≡ Some x → slice_get ys leaf ≡ Some y → PassesIf meaning x.held y.held

-- a leaf's berth counted what these pieces tell; of a leaf that is not held they tell no deed
abbrev pub CountedIf : {B : Type 0} → (B → Meaning) → ℕ → List Piece → Option (Leaf × B) → Option (Leaf × B) → Type 0
CountedIf meaning leaf pieces (Some x) (Some y) = CountsRose leaf pieces (meaning x.1) (meaning y.1)
CountedIf meaning leaf pieces None None = (test : Deed → Ending → Bool) → deeds_in test leaf pieces ≡ 0
CountedIf meaning leaf pieces (Some x) None = ⊥
CountedIf meaning leaf pieces None (Some y) = ⊥

pub record AllCounted {B : Type 0} (meaning : B → Meaning) (pieces : List Piece) (xs ys : List (Hold B)) : Type 0 where
  pub count : length ys ≡ length xs
  pub each : (leaf : ℕ) (x y : Hold B) → slice_get xs leaf ≡ Some x → slice_get ys leaf ≡ Some y → CountedIf meaning leaf pieces x.held y.held

-- what an order did, with its pieces, and what the watches heard of it; memory for its lines may have run out
pub record PlaysOrder {B E : Type 0} (meaning : B → Meaning) (fleet : FleetShape) (o : Order) (xs : List (Hold B)) (before : List Held) (result : Result (Vec Line Global) E) (ys : List (Hold B)) (after : List Held) : Type 0 where
  pub pieces : List Piece
  pub goes : Goes meaning xs pieces ys
  pub prints : PrintsOrder fleet o pieces
  pub answers : (histories : ℕ → ℕ → List Entry) → GoOn ys histories → AnswersOrder fleet (base_states_in ys) histories o pieces
  pub counted : AllCounted meaning pieces xs ys
  pub fit : AllByRecursion (IsOf fleet.names) (lines_in pieces)
  pub heard : HearsOrder fleet o pieces before after
  pub lines_are : IfOk result (λ lines. lines.items ≡ lines_in pieces)

-- the same of a command
pub record PlaysWith {B E : Type 0} (meaning : B → Meaning) (fleet : FleetShape) (c : Command) (xs : List (Hold B)) (before : List Held) (result : Result (Vec Line Global) E) (ys : List (Hold B)) (after : List Held) : Type 0 where
  pub pieces : List Piece
  pub plays : Plays meaning fleet c xs pieces ys
  pub counted : AllCounted meaning pieces xs ys
  pub fit : AllByRecursion (IsOf fleet.names) (lines_in pieces)
  pub heard : Hears fleet (record { command = c; pieces = pieces }) before after
  pub lines_are : IfOk result (λ lines. lines.items ≡ lines_in pieces)

-- ---- what is lent to a lane

-- whether the place is marked
abbrev pub is_set : List Bool → ℕ → Bool
is_set marks place = slice_index_or marks place false

-- each callers' seat at that table has at least n ids of its own
abbrev pub Spares : {B : Type 0} → List (Hold B) → ℕ → ℕ → Type 0
Spares {B} xs table n = (leaf : ℕ) (x : Hold B) (c : SeatView) → slice_get xs leaf ≡ Some x → caller_in x.callers table ≡ Some c → n ≤ c.share

-- both are of one fleet, and no leaf is held by both
pub record MayTakeBack {B : Type 0} (rest off : CrewState B) : Type 0 where
  pub fleet : off.fleet ≡ rest.fleet
  pub tables : off.tables ≡ rest.tables
  pub leaves : (leaf : ℕ) (x y : Hold B) → slice_get rest.holds leaf ≡ Some x → slice_get off.holds leaf ≡ Some y → (x.held ≡ None) ⊎ (y.held ≡ None)
  pub seats : (table : ℕ) → table < length rest.fleet.names → HasSeats rest.holds table
