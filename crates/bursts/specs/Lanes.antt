-- What the lanes of a burst did, also if memory for their lines ran out. Then some of their commands were played, and
-- nothing that they did is lost.
use Rattle.std.specs.Prelude.{◌≡◌, ℕ, ◌<◌, List, ◌∷◌, ◌++◌, length, map, slice_index_or, Option, None, Result, Ok, Vec, IfSome}
use Rattle.std.specs.Global.{Global}
use Rattle.std.specs.List.{AllByRecursion, AllZip, flat_map}
use Rattle.berth_face.specs.Berth.{Meaning}
use Rattle.script_text.specs.declared.command.Command.{Command}
use Rattle.rollover_watch.specs.Watches.{Held}
use Rattle.printed_lines.specs.declared.line.Line.{Line}
use Rattle.printed_lines.specs.declared.line.Line.TheVariants.{Lane}
use Rattle.printed_lines.specs.Lines.{IsOf}
use Rattle.script_text.specs.declared.fleet.FleetShape.{FleetShape}
use Rattle.transcript.specs.Pieces.{Played, commands_in, lane_lines, lines_in, pieces_in}
use Rattle.transcript.specs.Watching.{HearsAll}
use Rattle.leaf_moves.specs.Holds.{Hold}
use Rattle.leaf_moves.specs.Lanes.{Fans, PlaysOn}
use Rattle.player.specs.Crew.{AllCounted, AllPass, StillHas}
use Rattle.lane_play.specs.Played.{MayPlayOn}
use Rattle.lane_play.specs.Shortened.{Begins}
use Rattle.lane_play.specs.Went.{LaneWent, told_lines}
use Rattle.bursts.specs.declared.work.LaneWork.{LaneWork}

-- the commands of all lanes, lane after lane
abbrev pub all_of : List (List Played) → List Played
all_of lanes = flat_map (λ lane. lane) lanes

-- of each lane a prefix
abbrev pub ArePrefixes : List (List Command) → List (List Command) → Type 0
ArePrefixes lanes wholes = AllZip (λ (lane whole : List Command). Begins lane whole) lanes wholes

-- the lines of each lane name only tables of the fleet
abbrev pub LanesFit : List (List ℕ) → List (List Played) → Type 0
LanesFit names lanes = AllByRecursion (λ (lane : List Played). AllByRecursion (IsOf names) (lines_in (pieces_in lane))) lanes

-- the lines of a lane are appended to those of the lanes before it
pub record IsBehind {E : Type 0} (lines : Result (Vec Line Global) E) (number : ℕ) (own : Result (Vec Line Global) E) (all : List Line) : Type 0 where
  pub before : Vec Line Global
  pub its : Vec Line Global
  pub lines_are : lines ≡ Ok before
  pub own_is : own ≡ Ok its
  pub all_are : all ≡ before.items ++ Lane number ∷ its.items

-- ---- all lanes

-- Of each lane a prefix was played, as P says. If there are lines, all commands were, and the lines are theirs.
pub record LanesWent {B : Type 0} (meaning : B → Meaning) (fleet : FleetShape) (P : List (List Played) → Type 0) (lanes : List (List Command)) (xs : List (Hold B)) (before : List Held) (lines : Option (List Line)) (ys : List (Hold B)) (after : List Held) : Type 0 where
  pub played : List (List Played)
  pub begun : ArePrefixes (map commands_in played) lanes
  pub plays : P played
  pub counted : AllCounted meaning (pieces_in (all_of played)) xs ys
  pub fit : LanesFit fleet.names played
  pub heard : HearsAll fleet (all_of played) before after
  pub lines_are : IfSome lines (λ ls. (map commands_in played ≡ lanes) × (ls ≡ lane_lines 0 played))

-- they played one after another
abbrev pub TurnsWent : {B : Type 0} → (B → Meaning) → FleetShape → List (List Command) → List (Hold B) → List Held → Option (List Line) → List (Hold B) → List Held → Type 0
TurnsWent meaning fleet lanes xs before lines ys after = LanesWent meaning fleet (λ played. PlaysOn meaning fleet xs (all_of played) ys) lanes xs before lines ys after

-- they played beside one another
abbrev pub FansWent : {B : Type 0} → (B → Meaning) → FleetShape → List (List Command) → List (Hold B) → List Held → Option (List Line) → List (Hold B) → List Held → Type 0
FansWent meaning fleet lanes xs before lines ys after = LanesWent meaning fleet (λ played. Fans meaning fleet xs played ys) lanes xs before lines ys after

-- ---- one lane, with what was cut off for it

-- the lane may play, and has not begun
pub record MayWork {B X : Type 0} {Y : X → Type 0} (lane : LaneWork B X Y) : Type 0 where
  pub may : AllByRecursion (MayPlayOn lane.crew.fleet lane.crew.holds) lane.commands.items
  pub unplayed : told_lines lane.lines ≡ None

-- the lane has played, or not begun, and still holds the same leaves and seats
pub record LaneIsDone {B X : Type 0} {Y : X → Type 0} (hear : LaneWork B X Y → List Held) (meaning : B → Meaning) (x y : LaneWork B X Y) : Type 0 where
  pub fleet : y.crew.fleet ≡ x.crew.fleet
  pub tables : y.crew.tables ≡ x.crew.tables
  pub still : StillHas x.crew.holds y.crew.holds
  pub time : AllPass meaning x.crew.holds y.crew.holds
  pub went : LaneWent meaning x.crew.fleet x.commands.items x.crew.holds (hear x) (told_lines y.lines) y.crew.holds (hear y)

-- each of them
pub record AreDone {B X : Type 0} {Y : X → Type 0} (hear : LaneWork B X Y → List Held) (meaning : B → Meaning) (xs ys : List (LaneWork B X Y)) : Type 0 where
  pub count : length ys ≡ length xs
  pub each : (i : ℕ) (d : LaneWork B X Y) → i < length xs → LaneIsDone hear meaning (slice_index_or xs i d) (slice_index_or ys i d)
