-- What a lane and an item did, also if memory for their lines ran out. Then some of their commands were played,
-- and nothing that they did is lost.
use Rattle.std.specs.Prelude.{◌≡◌, ◌⊎◌, List, [], ◌∷◌, ◌++◌, Option, Some, None, Result, Ok, Err, Vec, IfSome}
use Rattle.std.specs.Global.{Global}
use Rattle.std.specs.List.{AllByRecursion}
use Rattle.berth_face.specs.Berth.{Meaning}
use Rattle.script_text.specs.declared.command.Command.{Command}
use Rattle.script_text.specs.declared.item.Item.{Item}
use Rattle.rollover_watch.specs.Watches.{Held}
use Rattle.printed_lines.specs.declared.line.Line.{Line}
use Rattle.printed_lines.specs.Lines.{IsOf}
use Rattle.script_text.specs.declared.fleet.FleetShape.{FleetShape}
use Rattle.transcript.specs.Pieces.{Played, PlayedItem, all_pieces, commands_in, item_lines, item_of, lines_in, pieces_in, plays_of}
use Rattle.leaf_moves.specs.Holds.{Hold}
use Rattle.leaf_moves.specs.Lanes.{PlaysItem, PlaysOn}
use Rattle.transcript.specs.Watching.{HearsAll}
use Rattle.lane_play.specs.Shortened.{BeginsItem}
use Rattle.player.specs.Crew.{AllCounted}

-- the lines of an answer, unless memory ran out
abbrev pub told_lines : {E : Type 0} → Result (Vec Line Global) E → Option (List Line)
told_lines (Ok lines) = Some lines.items
told_lines (Err e) = None

-- A prefix of the lane's commands was played. If there are lines, all commands were, and the lines are theirs.
pub record LaneWent {B : Type 0} (meaning : B → Meaning) (fleet : FleetShape) (commands : List Command) (xs : List (Hold B)) (before : List Held) (lines : Option (List Line)) (ys : List (Hold B)) (after : List Held) : Type 0 where
  pub played : List Played
  pub rest : List Command
  pub commands_are : commands ≡ commands_in played ++ rest
  pub plays : PlaysOn meaning fleet xs played ys
  pub counted : AllCounted meaning (pieces_in played) xs ys
  pub fit : AllByRecursion (IsOf fleet.names) (lines_in (pieces_in played))
  pub heard : HearsAll fleet played before after
  pub lines_are : IfSome lines (λ ls. (rest ≡ []) × (ls ≡ lines_in (pieces_in played)))

-- An item, or prefixes of its lanes. If there are lines, all of it was played, and the lines are its.
pub record ItemWent {B : Type 0} (meaning : B → Meaning) (fleet : FleetShape) (item : Item) (xs : List (Hold B)) (before : List Held) (lines : Option (List Line)) (ys : List (Hold B)) (after : List Held) : Type 0 where
  pub played : PlayedItem
  pub begun : BeginsItem (item_of played) item
  pub plays : PlaysItem meaning fleet xs played ys
  pub counted : AllCounted meaning (all_pieces (played ∷ [])) xs ys
  pub fit : AllByRecursion (IsOf fleet.names) (item_lines played)
  pub heard : HearsAll fleet (plays_of played) before after
  pub lines_are : IfSome lines (λ ls. (item_of played ≡ item) × (ls ≡ item_lines played))

-- memory ran out before anything was done
pub record Nothing {B : Type 0} (xs : List (Hold B)) (before : List Held) (lines : Option (List Line)) (ys : List (Hold B)) (after : List Held) : Type 0 where
  pub refused : lines ≡ None
  pub holds : ys ≡ xs
  pub watches : after ≡ before

-- W, or memory ran out before anything was done
abbrev pub OrNothing : {B : Type 0} → Type 0 → List (Hold B) → List Held → Option (List Line) → List (Hold B) → List Held → Type 0
OrNothing W xs before lines ys after = W ⊎ Nothing xs before lines ys after
