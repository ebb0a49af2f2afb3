-- The play of a script, in the middle.
use Rattle.std.specs.Prelude.{◌≡◌, ℕ, List, [], ◌∷◌, map, Option, Some, None, ⊤}
use Rattle.std.specs.List.{AllByRecursion, filter_map}
use Rattle.std.specs.Io.KnownBytes.{Appends}
use Rattle.berth_face.specs.Berth.{Meaning}
use Rattle.leaf_history.specs.History.{Entry}
use Rattle.crash_moments.specs.Left.{NamedStates}
use Rattle.region_layout.specs.Names.{AreNames}
use Rattle.leaf_table.specs.declared.base.TableBase.{TableBase}
use Rattle.rollover_watch.specs.Watches.{Held}
use Rattle.script_text.specs.declared.item.Item.{Item}
use Rattle.script_text.specs.Fits.{AreLeaves}
use Rattle.printed_lines.specs.Lines.{lines_text, name_at}
use Rattle.script_text.specs.declared.fleet.FleetShape.{FleetShape}
use Rattle.transcript.specs.Pieces.{PlayedItem, all_lines, all_pieces, script_fleet, item_lines, item_of, plays_in, plays_of}
use Rattle.transcript.specs.Transcript.{Known, base_states_of}
use Rattle.standing_feed.specs.declared.follower.Follower.{Follower}
use Rattle.transcript_standing.specs.Followed.{FollowedAll, FollowsItem}
use Rattle.transcript.specs.Leaving.{AreKnown}
use Rattle.leaf_moves.specs.Holds.{GoOn, Hold, base_states_in, berth_in}
use Rattle.leaf_moves.specs.Lanes.{PlaysItem}
use Rattle.transcript.specs.Watching.{HearsAll}
use Rattle.transcript_fleet.specs.Session.{Session}
use Rattle.player.specs.Crew.{AllCounted, AllPass}
use Rattle.play.specs.Standing.{MayRun}
use Rattle.run_ends.specs.declared.status.Status.{Status}

-- ---- the tables

-- the base of a table with this name, if the leaf's base is known
abbrev pub table_base : Option NamedStates → List ℕ → Option TableBase
table_base None name = None
table_base (Some base) name = Some (record { writes = (base name).writes; flushed = (base name).flushed; spare = (base name).spare })

-- the base of each table of each leaf
abbrev pub table_bases : (ℕ → Option NamedStates) → List (List ℕ) → ℕ → ℕ → Option TableBase
table_bases base names leaf table = table_base (base leaf) (name_at names table)

-- ---- the leaves

-- the items make this fleet, and it may play all of them
pub record IsFleetOf (items : List Item) (fleet : FleetShape) : Type 0 where
  pub is : script_fleet items ≡ fleet
  pub are_names : AreNames fleet.names
  pub leaves : AreLeaves fleet.machines fleet.per_machine
  pub may_play : AllByRecursion (MayRun fleet) items

-- the berths of the leaves that are held
abbrev pub berths_in : {B : Type 0} → List (Hold B) → List B
berths_in {B} xs = filter_map (λ (x : Hold B). berth_in x) xs

-- ---- items

-- What holds of leaves and watches after these items, of a run that began with the leaves `firsts`: the watches heard of
-- the items, each fault and read that their lines tell has its cause, time passed, and the items are a session.
pub record HasPlayed {B : Type 0} (base : ℕ → Option NamedStates) (meaning : B → Meaning) (fleet : FleetShape) (firsts : List (Hold B)) (watching watched : List Held) (played : List PlayedItem) (xs : List (Hold B)) : Type 0 where
  pub heard : HearsAll fleet (plays_in played) watching watched
  pub counted : AllCounted meaning (all_pieces played) firsts xs
  pub time : AllPass meaning firsts xs
  pub session : (known : ℕ → Option Known) → AreKnown meaning (berths_in firsts) (berths_in firsts) base known → Session meaning fleet known (berths_in firsts) played xs

-- the items were played, their lines were written, and the standing queries followed them
pub record RunSoFar {B : Type 0} (base : ℕ → Option NamedStates) (meaning : B → Meaning) (fleet : FleetShape) (firsts : List (Hold B)) (was written : Option (List ℕ)) (watching watched : List Held) (items : List Item) (followers : List Follower) (xs : List (Hold B)) : Type 0 where
  pub played : List PlayedItem
  pub items_are : map item_of played ≡ items
  pub text : Appends was written (lines_text fleet.names (all_lines played))
  pub has : HasPlayed base meaning fleet firsts watching watched played xs
  pub followed : (known : ℕ → Option Known) → AreKnown meaning (berths_in firsts) (berths_in firsts) base known → (histories : ℕ → ℕ → List Entry) → GoOn xs histories
      → FollowedAll fleet (base_states_of fleet known) histories played [] followers

-- one more item was played, and its lines were written
pub record Advances {B : Type 0} (meaning : B → Meaning) (fleet : FleetShape) (olds news : List Follower) (xs ys : List (Hold B)) (was written : Option (List ℕ)) (watching watched : List Held) (item : Item) : Type 0 where
  pub played : PlayedItem
  pub item_is : item_of played ≡ item
  pub plays : PlaysItem meaning fleet xs played ys
  pub text : Appends was written (lines_text fleet.names (item_lines played))
  pub heard : HearsAll fleet (plays_of played) watching watched
  pub counted : AllCounted meaning (all_pieces (played ∷ [])) xs ys
  pub follows : (histories : ℕ → ℕ → List Entry) → GoOn ys histories → FollowsItem fleet (base_states_in ys) histories played olds news

-- how a play may end
abbrev pub IsEnd : Status → Type 0
IsEnd Status.Done = ⊤
IsEnd Status.WriteFault = ⊤
IsEnd Status.NoMemory = ⊤
IsEnd Status.Words = ⊥
IsEnd (Status.Script line why) = ⊥
IsEnd Status.ReadFault = ⊥
