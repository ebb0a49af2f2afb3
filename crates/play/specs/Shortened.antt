-- A play that stops before all was played and written.
use Rattle.std.specs.Prelude.{◌≡◌, ◌⊎◌, ℕ, ◌≤◌, List, [], ◌∷◌, length, map, Option}
use Rattle.berth_face.specs.Berth.{Meaning}
use Rattle.berth_face.specs.Streams.{Written, WritesFront}
use Rattle.leaf_history.specs.History.{Entry}
use Rattle.crash_moments.specs.Left.{NamedStates}
use Rattle.rollover_watch.specs.Watches.{Held}
use Rattle.script_text.specs.declared.item.Item.{Item}
use Rattle.printed_lines.specs.Lines.{lines_text}
use Rattle.script_text.specs.declared.fleet.FleetShape.{FleetShape}
use Rattle.run_ends.specs.declared.status.Status.{Status}
use Rattle.transcript.specs.Pieces.{PlayedItem, all_lines, all_pieces, item_lines, item_of, plays_of}
use Rattle.transcript.specs.Transcript.{Known, base_states_of}
use Rattle.standing_feed.specs.declared.follower.Follower.{Follower}
use Rattle.transcript_standing.specs.Followed.{DoesItself, FollowedSome}
use Rattle.transcript.specs.Leaving.{AreKnown}
use Rattle.leaf_moves.specs.Holds.{GoOn, Hold, base_states_in}
use Rattle.leaf_moves.specs.Lanes.{PlaysItem}
use Rattle.transcript.specs.Watching.{HearsAll}
use Rattle.lane_play.specs.Shortened.{Begins, BeginsItem}
use Rattle.play.specs.Cut.{IsShortened, PlaysSome, last_lines}
use Rattle.player.specs.Crew.{AllCounted}
use Rattle.play.specs.Runs.{HasPlayed, berths_in}

-- ---- in the middle

-- What holds if a play stops after some of these items, of whose text a prefix was written. Before the first item the
-- leaves are as they were.
pub record RunShort {B : Type 0} (base : ℕ → Option NamedStates) (meaning : B → Meaning) (fleet : FleetShape) (firsts : List (Hold B)) (was written : Option (List ℕ)) (watching watched : List Held) (items : List Item) (xs : List (Hold B)) : Type 0 where
  pub played : List PlayedItem
  pub some : PlaysSome items (map item_of played)
  pub rest : List ℕ
  pub text : Written was written (lines_text fleet.names (all_lines played)) rest
  pub last : length rest ≤ length (lines_text fleet.names (last_lines played))
  pub cut : Begins (map item_of played) items ⊎ (rest ≡ lines_text fleet.names (last_lines played))
  pub has : HasPlayed base meaning fleet firsts watching watched played xs
  pub untouched : played ≡ [] → xs ≡ firsts
  pub followed : (known : ℕ → Option Known) → AreKnown meaning (berths_in firsts) (berths_in firsts) base known → (histories : ℕ → ℕ → List Entry) → GoOn xs histories
      → FollowedSome fleet (base_states_of fleet known) histories played []

-- ---- at the end

-- nothing was played or written, or some of these items were played
abbrev pub StopsShort : {B : Type 0} → (B → Meaning) → List B → List B → (ℕ → Option NamedStates) → List Item → Option (List ℕ) → Option (List ℕ) → List Held → List Held → Type 0
StopsShort meaning olds news base items was now watching watched = ((now ≡ was) × (news ≡ olds) × (watched ≡ watching)) ⊎ IsShortened meaning olds news base items was now watching watched

-- the property holds, if the sink failed or memory ran out
abbrev pub IfShort : Status → Type 0 → Type 0
IfShort Status.WriteFault P = P
IfShort Status.NoMemory P = P
IfShort _ P = Unit {0}

-- ---- one item

-- An item that was not played, or whose text was not all written.
pub data StopsAt {B : Type 0} (meaning : B → Meaning) (fleet : FleetShape) (olds : List Follower) (xs ys : List (Hold B)) (was written : Option (List ℕ)) (watching watched : List Held) (item : Item) : Type 0 where
  unplayed : ys ≡ xs → written ≡ was → watched ≡ watching → StopsAt meaning fleet olds xs ys was written watching watched item
  short : (played : PlayedItem)
      → BeginsItem (item_of played) item
      → PlaysItem meaning fleet xs played ys
      → AllCounted meaning (all_pieces (played ∷ [])) xs ys
      → HearsAll fleet (plays_of played) watching watched
      → ((item_of played ≡ item) × WritesFront was written (lines_text fleet.names (item_lines played))) ⊎ (written ≡ was)
      → ((histories : ℕ → ℕ → List Entry) → GoOn ys histories → (between : List Follower) × DoesItself fleet (base_states_in ys) histories played olds between)
      → StopsAt meaning fleet olds xs ys was written watching watched item
