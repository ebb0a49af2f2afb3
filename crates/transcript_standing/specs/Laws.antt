-- The statements of the laws.
use Rattle.std.specs.Prelude.{ℕ, List, [], ◌∷◌, ◌++◌, Option}
use Rattle.leaf_history.specs.History.{Entry}
use Rattle.region_layout.specs.Names.{AreNames}
use Rattle.script_text.specs.declared.fleet.FleetShape.{FleetShape}
use Rattle.script_text.specs.declared.item.Item.{Item}
use Rattle.standing_feed.specs.declared.follower.Follower.{Follower}
use Rattle.transcript.specs.Pieces.{PlayedItem}
use Rattle.transcript.specs.Histories.{BaseState}
use Rattle.transcript.specs.Transcript.{Known, Transcript, base_states_of}
use Rattle.transcript.specs.Telling.{AreTold}
use Rattle.transcript_standing.specs.Followed.{DoesItself, FollowedAll, FollowedSome, FollowsItem}

-- queries that followed some items follow one more
abbrev pub FollowOn : Type 0
FollowOn = (fleet : FleetShape) (base_states : ℕ → ℕ → BaseState) (histories : ℕ → ℕ → List Entry) (items : List PlayedItem) (x : PlayedItem) (olds news behind : List Follower)
    → FollowedAll fleet base_states histories items olds news → FollowsItem fleet base_states histories x news behind → FollowedAll fleet base_states histories (items ++ x ∷ []) olds behind

-- the items that a run followed to its end, or up to an item where it stops
abbrev pub FollowToEnd : Type 0
FollowToEnd = (fleet : FleetShape) (base_states : ℕ → ℕ → BaseState) (histories : ℕ → ℕ → List Entry) (items : List PlayedItem) (olds news : List Follower)
    → FollowedAll fleet base_states histories items olds news → FollowedSome fleet base_states histories items olds

abbrev pub FollowToStop : Type 0
FollowToStop = (fleet : FleetShape) (base_states : ℕ → ℕ → BaseState) (histories : ℕ → ℕ → List Entry) (items : List PlayedItem) (x : PlayedItem) (olds news behind : List Follower)
    → FollowedAll fleet base_states histories items olds news → DoesItself fleet base_states histories x news behind → FollowedSome fleet base_states histories (items ++ x ∷ []) olds

-- if there were no queries at the start, all that they told over the histories of a transcript is right
abbrev pub TellRight : Type 0
TellRight = (fleet : FleetShape) (known : ℕ → Option Known) (items : List Item) (out : List ℕ) (t : Transcript fleet known items out)
    → AreNames fleet.names → FollowedSome fleet (base_states_of fleet known) t.histories t.played []
    → AreTold fleet (base_states_of fleet known) t.histories t.played
