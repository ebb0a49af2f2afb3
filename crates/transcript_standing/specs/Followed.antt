-- How the standing queries of a run followed its items, over these histories of the tables.
use Rattle.std.specs.Prelude.{◌≡◌, ℕ, ◌-◌, ◌<◌, int_le, true, false, List, [], ◌∷◌, ◌++◌, length, map, take, Some, slice_get, slice_set, ⊤}
use Rattle.std.specs.List.{AllByRecursion}
use Rattle.row_model.specs.declared.rows.Row.{Row}
use Rattle.leaf_model.specs.declared.queries.Query.{Query}
use Rattle.leaf_model.specs.declared.groups.Group.{Group}
use Rattle.leaf_model.specs.Groups.{groups}
use Rattle.row_model.specs.Values.{IsTime}
use Rattle.answer_text.specs.Answer.{answer_lines}
use Rattle.leaf_history.specs.Calls as call
use Rattle.leaf_model.specs.Content.{Contents}
use Rattle.leaf_history.specs.History.{Entry, after, contents_held}
use Rattle.script_text.specs.declared.command.Command.{Command}
use Rattle.script_text.specs.declared.command.Command.TheVariants as command
use Rattle.script_text.specs.declared.order.Order.{Order}
use Rattle.script_text.specs.declared.order.Order.TheVariants as order
use Rattle.script_text.specs.declared.order.Part.{Part}
use Rattle.script_text.specs.declared.order.Part.TheVariants as part
use Rattle.script_text.specs.declared.order.TableRequest.{TableRequest}
use Rattle.script_text.specs.declared.order.TableRequest.TheVariants as request
use Rattle.script_text.specs.Orders.{part_of}
use Rattle.script_text.specs.declared.fleet.FleetShape.{FleetShape}
use Rattle.script_text.specs.Commands.{leaf_count}
use Rattle.printed_lines.specs.declared.line.Said.TheVariants.{Asked}
use Rattle.printed_lines.specs.declared.line.WhyUntold.{WhyUntold}
use Rattle.printed_lines.specs.declared.line.Line.{Line}
use Rattle.printed_lines.specs.declared.line.Line.TheVariants as line
use Rattle.standing_query.specs.Spread.{spread}
use Rattle.standing_query.specs.States.{Means}
use Rattle.standing_feed.specs.declared.follower.Follower.{Follower}
use Rattle.standing_feed.specs.Following.{FollowAll, new_follower, meant_for, settled}
use Rattle.transcript.specs.Pieces.{Piece, Called, Says, Played, PlayedItem, One, Burst, item_lines, item_of, place_among, plays_of}
use Rattle.transcript.specs.Shapes.{CallPiece}
use Rattle.transcript.specs.Histories.{BaseState}
use Rattle.transcript.specs.Telling.{why_untold}

-- ---- commands that may be played

-- each row has a valid time
abbrev pub AreTimes : List Row → Type 0
AreTimes rows = AllByRecursion (λ (row : Row). IsTime row.time) rows

abbrev pub RequestTimes : TableRequest → Type 0
RequestTimes (request.Add rows) = AreTimes rows
RequestTimes _ = ⊤

abbrev pub OrderTimes : Order → Type 0
OrderTimes (order.Call leaf table r) = RequestTimes r
OrderTimes (order.Tail key table rows) = AreTimes rows
OrderTimes _ = ⊤

abbrev pub PartTimes : Part → Type 0
PartTimes (part.Leaves o) = OrderTimes o
PartTimes (part.Run o) = ⊤

abbrev pub HasTimes : Command → Type 0
HasTimes c = PartTimes (part_of c)

-- a command of a lane: it neither declares nor tells a standing query
abbrev pub LanePart : Part → Type 0
LanePart (part.Leaves o) = OrderTimes o
LanePart (part.Run o) = ⊥

abbrev pub IsOfLane : Command → Type 0
IsOfLane c = LanePart (part_of c)

abbrev pub IsPlayable : PlayedItem → Type 0
IsPlayable (One p) = HasTimes p.command
IsPlayable (Burst lanes) = AllByRecursion (λ (p : Played). IsOfLane p.command) (plays_of (Burst lanes))

-- ---- standing queries of the fleet

-- a standing query of a table of the fleet
abbrev pub IsFollower : FleetShape → Follower → Type 0
IsFollower fleet f = (f.leaf < leaf_count fleet) × (f.table < length fleet.names)

abbrev pub AreFollowers : FleetShape → List Follower → Type 0
AreFollowers fleet followers = AllByRecursion (IsFollower fleet) followers

-- ---- what the queries did themselves

-- what a fresh state tells: the answer over the rows that it stands for
abbrev pub TellsState : ℕ → Follower → Line → Type 0
TellsState standing f told = (lines : List (List ℕ)) × (told ≡ line.Told standing f.standing.upto lines)
    × ((rows : List Row) → Means f.standing rows → AreTimes rows → lines ≡ answer_lines f.standing.query (groups f.standing.query rows))

module _ (fleet : FleetShape) (base_states : ℕ → ℕ → BaseState) (histories : ℕ → ℕ → List Entry) where
  -- the contents of its table before that entry
  abbrev pub held_before : Follower → ℕ → Contents
  held_before f number = contents_held (after (base_states f.leaf f.table).founded (base_states f.leaf f.table).base (take (number - 1) (histories f.leaf f.table)))

  -- the groups of its spread over the rows of its table before that entry; these have times, and none is below the
  -- horizon
  pub record AreAsked (f : Follower) (number : ℕ) (gs : List Group) : Type 0 where
    pub times : AreTimes (held_before f number).rows
    pub none_below : AllByRecursion (λ (row : Row). int_le (held_before f number).horizon row.time ≡ true) (held_before f number).rows
    pub are : gs ≡ groups (spread f.standing.query) (held_before f number).rows

  -- A fresh query tells at once. A stale one asks its table first; then it is fresh and tells, or it tells why it stays
  -- stale.
  pub data TellsItself (standing : ℕ) (f : Follower) (pieces : List Piece) (g : Follower) : Type 0 where
    fresh : (told : Line)
        → f.standing.stale ≡ false
        → pieces ≡ Says told ∷ []
        → TellsState standing f told
        → g ≡ f
        → TellsItself standing f pieces g
    made_fresh : (number : ℕ) (gs : List Group) (told : Line)
        → f.standing.stale ≡ true
        → pieces ≡ Called f.leaf f.table (call.Ask (spread f.standing.query)) number Asked ∷ Says told ∷ []
        → AreAsked f number gs
        → TellsState standing (settled number gs f) told
        → g ≡ settled number gs f
        → TellsItself standing f pieces g
    stays_stale : (asked : Piece) (why : WhyUntold)
        → f.standing.stale ≡ true
        → CallPiece f.leaf f.table (call.Ask (spread f.standing.query)) asked
        → why_untold asked ≡ Some why
        → pieces ≡ asked ∷ Says (line.Untold standing why) ∷ []
        → g ≡ f
        → TellsItself standing f pieces g

  -- the query with this number tells, and no other changes
  pub record TellsOne (standing : ℕ) (pieces : List Piece) (olds news : List Follower) : Type 0 where
    pub old : Follower
    pub new : Follower
    pub at : slice_get olds standing ≡ Some old
    pub tells : TellsItself standing old pieces new
    pub news_are : news ≡ slice_set olds standing new

  -- one more query is declared, of a table of the fleet
  pub record DeclaresOne (leaf : ℕ) (query : Query) (pieces : List Piece) (olds news : List Follower) : Type 0 where
    pub leaf_is : leaf < leaf_count fleet
    pub table_is : place_among query.table fleet.names < length fleet.names
    pub pieces_are : pieces ≡ Says (line.Declared (length olds)) ∷ []
    pub news_are : news ≡ olds ++ new_follower leaf (place_among query.table fleet.names) query ∷ []

  -- what the queries do at an item, before they follow its lines
  abbrev pub DoesItself : PlayedItem → List Follower → List Follower → Type 0
  DoesItself (One p) olds news = by p.command
    where
      by : Command → Type 0
      by (command.Standing leaf q) = DeclaresOne leaf q p.pieces olds news
      by (command.Tell standing) = TellsOne standing p.pieces olds news
      by c = news ≡ olds
  DoesItself (Burst lanes) olds news = news ≡ olds

  -- ---- a run

  -- the queries did an item, and followed all its lines
  pub record FollowsItem (x : PlayedItem) (olds news : List Follower) : Type 0 where
    pub between : List Follower
    pub may : IsPlayable x
    pub itself : DoesItself x olds between
    pub follow : FollowAll (map (meant_for (item_of x)) olds) (item_lines x) between news

  -- they did these items, one after another
  abbrev pub FollowedAll : List PlayedItem → List Follower → List Follower → Type 0
  FollowedAll [] olds news = news ≡ olds
  FollowedAll (x ∷ xs) olds news = (between : List Follower) × FollowsItem x olds between × FollowedAll xs between news

  -- they did all but the last of these items, or all, and of the last they followed no line
  pub record FollowedSome (items : List PlayedItem) (olds : List Follower) : Type 0 where
    pub whole : List PlayedItem
    pub last : List PlayedItem
    pub between : List Follower
    pub items_are : items ≡ whole ++ last
    pub followed : FollowedAll whole olds between
    pub behind : AllByRecursion (λ (x : PlayedItem). (news : List Follower) × DoesItself x between news) last
    pub one : length last < 2
