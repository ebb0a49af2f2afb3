-- What the state of a standing query comes to by the entries of its table that are heard.
use Rattle.std.specs.Prelude.{◌≡◌, ℕ, ◌+◌, ◌<◌, ◌≤◌, ◌||◌, true, false, List, [], ◌∷◌, IsPermutation, MatchBool, if◌then◌else◌, Option, None, Some, IfSome, ⊤}
use Rattle.std.specs.List.Sorted.{IsNonDecreasingBy}
use Rattle.row_model.specs.declared.rows.Row.{Row}
use Rattle.standing_query.specs.States.{FedTo, Means, StandingState, is_end}
use Rattle.leaf_model.specs.declared.queries.Query.{Query}
use Rattle.leaf_model.specs.declared.groups.Group.{Group}
use Rattle.script_text.specs.declared.item.Item.{Item}
use Rattle.printed_lines.specs.declared.line.Line.{Line}
use Rattle.standing_feed.specs.declared.heard.Heard.{Heard}
use Rattle.standing_feed.specs.declared.meant.Meant.{Meant}
use Rattle.standing_feed.specs.declared.follower.Follower.{Follower}
use Rattle.standing_feed.specs.declared.place.TableAt.{TableAt}
use Rattle.standing_feed.specs.Hearing.{TablePlace, heard, meant_in}

-- the next entry was fed, and there was memory for it
pub record FeedsTo (s : StandingState) (h : Heard) (t : StandingState) : Type 0 where
  pub upto : t.upto ≡ h.number
  pub query : t.query ≡ s.query
  pub stale : t.stale ≡ (s.stale || is_end h.fed)
  pub means : (rows now : List Row) → Means s rows → FedTo h.fed rows now → t.stale ≡ false → Means t now

-- a state that missed an entry is stale
pub record IsLost (s t : StandingState) : Type 0 where
  pub query : t.query ≡ s.query
  pub stale : t.stale ≡ true

-- An entry is heard: one that the state knows already changes nothing, the next one is fed, and after a gap the state
-- is stale.
pub data Heeds (s : StandingState) (h : Heard) (t : StandingState) : Type 0 where
  known : h.number ≤ s.upto → t ≡ s → Heeds s h t
  next : h.number ≡ s.upto + 1 → FeedsTo s h t → Heeds s h t
  missed : s.upto + 1 < h.number → IsLost s t → Heeds s h t

-- entries one after another
pub data HeedsAll : StandingState → List Heard → StandingState → Type 0 where
  none : (s : StandingState) (hs : List Heard) (t : StandingState) → hs ≡ [] → t ≡ s → HeedsAll s hs t
  more : (s : StandingState) (hs : List Heard) (t : StandingState) (h : Heard) (others : List Heard) (between : StandingState)
      → Heeds s h between
      → HeedsAll between others t
      → hs ≡ h ∷ others
      → HeedsAll s hs t

-- their numbers never fall
abbrev pub Ascend : List Heard → Type 0
Ascend hs = IsNonDecreasingBy (λ (h : Heard). h.number) hs

-- entries in the order of their numbers
pub record HeedsInOrder (s : StandingState) (hs : List Heard) (t : StandingState) : Type 0 where
  pub in_order : List Heard
  pub same : IsPermutation hs in_order
  pub ascend : Ascend in_order
  pub heeds : HeedsAll s in_order t

-- ---- followers

-- a stale state, before any entry
abbrev pub new_state : Query → StandingState
new_state q = record { query = q; upto = 0; stale = true; groups = [] }

abbrev pub table_place_of : Follower → TablePlace
table_place_of f = record { leaf = f.leaf; table = f.table; name = f.standing.query.table }

-- what an item means to a follower's table; nothing if its state is stale
abbrev pub meant_for : Item → Follower → List Meant
meant_for x f = if f.standing.stale then [] else meant_in (table_place_of f) x

-- the calls of an item at a table
pub record CallsAt : Type 0 where
  pub at : TableAt
  pub calls : List Meant

abbrev pub table_of : Follower → TableAt
table_of f = record { leaf = f.leaf; table = f.table }

-- the calls at a follower's table; none if its state is stale
abbrev pub calls_for : Item → Follower → Option CallsAt
calls_for x f = if f.standing.stale then None else Some (record { at = table_of f; calls = meant_in (table_place_of f) x })

-- the calls that a follower noted, if it noted any
abbrev pub calls_in : Option CallsAt → List Meant
calls_in None = []
calls_in (Some c) = c.calls

-- what was noted is at the follower's table
abbrev pub IsFor : Option CallsAt → Follower → Type 0
IsFor noted f = IfSome noted (λ c. c.at ≡ table_of f)

-- the same of the first followers, one after another
abbrev pub AreFor : List (Option CallsAt) → List Follower → Type 0
AreFor [] fs = ⊤
AreFor (noted ∷ others) [] = ⊥
AreFor (noted ∷ others) (f ∷ fs) = IsFor noted f × AreFor others fs

-- what was noted of followers is at their tables still
abbrev pub StayInPlace : List Follower → List Follower → Type 0
StayInPlace olds news = (noted : List (Option CallsAt)) → AreFor noted olds → AreFor noted news

-- the follower after the lines of an item that it took note of; a stale one hears nothing
pub record Follows (calls : List Meant) (lines : List Line) (old new : Follower) : Type 0 where
  pub place : table_place_of new ≡ table_place_of old
  pub hears : MatchBool old.standing.stale (new ≡ old) (HeedsInOrder old.standing (heard (table_place_of old) calls lines) new.standing)

-- each follower, by what it took note of; the later ones, which took no note, stay
abbrev pub FollowAll : List (List Meant) → List Line → List Follower → List Follower → Type 0
FollowAll [] lines olds news = news ≡ olds
FollowAll (calls ∷ notes) lines (old ∷ olds) (new ∷ news) = Follows calls lines old new × FollowAll notes lines olds news
FollowAll _ lines _ news = ⊥

abbrev pub new_follower : ℕ → ℕ → Query → Follower
new_follower leaf table q = record { leaf = leaf; table = table; standing = new_state q }

-- a follower made fresh by what the table answered in the entry of this number
abbrev pub settled : ℕ → List Group → Follower → Follower
settled number gs f = record { leaf = f.leaf; table = f.table; standing = record { query = f.standing.query; upto = number; stale = false; groups = gs } }
