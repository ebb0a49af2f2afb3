-- What standing queries heed of an item, kept once for a table.
use Rattle.std.specs.Prelude.{◌≡◌, ℕ, ◌<◌, List, [], ◌∷◌, map, Option, None, Some, IfSome, IsPermutation, MatchBool, Vec, slice_get, ⊤}
use Rattle.std.specs.Global.{Global}
use Rattle.std.specs.List.{AllByRecursion, AllZip}
use Rattle.printed_lines.specs.declared.line.Line.{Line}
use Rattle.standing_feed.specs.declared.follower.Follower.{Follower}
use Rattle.standing_feed.specs.declared.heard.Heard.{Heard}
use Rattle.standing_feed.specs.declared.table_calls.TableCalls.{TableCalls}
use Rattle.standing_feed.specs.Hearing.{heard, named}
use Rattle.standing_feed.specs.Following.{Ascend, CallsAt, Follows, HeedsAll, table_place_of}

-- what is kept in this place
abbrev pub kept_in : {X : Type 0} → List X → Option ℕ → Option X
kept_in xs None = None
kept_in xs (Some place) = slice_get xs place

-- places of something that is kept
abbrev pub AreKept : ℕ → List (Option ℕ) → Type 0
AreKept count places = AllByRecursion (λ (place : Option ℕ). IfSome place (λ (i : ℕ). i < count)) places

abbrev pub calls_at : TableCalls → CallsAt
calls_at t = record { at = t.at; calls = t.calls.items }

abbrev pub entries_of : List (Vec Heard Global) → List (List Heard)
entries_of tables = map (λ (hs : Vec Heard Global). hs.items) tables

-- of the same table, and both fresh or both stale
pub record IsLike (f g : Follower) : Type 0 where
  pub place : table_place_of f ≡ table_place_of g
  pub stale : f.standing.stale ≡ g.standing.stale

-- the entries of a table that lines tell, in the order of their numbers
pub record AreOfTable (lines : List Line) (c : CallsAt) (hs : List Heard) : Type 0 where
  pub same : (name : List ℕ) → IsPermutation (heard (named c.at name) c.calls lines) hs
  pub ascend : Ascend hs

abbrev pub AreHeard : List Line → List TableCalls → List (Vec Heard Global) → Type 0
AreHeard lines tables all = AllZip (λ (t : TableCalls) (hs : Vec Heard Global). AreOfTable lines (calls_at t) hs.items) tables all

abbrev pub IsHeardBy : List Line → Option CallsAt → Option (List Heard) → Type 0
IsHeardBy lines None None = ⊤
IsHeardBy lines (Some c) (Some hs) = AreOfTable lines c hs
IsHeardBy lines _ _ = ⊥

-- a follower was fed these entries; a stale one was not
abbrev pub HeedsTable : List Heard → Follower → Follower → Type 0
HeedsTable hs old new = (table_place_of new ≡ table_place_of old) × MatchBool old.standing.stale (new ≡ old) (HeedsAll old.standing hs new.standing)

abbrev pub HeedsNext : List Line → Option (List Heard) → Follower → Follower → Type 0
HeedsNext lines None old new = Follows [] lines old new
HeedsNext lines (Some hs) old new = HeedsTable hs old new

-- the first of those that are left was fed; if none is, the follower stays
abbrev pub FeedsNext : List Line → List (Option (List Heard)) → List (Option (List Heard)) → Follower → Follower → Type 0
FeedsNext lines [] rest old new = (rest ≡ []) × (new ≡ old)
FeedsNext lines (entries ∷ others) rest old new = (rest ≡ others) × HeedsNext lines entries old new
